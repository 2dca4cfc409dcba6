use Rattle.std.proofs.Common.{◌≡◌, take}
use Rattle.fund_outside.specs.Jobs.{bytes_of_each}
use Rattle.fund_outside.proofs.jobs.copy_parts.Given as goal

abbrev pub invariant-copying : goal.invariant-copying
invariant-copying l = bytes_of_each l.copy.items ≡ bytes_of_each (take l.part-index l.parts)

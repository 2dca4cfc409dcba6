use Rattle.std.proofs.Common.{◌≡◌, take}
use Rattle.std.specs.Prelude.{filter}
use Rattle.output_groups.specs.Formed.{keeps_formed}
use Rattle.output_groups.proofs.groups.kept.Given as goal

abbrev pub invariant-loop-one : goal.invariant-loop-one
invariant-loop-one l = l.kept.items ≡ filter (keeps_formed l.row) (take l.one-index l.formed)

use Rattle.std.proofs.Common.{◌≡◌, take}
use Rattle.search_run.proofs.column_results.copies.Given as goal

abbrev pub invariant-loop-f : goal.invariant-loop-f
invariant-loop-f l = l.copied.items ≡ take l.f-index l.found

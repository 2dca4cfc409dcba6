use Rattle.std.proofs.Common.{◌≡◌, ◌↔◌, drop}
use Rattle.report_check.specs.Proved.{tries_in}
use Rattle.report_check.proofs.tries.are_tries.Given as goal

abbrev pub invariant-loop-section : goal.invariant-loop-section
invariant-loop-section l = (l.fn.tries ≡ tries_in l.sections) ↔ (l.left ≡ tries_in (drop l.section-index l.sections))

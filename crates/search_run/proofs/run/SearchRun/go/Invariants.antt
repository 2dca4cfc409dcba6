use Rattle.std.proofs.Common.{◌+◌, length}
use Rattle.search_run.proofs.HeldLaws.{IsOn}
use Rattle.search_run.proofs.run.SearchRun.go.Given as goal

abbrev pub invariant-on : goal.invariant-on
invariant-on l = IsOn l.initial.self l.fn.budget l.left l.self

abbrev pub decreases-on : goal.decreases-on
decreases-on l = l.left + length l.self.stand.left

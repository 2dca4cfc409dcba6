use Rattle.fee_sharing.proofs.SearchLaws.{IsAlong}
use Rattle.fee_sharing.proofs.searching.try_all.Given as goal

abbrev pub invariant-on : goal.invariant-on
invariant-on l = IsAlong l.initial.search l.fn.tries l.left l.search

abbrev pub decreases-on : goal.decreases-on
decreases-on l = l.left

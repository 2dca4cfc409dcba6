use Rattle.coin_book.specs.Invariant.{weigher}
use Rattle.coin_book.proofs.LentSteps.{FirstSoFar}
use Rattle.coin_book.proofs.lent.first_index.Given as goal

abbrev pub invariant-loop-index : goal.invariant-loop-index
invariant-loop-index l = FirstSoFar (weigher l.weights.entries) l.tx l.scripts l.index

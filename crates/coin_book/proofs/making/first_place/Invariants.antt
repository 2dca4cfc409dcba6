use Rattle.std.proofs.Common.{Option, ℕ}
use Rattle.coin_book.specs.Coins.{NoneBelow, coin_at}
use Rattle.coin_book.specs.Invariant.{weigher}
use Rattle.coin_book.proofs.making.first_place.Given as goal

abbrev pub invariant-loop-index : goal.invariant-loop-index
invariant-loop-index l = (height : Option ℕ) → NoneBelow (coin_at (weigher l.weights.entries) height l.tx) l.index

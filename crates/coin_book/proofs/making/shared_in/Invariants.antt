use Rattle.std.proofs.Common.{◌≡◌, map}
use Rattle.coin_book.specs.Coins.{coin_at, coins_below}
use Rattle.coin_book.specs.Invariant.{held_made, weigher}
use Rattle.coin_book.proofs.making.shared_in.Given as goal

abbrev pub invariant-loop-index : goal.invariant-loop-index
invariant-loop-index l = map held_made l.held.items ≡ coins_below (coin_at (weigher l.weights.entries) l.height l.maker.value) l.index

use Rattle.std.proofs.Common.{◌≡◌, map}
use Rattle.coin_book.specs.Coins.{Made, coin_at, coins_below}
use Rattle.coin_book.specs.Invariant.{weigher}
use Rattle.coin_book.proofs.making.coins_in.Given as goal

abbrev pub invariant-loop-index : goal.invariant-loop-index
invariant-loop-index l = l.coins.items ≡ map (λ (m : Made). m.coin) (coins_below (coin_at (weigher l.weights.entries) l.height l.tx) l.index)

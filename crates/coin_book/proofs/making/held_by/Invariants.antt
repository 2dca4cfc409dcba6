use Rattle.std.proofs.Common.{◌≡◌, map}
use Rattle.coin_book.specs.Invariant.{held_made}
use Rattle.coin_book.specs.declared.coin.Coin.{Coin}
use Rattle.coin_book.proofs.making.held_by.Given as goal

abbrev pub invariant-loop-coin : goal.invariant-loop-coin
invariant-loop-coin l = map held_made l.held.items ≡ map (λ (c : Coin). record { coin = c; maker = l.maker.value }) l.yielded

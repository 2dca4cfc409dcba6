use Rattle.std.proofs.Common.{◌≡◌, take}
use Rattle.std.specs.List.{filter_map}
use Rattle.indexmap.specs.IndexSet.{contains}
use Rattle.fund_base.specs.Outpoints.{same_outpoint}
use Rattle.coin_book.specs.Coins.{coins_of}
use Rattle.coin_book.specs.declared.coin.Coin.{Coin}
use Rattle.payment_states.specs.ByPlace.{chosen_at, place_among}
use Rattle.payment_states.proofs.spendable.all_chosen.Given as goal

abbrev pub invariant-loop-number : goal.invariant-loop-number
invariant-loop-number l =
    l.all.items ≡ filter_map (λ (c : Coin). chosen_at l.book l.tip l.facts.pending.items l.facts.safe.items l.facts.ancestors.items l.facts.descendants.items l.prices (contains same_outpoint l.claimed c.coin) (contains same_outpoint l.locked c.coin) c (place_among l.states c.coin.txid)) (take l.number (coins_of l.book))

use Rattle.std.proofs.Common.{◌≡◌, take}
use Rattle.std.specs.Prelude.{bytes_eq}
use Rattle.std.specs.List.{filter_map}
use Rattle.indexmap.specs.IndexSet.{contains}
use Rattle.fund_base.specs.Outpoints.{same_outpoint}
use Rattle.coin_book.specs.Coins.{coins_of}
use Rattle.coin_book.specs.declared.coin.Coin.{Coin}
use Rattle.payment_facts.specs.LeftOut.{left_by}
use Rattle.payment_facts.proofs.left_out.all_left.Given as goal

abbrev pub invariant-loop-number : goal.invariant-loop-number
invariant-loop-number l =
    l.all.items ≡ filter_map (λ (c : Coin). left_by l.book (contains bytes_eq l.gone) l.tip (contains same_outpoint l.claimed c.coin) (contains same_outpoint l.locked c.coin) c) (take l.number (coins_of l.book))

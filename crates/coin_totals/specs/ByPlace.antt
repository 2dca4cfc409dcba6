-- The class of a coin, by what is known of the pending list and of what is spoken for.
use Rattle.std.specs.Prelude.{ℕ, ◌||◌, Bool, List, is_some, Option}
use Rattle.coin_book.specs.History.{History}
use Rattle.coin_book.specs.declared.coin.Coin.{Coin}
use Rattle.payment_states.specs.ByPlace.{flag_at, place_among}
use Rattle.payment_states.specs.Candidates.{is_deep, is_spent}
use Rattle.payment_states.specs.declared.state.Payment.{Payment}
use Rattle.fund_base.specs.declared.outpoint.OutPoint.{OutPoint}
use Rattle.coin_totals.specs.Classes.{class_by}
use Rattle.coin_totals.specs.declared.classes.ClassedCoin.{ClassedCoin}

-- where the transaction of the coin has this place in the pending list
abbrev pub classed_at : History → ℕ → (pending safe : List Bool) → (claimed locked : Bool) → Coin → Option ℕ → ClassedCoin
classed_at h tip pending safe claimed locked c place = record {
  class = class_by (is_some c.height || flag_at pending place) (is_spent h c.coin) claimed locked (is_deep tip c) (is_some c.height) (flag_at safe place);
  value = c.value;
}

-- the same, by the payments of the list and what tells whether an outpoint is spoken for
abbrev pub classed_by : History → ℕ → (pending safe : List Bool) → (claimed locked : OutPoint → Bool) → List Payment → Coin → ClassedCoin
classed_by h tip pending safe claimed locked payments c = classed_at h tip pending safe (claimed c.coin) (locked c.coin) c (place_among payments c.coin.txid)

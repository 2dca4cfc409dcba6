-- The confirmed transactions: at which height each stands, and what they spend.
use Rattle.std.specs.Prelude.{ℕ, zero, suc, ◌≡◌, All, ◌&&◌, not, List, [], ◌++◌, length, bytes_eq, take, find, slice_get, Bool, Option, Some, None, option_map, option_and_then, if◌then◌else◌}
use Rattle.std.specs.List.{Any, list_any}
use Rattle.std.specs.Option.{option_to_list}
use Rattle.fund_base.specs.Outpoints.{same_outpoint}
use Rattle.fund_base.specs.declared.outpoint.OutPoint.{OutPoint}
use Rattle.tx_codec.specs.declared.tx.TxIn.{TxIn}
use Rattle.tx_codec.specs.Txid.{txid_of}
use Rattle.coin_book.specs.History.{Confirmed}
use Rattle.coin_book.specs.declared.coin.Spend.{Spend}

-- the height of the first transaction of this txid in chain order
unfoldable pub height_of : List Confirmed → List ℕ → Option ℕ
height_of chain txid = option_map (λ (c : Confirmed). c.height) (find (λ (c : Confirmed). bytes_eq (txid_of c.tx) txid) chain)

-- some input spends the outpoint
unfoldable pub has_input : OutPoint → List TxIn → Bool
has_input o inputs = list_any (λ (i : TxIn). same_outpoint i.prev o) inputs

-- some transaction of this txid spends the outpoint
unfoldable pub has_spender : List Confirmed → OutPoint → List ℕ → Bool
has_spender chain o txid = list_any (λ (c : Confirmed). bytes_eq (txid_of c.tx) txid && has_input o c.tx.inputs) chain

-- the transaction at this place of the chain, where it spends the outpoint and none of its txid does so before it
abbrev pub spend_by : List Confirmed → OutPoint → ℕ → Confirmed → Option Spend
spend_by chain o place c =
    if has_input o c.tx.inputs && not (has_spender (take place chain) o (txid_of c.tx))
    then Some (record { txid = txid_of c.tx; height = c.height; place = place }) else None

unfoldable pub spend_at : List Confirmed → OutPoint → ℕ → Option Spend
spend_at chain o place = option_and_then (spend_by chain o place) (slice_get chain place)

-- those at the first places, in order
unfoldable pub spends_below : List Confirmed → OutPoint → ℕ → List Spend
spends_below chain o zero = []
spends_below chain o (suc n) = spends_below chain o n ++ option_to_list (spend_at chain o n)

-- The confirmed transactions that spend the outpoint, in chain order: of those that have one txid the first alone.
abbrev pub spends_of : List Confirmed → OutPoint → List Spend
spends_of chain o = spends_below chain o (length chain)

-- The chain holds a transaction at the place of s that has its txid and height and spends the outpoint by some input,
-- and none of its txid does so before it.
pub record IsSpendOf (chain : List Confirmed) (o : OutPoint) (s : Spend) : Type 0 where
  pub by : Confirmed
  pub stands : slice_get chain s.place ≡ Some by
  pub txid_is : s.txid ≡ txid_of by.tx
  pub height_is : s.height ≡ by.height
  pub spends : Any (λ (i : TxIn). i.prev ≡ o) by.tx.inputs
  pub first : All (λ (c : Confirmed). txid_of c.tx ≡ s.txid → Any (λ (i : TxIn). i.prev ≡ o) c.tx.inputs → ⊥) (take s.place chain)

-- What outpoints are worth, and what transactions pay.
use Rattle.std.specs.Prelude.{ℕ, ◌≡◌, ◌≢◌, ◌<◌, ◌⊎◌, ◌-◌, List, [], ◌++◌, ◌∷◌, length, map, find, fold, min, sum_by, slice_get, unwrap_or, bytes_eq, is_none, All, Contains, Option, Some, option_map, option_and_then, if◌then◌else◌}
use Rattle.std.specs.List.{list_any}
use Rattle.std.specs.Option.{option_or}
use Rattle.fund_base.specs.Outpoints.{same_outpoint}
use Rattle.fund_base.specs.declared.outpoint.OutPoint.{OutPoint}
use Rattle.tx_codec.specs.Transaction.{Transaction}
use Rattle.tx_codec.specs.Txid.{txid_of}
use Rattle.tx_codec.specs.declared.tx.TxIn.{TxIn}
use Rattle.tx_codec.specs.declared.tx.TxOut.{TxOut}
use Rattle.coin_book.specs.AtOutpoint.{coin_under}
use Rattle.coin_book.specs.Coins.{coins_of}
use Rattle.coin_book.specs.History.{History}
use Rattle.coin_book.specs.declared.coin.Coin.{Coin}

-- ---- what outpoints are worth

-- outpoints in order, each where it stands first
abbrev pub add_once : List OutPoint → OutPoint → List OutPoint
add_once points o = if list_any (same_outpoint o) points then points else points ++ o ∷ []

unfoldable pub once_of : List OutPoint → List OutPoint
once_of points = fold add_once [] points

-- the outpoints that a transaction spends, each once
abbrev pub spent_by : Transaction → List OutPoint
spent_by t = once_of (map (λ (i : TxIn). i.prev) t.inputs)

-- the output that an outpoint names, of one of these transactions
abbrev pub output_among : List Transaction → OutPoint → Option TxOut
output_among ts o = option_and_then (λ (t : Transaction). slice_get t.outputs o.index) (find (λ (t : Transaction). bytes_eq o.txid (txid_of t)) ts)

-- What an outpoint is worth in satoshi, where that is known: the value of the coin there, or else of the output of one of
-- these transactions.
unfoldable pub worth_of : History → List Transaction → OutPoint → Option ℕ
worth_of h ts o = option_or (option_map (λ (c : Coin). c.value) (coin_under h o)) (option_map (λ (x : TxOut). x.value) (output_among ts o))

-- a coin is there, or it names an output of one of these transactions
abbrev pub IsKnown : History → List Transaction → OutPoint → Type 0
IsKnown h ts o =
    ((c : Coin) × Contains (coins_of h) c × (c.coin ≡ o))
    ⊎ ((t : Transaction) × Contains ts t × (txid_of t ≡ o.txid) × (o.index < length t.outputs))

-- the coin there has this value
pub record IsCoinsWorth (h : History) (o : OutPoint) (value : ℕ) : Type 0 where
  pub coin : Coin
  pub stands : Contains (coins_of h) coin
  pub point : coin.coin ≡ o
  pub value_is : coin.value ≡ value

-- no coin is there, and the output that it names of one of these transactions has this value
pub record IsOutputsWorth (h : History) (ts : List Transaction) (o : OutPoint) (value : ℕ) : Type 0 where
  pub none : All (λ (c : Coin). c.coin ≢ o) (coins_of h)
  pub tx : Transaction
  pub output : TxOut
  pub listed : Contains ts tx
  pub txid_is : txid_of tx ≡ o.txid
  pub stands : slice_get tx.outputs o.index ≡ Some output
  pub value_is : output.value ≡ value

-- the first of these outpoints that is neither a coin's nor that of an output of one of the transactions
abbrev pub first_foreign : History → List Transaction → List OutPoint → Option OutPoint
first_foreign h ts points = find (λ o. is_none (worth_of h ts o)) points

-- ---- fees

-- what a transaction spends, each outpoint counted once
abbrev pub value_spent : History → List Transaction → Transaction → ℕ
value_spent h ts t = sum_by (λ o. unwrap_or (worth_of h ts o) 0) (spent_by t)

-- What a transaction pays, in satoshi: what it spends, less its outputs; 0 where these take more. What it spends are coins
-- and outputs of the transactions that go with it.
abbrev pub paid_by : History → List Transaction → Transaction → ℕ
paid_by h ts t = value_spent h ts t - sum_by (λ (x : TxOut). x.value) t.outputs

-- The fee of a transaction, in satoshi: what it pays, at most 21,000,000 bitcoin.
unfoldable pub fee_in : History → List Transaction → Transaction → ℕ
fee_in h ts t = min 2_100_000_000_000_000 (paid_by h ts t)

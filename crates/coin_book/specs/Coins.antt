-- The coins of a history, in order of creation.
use Rattle.std.specs.Prelude.{ℕ, zero, suc, ◌≡◌, ◌<◌, false, true, is_some, List, [], ◌++◌, length, map, filter, flat_map, bytes_eq, slice_get, find, is_none, nat_le, Bool, Option, Some, None, option_map, option_and_then, if◌then◌else◌}
use Rattle.std.specs.Option.{option_to_list}
use Rattle.fund_base.specs.Outpoints.{same_outpoint}
use Rattle.fund_base.specs.declared.outpoint.OutPoint.{OutPoint}
use Rattle.tx_codec.specs.declared.tx.TxOut.{TxOut}
use Rattle.tx_codec.specs.Transaction.{Transaction}
use Rattle.tx_codec.specs.Txid.{txid_of}
use Rattle.wallet_text.specs.declared.wallet.Watch.{Watch}
use Rattle.coin_book.specs.Coinbase.{is_coinbase_of}
use Rattle.coin_book.specs.History.{Confirmed, History}
use Rattle.coin_book.specs.Spends.{height_of}
use Rattle.coin_book.specs.declared.coin.Coin.{Coin}

-- a coin, and the transaction whose output it is
pub record Made : Type 0 where
  pub coin : Coin
  pub maker : Transaction

-- the weight that is declared for an input which spends this script, where the script is listed
abbrev pub weight_for : List Watch → List ℕ → Option ℕ
weight_for scripts script = option_map (λ (s : Watch). s.weight) (find (λ (s : Watch). bytes_eq script s.script) scripts)

-- An output of a transaction as a coin, where its script is listed. The transaction's height is given, where it has
-- one, and the listed scripts with their weights by weigh.
unfoldable pub coin_of : (List ℕ → Option ℕ) → Option ℕ → Transaction → ℕ → TxOut → Option Made
coin_of weigh height t index output = option_map (λ weight. record {
  coin = record {
    coin = record { txid = txid_of t; index = index };
    value = output.value;
    script = output.script;
    weight = weight;
    height = height;
    coinbase = is_coinbase_of t;
  };
  maker = t;
}) (weigh output.script)

-- the coin at this place of a transaction's outputs; the place is at most 4,294,967,295
unfoldable pub coin_at : (List ℕ → Option ℕ) → Option ℕ → Transaction → ℕ → Option Made
coin_at weigh height t index = if nat_le index 4294967295 then option_and_then (coin_of weigh height t index) (slice_get t.outputs index) else None

-- those at the first places, in order
unfoldable pub coins_below : (ℕ → Option Made) → ℕ → List Made
coins_below coin zero = []
coins_below coin (suc n) = coins_below coin n ++ option_to_list (coin n)

-- no coin stands at the places below this one
abbrev pub NoneBelow : (ℕ → Option Made) → ℕ → Type 0
NoneBelow coin n = (k : ℕ) → k < n → is_some (coin k) ≡ false

-- the first place below the end at which a coin stands, or none
abbrev pub IsFirstPlace : (ℕ → Option Made) → ℕ → Option ℕ → Type 0
IsFirstPlace coin end None = NoneBelow coin end
IsFirstPlace coin end (Some place) = (place < end) × NoneBelow coin place × (is_some (coin place) ≡ true)

-- the coins of a transaction
unfoldable pub made_in : (List ℕ → Option ℕ) → Option ℕ → Transaction → List Made
made_in weigh height t = coins_below (coin_at weigh height t) (length t.outputs)

-- the coins of a confirmed transaction
abbrev pub made_by : (List ℕ → Option ℕ) → Confirmed → List Made
made_by weigh c = made_in weigh (Some c.height) c.tx

-- no confirmed transaction has its txid
abbrev pub is_open : List Confirmed → Transaction → Bool
is_open chain t = is_none (height_of chain (txid_of t))

-- the coins of confirmed transactions
abbrev pub confirmed_made : History → List Made
confirmed_made h = flat_map (made_by (weight_for h.scripts)) h.confirmed

-- the coins of the pending transactions that aren't confirmed too
abbrev pub pending_made : History → List Made
pending_made h = flat_map (made_in (weight_for h.scripts) None) (filter (is_open h.confirmed) h.pending)

-- all coins with their transactions: confirmed ones in chain order, then pending ones
unfoldable pub made_of : History → List Made
made_of h = confirmed_made h ++ pending_made h

-- the coins
abbrev pub coins_of : History → List Coin
coins_of h = map (λ (m : Made). m.coin) (made_of h)

-- the transaction whose output is the coin at this outpoint
abbrev pub parent_of : History → OutPoint → Option Transaction
parent_of h o = option_map (λ (m : Made). m.maker) (find (λ (m : Made). same_outpoint o m.coin.coin) (made_of h))

-- A wallet and its book as if some pending transactions had never been written down.
use Rattle.std.specs.Prelude.{ℕ, ◌+◌, ◌-◌, ◌&&◌, not, Bool, true, false, List, filter, map, is_none, is_some, Option, Some, None, if◌then◌else◌}
use Rattle.std.specs.List.{list_all}
use Rattle.std.specs.Option.{option_map_or}
use Rattle.coin_candidates.specs.declared.candidate.Candidate.{Candidate}
use Rattle.fund_base.specs.declared.outpoint.OutPoint.{OutPoint}
use Rattle.tx_codec.specs.Transaction.{Transaction}
use Rattle.tx_codec.specs.Txid.{txid_of}
use Rattle.tx_codec.specs.declared.tx.TxIn.{TxIn}
use Rattle.wallet_text.specs.PlainWallet.{PlainWallet}
use Rattle.coin_book.specs.Coins.{coins_of, parent_of}
use Rattle.coin_book.specs.History.{History}
use Rattle.coin_book.specs.Spends.{height_of}
use Rattle.coin_book.specs.declared.coin.Coin.{Coin}
use Rattle.payment_states.specs.Candidates.{candidate_of, is_candidate, is_coin, is_deep, is_spent}
use Rattle.payment_states.specs.PendingView.{is_listed}

-- the transactions whose txids aren't among these, in order
abbrev pub left_of : List (List ℕ) → List Transaction → List Transaction
left_of gone ts = filter (λ (t : Transaction). not (is_listed gone (txid_of t))) ts

-- the wallet, its pending list being written without the transactions of these txids
abbrev pub wallet_without : List (List ℕ) → PlainWallet → PlainWallet
wallet_without gone w = record w { pending = left_of gone w.pending }

-- what its book is made from
abbrev pub history_without : List (List ℕ) → History → History
history_without gone h = record h { pending = left_of gone h.pending }

-- the coin's transaction is confirmed, and it may be spent
abbrev pub is_confirmed_candidate : PlainWallet → History → ℕ → Coin → Bool
is_confirmed_candidate w h tip c = is_some c.height && is_candidate w h tip c

-- the coins that may be spent and are confirmed, in order of creation; the price of each is 0
abbrev pub confirmed_candidates : PlainWallet → History → ℕ → List Candidate
confirmed_candidates w h tip = map (candidate_of w h tip 0) (filter (is_confirmed_candidate w h tip) (coins_of h))

-- Those that there are as if the pending list had been written without the transactions of these txids. Of outputs of
-- these none is a coin then.
unfoldable pub confirmed_without_of : PlainWallet → History → ℕ → List (List ℕ) → List Candidate
confirmed_without_of w h tip gone = confirmed_candidates (wallet_without gone w) (history_without gone h) tip

-- ---- the same, from the whole book, by what tells whether a transaction of a txid is left out

-- the outpoint is a coin's that stays one
abbrev pub stays_coin : History → (gone : List ℕ → Bool) → OutPoint → Bool
stays_coin h gone o = is_coin (coins_of h) o && not (gone o.txid && is_none (height_of h.confirmed o.txid))

-- every input spends such a coin
abbrev pub stays_mine : History → (gone : List ℕ → Bool) → Transaction → Bool
stays_mine h gone t = list_all (λ (i : TxIn). stays_coin h gone i.prev) t.inputs

-- the transaction of the coin does
abbrev pub comes_from_left : History → (gone : List ℕ → Bool) → Coin → Bool
comes_from_left h gone c = option_map_or (stays_mine h gone) (parent_of h c.coin) false

-- a confirmed coin that may be spent, where it is known which transactions are left out and what is spoken for
abbrev pub left_at : History → (gone : List ℕ → Bool) → ℕ → Bool → Bool → Coin → Option ℕ → Option Candidate
left_at h gone tip claimed locked c None = None
left_at h gone tip claimed locked c (Some height) =
    if not (is_spent h c.coin) && (not claimed && (not locked && is_deep tip c))
    then Some (record {
      coin = c.coin;
      value = c.value;
      weight = c.weight;
      script = c.script;
      depth = tip + 1 - height;
      mine = comes_from_left h gone c;
      safe = true;
      ancestors = 0;
      descendants = 0;
      price = 0;
    })
    else None

abbrev pub left_by : History → (gone : List ℕ → Bool) → ℕ → Bool → Bool → Coin → Option Candidate
left_by h gone tip claimed locked c = left_at h gone tip claimed locked c c.height

-- Which coins may be spent, and what is known of each.
use Rattle.std.specs.Prelude.{ℕ, ◌==◌, ◌+◌, ◌-◌, ◌&&◌, ◌||◌, not, Bool, true, false, List, map, filter, length, min, count_by, sum_by, nat_le, is_some, Option, Some, None}
use Rattle.std.specs.List.{list_any, list_all}
use Rattle.std.specs.Option.{option_map_or}
use Rattle.fund_base.specs.Outpoints.{same_outpoint}
use Rattle.coin_candidates.specs.declared.candidate.Candidate.{Candidate}
use Rattle.fund_base.specs.declared.outpoint.OutPoint.{OutPoint}
use Rattle.tx_codec.specs.Transaction.{Transaction}
use Rattle.tx_codec.specs.Txid.{txid_of}
use Rattle.tx_codec.specs.declared.tx.TxIn.{TxIn}
use Rattle.wallet_text.specs.PlainWallet.{PlainWallet}
use Rattle.coin_book.specs.Coins.{coins_of, parent_of}
use Rattle.coin_book.specs.History.{History}
use Rattle.coin_book.specs.Spends.{has_input, spends_of}
use Rattle.coin_book.specs.declared.coin.Coin.{Coin}
use Rattle.known_fees.specs.Missing.{missing_of}
use Rattle.payment_states.specs.Graph.{within, below, kin}
use Rattle.payment_states.specs.Payments.{state_at}
use Rattle.payment_states.specs.PendingView.{PendingView, view_of, tx_at, parents, graph, kin_of, place_in}
use Rattle.payment_states.specs.declared.state.State.{State}
use Rattle.payment_states.specs.declared.state.State.TheVariants as state
use Rattle.std.specs.Prelude.{bytes_eq}

abbrev pub is_pending_state : State → Bool
is_pending_state state.Pending = true
is_pending_state _ = false

-- the transaction at this place is Pending
abbrev pub is_pending : PendingView → ℕ → Bool
is_pending w i = is_pending_state (state_at w i)

abbrev pub is_replaced_by : List ℕ → State → Bool
is_replaced_by txid (state.Replaced by) = bytes_eq by txid
is_replaced_by txid _ = false

-- a transaction is Replaced by the one of this txid
abbrev pub replaces : PendingView → List ℕ → Bool
replaces w txid = list_any (λ j. is_replaced_by txid (state_at w j)) (below (length w.pending))

-- the outpoint is that of a coin
abbrev pub is_coin : List Coin → OutPoint → Bool
is_coin coins o = list_any (λ (c : Coin). same_outpoint o c.coin) coins

-- every input spends a coin
abbrev pub is_mine : List Coin → Transaction → Bool
is_mine coins t = list_all (λ (i : TxIn). is_coin coins i.prev) t.inputs

-- at each place the parents that are Pending
abbrev pub pending_graph : PendingView → List (List ℕ)
pending_graph w = map (λ (t : Transaction). filter (is_pending w) (parents w.chain w.pending t)) w.pending

-- the transaction at this place is mine and replaces none
unfoldable pub is_own : PendingView → List Coin → ℕ → Bool
is_own w coins j = is_mine coins (tx_at w j) && not (replaces w (txid_of (tx_at w j)))

-- so are it and all that it reaches through Pending parents alone
unfoldable pub is_safe : PendingView → List Coin → ℕ → Bool
is_safe w coins i = list_all (is_own w coins) (kin (pending_graph w) i)

-- the greatest number that is given
abbrev pub most : ℕ
most = 4_294_967_295

-- the number of Pending ones among it and its ancestors
abbrev pub ancestors : PendingView → ℕ → ℕ
ancestors w i = min most (count_by (is_pending w) (kin_of w i))

-- the number of Pending ones among it and its descendants
abbrev pub descendants : PendingView → ℕ → ℕ
descendants w i = min most (count_by (λ j. is_pending w j && within (graph w) (length (graph w)) j i) (below (length w.pending)))

-- What is missing at the rate of what the transaction at this place of the pending list pays, in satoshi; 0 where that isn't
-- known. It is known where each input spends a coin of the book, or an output of a transaction of the pending list, whatever
-- the state of that one.
abbrev pub share_at : PlainWallet → History → (rate : ℕ) → ℕ → ℕ
share_at w h rate j = missing_of rate h w.pending (tx_at (view_of w h) j)

-- The price of what the transaction at this place makes, in satoshi: what raises each Pending one among it and its ancestors
-- to the rate, each by itself and each once for this coin; at most 21,000,000 bitcoin. Coins that have an ancestor in common
-- each pay for it.
unfoldable pub price_at : PlainWallet → History → (rate : ℕ) → ℕ → ℕ
price_at w h rate i = min 2_100_000_000_000_000 (sum_by (share_at w h rate) (filter (is_pending (view_of w h)) (kin_of (view_of w h) i)))

-- the prices at the places of the pending list
abbrev pub prices_in : PlainWallet → History → (rate : ℕ) → List ℕ
prices_in w h rate = map (price_at w h rate) (below (length w.pending))

-- how many blocks deep a transaction of this height is; 0 if it has none
abbrev pub depth : ℕ → Option ℕ → ℕ
depth tip None = 0
depth tip (Some height) = tip + 1 - height

-- the transaction of the coin is mine
abbrev pub comes_from_mine : History → Coin → Bool
comes_from_mine h c = option_map_or (is_mine (coins_of h)) (parent_of h c.coin) false

-- What is known at a rate of a coin whose transaction has this place in the pending list, where it waits for a block. The price
-- of a confirmed one is 0.
abbrev pub candidate_at : PlainWallet → History → (tip rate : ℕ) → Coin → Option ℕ → Option ℕ → Candidate
candidate_at w h tip rate c (Some height) place = record {
  coin = c.coin;
  value = c.value;
  weight = c.weight;
  script = c.script;
  depth = depth tip (Some height);
  mine = comes_from_mine h c;
  safe = true;
  ancestors = 0;
  descendants = 0;
  price = 0;
}
candidate_at w h tip rate c None place = record {
  coin = c.coin;
  value = c.value;
  weight = c.weight;
  script = c.script;
  depth = 0;
  mine = comes_from_mine h c;
  safe = option_map_or (is_safe (view_of w h) (coins_of h)) place false;
  ancestors = option_map_or (ancestors (view_of w h)) place 0;
  descendants = option_map_or (descendants (view_of w h)) place 0;
  price = option_map_or (price_at w h rate) place 0;
}

abbrev pub candidate_of : PlainWallet → History → (tip rate : ℕ) → Coin → Candidate
candidate_of w h tip rate c = candidate_at w h tip rate c c.height (place_in w.pending c.coin.txid)

-- the coin's transaction is Confirmed or Pending
abbrev pub is_live : PlainWallet → History → Coin → Bool
is_live w h c = is_some c.height || option_map_or (is_pending (view_of w h)) (place_in w.pending c.coin.txid) false

-- a confirmed transaction spends the outpoint
abbrev pub is_spent : History → OutPoint → Bool
is_spent h o = not (length (spends_of h.confirmed o) == 0)

-- a Pending transaction spends the outpoint
abbrev pub is_claimed : PendingView → OutPoint → Bool
is_claimed w o = list_any (λ i. is_pending w i && has_input o (tx_at w i).inputs) (below (length w.pending))

-- the outpoint is locked
abbrev pub is_locked : PlainWallet → OutPoint → Bool
is_locked w o = list_any (λ x. same_outpoint x o) w.locked

-- a coinbase's coin is at least 101 deep
abbrev pub is_deep : ℕ → Coin → Bool
is_deep tip c = not c.coinbase || nat_le 101 (depth tip c.height)

-- The coin may be spent.
unfoldable pub is_candidate : PlainWallet → History → ℕ → Coin → Bool
is_candidate w h tip c =
    is_live w h c && (not (is_spent h c.coin) && (not (is_claimed (view_of w h) c.coin) && (not (is_locked w c.coin) && is_deep tip c)))

-- the coins that may be spent in order of creation, with what is known of each at a rate
unfoldable pub candidates_of : PlainWallet → History → (tip rate : ℕ) → List Candidate
candidates_of w h tip rate = map (candidate_of w h tip rate) (filter (is_candidate w h tip) (coins_of h))

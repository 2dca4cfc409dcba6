-- What the steps of finding states speak of.
use Rattle.std.specs.Prelude.{ℕ, ◌+◌, ◌-◌, ◌&&◌, ◌||◌, not, Bool, true, false, List, [], length, find, position, slice_get, slice_index_or, nat_lt, nat_eq, bytes_eq, is_some, ◌≡◌, Option, Some, None, option_map, option_and_then, if◌then◌else◌}
use Rattle.std.specs.List.{filter_map}
use Rattle.std.specs.Map.{lookup}
use Rattle.std.specs.Option.{option_map_or}
use Rattle.coin_candidates.specs.declared.candidate.Candidate.{Candidate}
use Rattle.fund_base.specs.declared.outpoint.OutPoint.{OutPoint}
use Rattle.tx_codec.specs.Transaction.{Transaction}
use Rattle.tx_codec.specs.declared.tx.TxIn.{TxIn}
use Rattle.coin_book.specs.History.{Confirmed, History}
use Rattle.coin_book.specs.declared.coin.Coin.{Coin}
use Rattle.payment_states.specs.Candidates.{comes_from_mine, is_deep, is_spent}
use Rattle.payment_states.specs.declared.own_coins.Standing.{Standing}
use Rattle.coin_book.specs.Spends.{height_of, spends_of}
use Rattle.coin_book.specs.declared.coin.Spend.{Spend}
use Rattle.payment_states.specs.Graph.{below}
use Rattle.payment_states.specs.Least.{least_by, value_at}
use Rattle.payment_states.specs.Payments.{first_of, txid_in}
use Rattle.payment_states.specs.declared.state.Payment.{Payment}
use Rattle.payment_states.specs.PendingView.{PendingView, no_tx, shares}

abbrev pub view_by : List Confirmed → List Transaction → List (List ℕ) → PendingView
view_by chain pending abandoned = record { chain = chain; pending = pending; abandoned = abandoned }

-- the place of a txid among these, unless a transaction of this txid is confirmed
abbrev pub place_by : List Confirmed → List (List ℕ) → List ℕ → Option ℕ
place_by chain txids txid = if is_some (height_of chain txid) then None else position (bytes_eq txid) txids

-- the places of the parents of a transaction that spends by these inputs
abbrev pub parents_by : List Confirmed → List (List ℕ) → List TxIn → List ℕ
parents_by chain txids inputs = filter_map (λ (i : TxIn). place_by chain txids i.prev.txid) inputs

-- the place of the first confirmed transaction that spends the outpoint
abbrev pub first_place : List Confirmed → OutPoint → Option ℕ
first_place chain o = option_map (λ (s : Spend). s.place) (slice_get (spends_of chain o) 0)

-- the first place of those of these inputs' outpoints
abbrev pub first_conflict : List Confirmed → List TxIn → Option ℕ
first_conflict chain inputs = least_by (λ (i : TxIn). first_place chain i.prev) inputs

-- the entries tell the txid at this place of the chain
abbrev pub FindsTxid : List Confirmed → List (ℕ × List ℕ) → ℕ → Type 0
FindsTxid chain names place = lookup (nat_eq place) names ≡ txid_in chain place

-- the place, where the test passes
abbrev pub place_if : Bool → ℕ → Option ℕ
place_if b i = if b then Some i else None

-- the first later place whose transaction shares an outpoint with the one at place j and that passes the test
abbrev pub replacer_by : List Transaction → List Bool → ℕ → Option ℕ
replacer_by pending alive j =
    find (λ k. nat_lt j k && (shares (slice_index_or pending j no_tx) (slice_index_or pending k no_tx) && slice_index_or alive k false)) (below (length pending))

-- a payment, from what was found at each place
abbrev pub payment_by : List (List ℕ) → List (Option ℕ) → List (Option (List ℕ)) → List Bool → List (Option ℕ) → List (Option ℕ) → ℕ → Payment
payment_by txids heights conflicts abandoned found firsts i = record {
  txid = slice_index_or txids i [];
  state = first_of (value_at heights i) (slice_index_or conflicts i None) (slice_index_or abandoned i false) (option_and_then (slice_get txids) (option_and_then (value_at found) (value_at firsts i)));
}

-- the flag at a place, if there is one
abbrev pub flag_at : List Bool → Option ℕ → Bool
flag_at flags place = option_map_or (λ i. slice_index_or flags i false) place false

-- the number at a place, if there is one
abbrev pub number_at : List ℕ → Option ℕ → ℕ
number_at numbers place = option_map_or (λ i. slice_index_or numbers i 0) place 0

-- how a coin stands
abbrev pub standing_by : ℕ → List Bool → List ℕ → List ℕ → List ℕ → Option ℕ → Option ℕ → Standing
standing_by tip safe ancestors descendants prices (Some height) place = record { depth = tip + 1 - height; safe = true; ancestors = 0; descendants = 0; price = 0 }
standing_by tip safe ancestors descendants prices None place = record {
  depth = 0;
  safe = flag_at safe place;
  ancestors = number_at ancestors place;
  descendants = number_at descendants place;
  price = number_at prices place;
}

-- a coin that stands so
abbrev pub candidate_by : History → Coin → Standing → Candidate
candidate_by h c s = record {
  coin = c.coin;
  value = c.value;
  weight = c.weight;
  script = c.script;
  depth = s.depth;
  mine = comes_from_mine h c;
  safe = s.safe;
  ancestors = s.ancestors;
  descendants = s.descendants;
  price = s.price;
}

-- the place of a txid among payments
abbrev pub place_among : List Payment → List ℕ → Option ℕ
place_among payments txid = position (λ (p : Payment). bytes_eq txid p.txid) payments

-- a coin may be spent, where it is known whether its transaction counts and what is spoken for
abbrev pub chosen_by : History → ℕ → Bool → Bool → Bool → Coin → Bool
chosen_by h tip pending claimed locked c = (is_some c.height || pending) && (not (is_spent h c.coin) && (not claimed && (not locked && is_deep tip c)))

-- the coin, if it may be spent
abbrev pub chosen_at : History → ℕ → List Bool → List Bool → List ℕ → List ℕ → List ℕ → Bool → Bool → Coin → Option ℕ → Option Candidate
chosen_at h tip pending safe ancestors descendants prices claimed locked c place =
    if chosen_by h tip (flag_at pending place) claimed locked c then Some (candidate_by h c (standing_by tip safe ancestors descendants prices c.height place)) else None

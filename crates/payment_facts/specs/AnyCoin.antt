-- What is known of any coin, whether or not it may be spent.
use Rattle.std.specs.Prelude.{ℕ, ◌≡◌, ◌<◌, false, true, List, length, map, slice_index_or, Option, option_map}
use Rattle.std.specs.List.{filter_map}
use Rattle.std.specs.Option.{option_map_or}
use Rattle.coin_candidates.specs.declared.candidate.Candidate.{Candidate}
use Rattle.fund_base.specs.declared.outpoint.OutPoint.{OutPoint}
use Rattle.wallet_text.specs.PlainWallet.{PlainWallet}
use Rattle.coin_book.specs.AtOutpoint.{coin_under}
use Rattle.coin_book.specs.Coins.{coins_of}
use Rattle.coin_book.specs.History.{History}
use Rattle.payment_states.specs.Candidates.{ancestors, candidate_of, descendants, is_pending, is_safe, price_at}
use Rattle.payment_states.specs.Graph.{below}
use Rattle.payment_states.specs.PendingView.{view_of}
use Rattle.payment_states.specs.declared.pending_facts.Facts.{Facts}
use Rattle.payment_states.specs.declared.own_coins.Standing.{Standing}

-- The coin at an outpoint, with what is known of it at a rate, and nothing where no coin is there. Of a coin whose transaction is
-- neither confirmed nor Pending it is safe exactly where its transaction and all that it reaches through Pending parents
-- spend coins alone and replace no payment; what is counted, and what has a share in its price, are the Pending ones.
unfoldable pub facts_at : PlainWallet → History → (tip rate : ℕ) → OutPoint → Option Candidate
facts_at w h tip rate o = option_map (candidate_of w h tip rate) (coin_under h o)

-- the coins at these outpoints, in order
abbrev pub facts_among : PlainWallet → History → (tip rate : ℕ) → List OutPoint → List Candidate
facts_among w h tip rate points = filter_map (facts_at w h tip rate) points

-- what is known of the pending list is right
pub record AreFacts (w : PlainWallet) (h : History) (f : Facts) : Type 0 where
  pub pending : f.pending.items ≡ map (is_pending (view_of w h)) (below (length w.pending))
  pub safe : f.safe.items ≡ map (is_safe (view_of w h) (coins_of h)) (below (length w.pending))
  pub ancestors : (i : ℕ) → i < length w.pending → is_pending (view_of w h) i ≡ true → slice_index_or f.ancestors.items i 0 ≡ ancestors (view_of w h) i
  pub descendants : (i : ℕ) → slice_index_or f.descendants.items i 0 ≡ descendants (view_of w h) i

-- how a coin stands that has no height, and whose transaction is at this place of the pending list
abbrev pub waiting_at : PlainWallet → History → (rate : ℕ) → Option ℕ → Standing
waiting_at w h rate place = record {
  depth = 0;
  safe = option_map_or (is_safe (view_of w h) (coins_of h)) place false;
  ancestors = option_map_or (ancestors (view_of w h)) place 0;
  descendants = option_map_or (descendants (view_of w h)) place 0;
  price = option_map_or (price_at w h rate) place 0;
}

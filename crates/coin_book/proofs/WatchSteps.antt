-- What is kept of a chain of which some is watched.
use Rattle.std.proofs.Common.{◌≡◌, ◌∙◌, ℕ, Bool, true, false, cond, ◌||◌, List, [], ◌∷◌, ◌++◌, map, Option, None, All, refl, sym, ap, true≢false}
use Rattle.std.specs.Prelude.{bytes_eq}
use Rattle.std.specs.List.{list_any}
use Rattle.std.specs.Map.{lookup}
use Rattle.std.specs.Option.{option_or}
use Rattle.std.proofs.lemmas.List.Elements.{All-head, All-tail}
use Rattle.std.proofs.lemmas.Slice.Eq.{bytes_eq-Decides}
use Rattle.fund_base.specs.declared.outpoint.OutPoint.{OutPoint}
use Rattle.tx_codec.specs.Transaction.{Transaction}
use Rattle.tx_codec.specs.Txid.{txid_of}
use Rattle.coin_book.specs.Asked.{Suffices}
use Rattle.coin_book.specs.History.{Confirmed, History}
use Rattle.coin_book.specs.Invariant.{HoldsChain}
use Rattle.coin_book.specs.Spends.{height_of, spends_below, spends_of}
use Rattle.coin_book.specs.Watched.{IsWatched, PlainWatched, WatchedHistory, everything, kept_height, kept_spends, watches, watches_txid}
use Rattle.coin_book.specs.Places.{spends_in}
use Rattle.coin_book.specs.declared.coin.Spend.{Spend}
use Rattle.coin_book.specs.declared.ledger.Ledger.{Ledger}

pub history_is : {a b : WatchedHistory} → a ≡ b → a.history ≡ b.history
history_is e = ap (λ (v : WatchedHistory). v.history) e

pub watched_is : {a b : WatchedHistory} → a ≡ b → a.watched ≡ b.watched
watched_is e = ap (λ (v : WatchedHistory). v.watched) e

-- ---- what is kept of what is watched is all

pub seen_height : (w : PlainWatched) (chain : List Confirmed) (t : List ℕ) → watches_txid w t ≡ true → kept_height w chain t ≡ height_of chain t
unfolding kept_height
seen_height w chain t is = ap (λ (b : Bool). cond b (height_of chain t) None) is

pub seen_spends : (w : PlainWatched) (chain : List Confirmed) (o : OutPoint) → watches w o ≡ true → kept_spends w chain o ≡ spends_of chain o
unfolding kept_spends
seen_spends w chain o is = ap (λ (b : Bool). cond b (spends_of chain o) []) is

-- all is kept of everything
pub suffices : (h : History) → Suffices (record { history = h; watched = everything })
unfolding watches watches_txid
suffices h = record { spends = λ o asked. refl; heights = λ t asked. refl }

pub all_suffices : (v : WatchedHistory) → v.watched ≡ everything → Suffices v
all_suffices v is = record {
  spends = λ o asked. ap (λ (w : PlainWatched). watches w o) is ∙ (suffices v.history).spends o asked;
  heights = λ t asked. ap (λ (w : PlainWatched). watches_txid w t) is ∙ (suffices v.history).heights t asked;
}

pub all_watched : (w : PlainWatched) (t : Transaction) → w ≡ everything → IsWatched w t
unfolding watches watches_txid
all_watched w t is = record {
  txid = ap (λ (v : PlainWatched). watches_txid v (txid_of t)) is;
  inputs = λ o spends. ap (λ (v : PlainWatched). watches v o) is;
}

-- ---- nothing is kept of no chain

pub no_height : (w : PlainWatched) (t : List ℕ) → kept_height w [] t ≡ None
unfolding kept_height height_of
no_height w t = by (watches_txid w t)
  where
    by : (b : Bool) → cond b (height_of [] t) None ≡ None
    by true = refl
    by false = refl

pub no_spends : (w : PlainWatched) (o : OutPoint) → kept_spends w [] o ≡ []
unfolding kept_spends spends_below
no_spends w o = by (watches w o)
  where
    by : (b : Bool) → cond b (spends_of [] o) [] ≡ []
    by true = refl
    by false = refl

-- ---- what a ledger with nothing before it holds

pub height_held : (w : PlainWatched) (weigh : List ℕ → Option ℕ) (chain : List Confirmed) (l : Ledger) (t : List ℕ) → HoldsChain w weigh [] chain l → kept_height w chain t ≡ lookup (bytes_eq t) l.heights.entries
height_held w weigh chain l t h = h.heights t ∙ ap (λ (o : Option ℕ). option_or o (lookup (bytes_eq t) l.heights.entries)) (no_height w t)

pub spends_held : (w : PlainWatched) (weigh : List ℕ → Option ℕ) (chain : List Confirmed) (l : Ledger) (o : OutPoint) → HoldsChain w weigh [] chain l → kept_spends w chain o ≡ spends_in l.spends o
spends_held w weigh chain l o h = h.spends o ∙ ap (λ (s : List Spend). s ++ spends_in l.spends o) (no_spends w o)

-- ---- of a txid that is watched

-- the height that a ledger holds
pub height_at : (w : PlainWatched) (weigh : List ℕ → Option ℕ) (chain : List Confirmed) (l : Ledger) (id : List ℕ) → HoldsChain w weigh [] chain l → watches_txid w id ≡ true → height_of chain id ≡ lookup (bytes_eq id) l.heights.entries
height_at w weigh chain l id h seen = sym (seen_height w chain id seen) ∙ height_held w weigh chain l id h

-- the height after a ledger that stands after others
pub height_behind : (w : PlainWatched) (weigh : List ℕ → Option ℕ) (before behind : List Confirmed) (l : Ledger) (id : List ℕ) → HoldsChain w weigh before behind l → watches_txid w id ≡ true
    → height_of (before ++ behind) id ≡ option_or (height_of before id) (lookup (bytes_eq id) l.heights.entries)
height_behind w weigh before behind l id h seen =
    sym (seen_height w (before ++ behind) id seen) ∙ h.heights id ∙ ap (λ (o : Option ℕ). option_or o (lookup (bytes_eq id) l.heights.entries)) (seen_height w before id seen)

-- a txid among those of transactions that are watched
pub watched_txid : (w : PlainWatched) (ts : List Transaction) (id : List ℕ) → All (IsWatched w) ts → list_any (bytes_eq id) (map txid_of ts) ≡ true → watches_txid w id ≡ true
watched_txid w [] id all is = absurd (true≢false (sym is))
watched_txid w (t ∷ ts) id all is = by (bytes_eq id (txid_of t)) refl is (watched_txid w ts id (All-tail (IsWatched w) t ts all))
  where
    by : (b : Bool) → bytes_eq id (txid_of t) ≡ b → (b || list_any (bytes_eq id) (map txid_of ts)) ≡ true → (list_any (bytes_eq id) (map txid_of ts) ≡ true → watches_txid w id ≡ true) → watches_txid w id ≡ true
    by true same e rest = ap (watches_txid w) ((bytes_eq-Decides id (txid_of t)).0 same) ∙ (All-head (IsWatched w) t ts all).txid
    by false same e rest = rest e

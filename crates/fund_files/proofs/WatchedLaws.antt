-- The transactions of which all is watched that they ask of the chain, while the sets of what is watched grow.
use Rattle.std.proofs.Common.{◌≡◌, ◌∙◌, ◌+◌, ◌<◌, ◌||◌, ℕ, Bool, true, false, true≢false, cond, List, [], ◌∷◌, length, take, get_or, Some, refl, ap, subst, sym}
use Rattle.std.specs.Prelude.{All, bytes_eq}
use Rattle.std.specs.List.{list_any}
use Rattle.std.proofs.lemmas.List.Elements.{All-cons, All-from_get_or, All-get_or, All-more, All-nil}
use Rattle.fund_base.specs.Outpoints.{same_outpoint}
use Rattle.fund_base.specs.declared.outpoint.OutPoint.{OutPoint}
use Rattle.tx_codec.specs.Transaction.{Transaction}
use Rattle.tx_codec.specs.Txid.{txid_of}
use Rattle.coin_book.specs.Asked.{HasUnwatchedCoin}
use Rattle.coin_book.specs.Spends.{has_input}
use Rattle.coin_book.specs.Watched.{IsWatched, PlainWatched, WatchedHistory, everything, watches, watches_txid}
use Rattle.coin_book.proofs.WatchSteps.{all_watched}

all_points : (o : OutPoint) → watches everything o ≡ true
unfolding watches
all_points o = refl

-- these outpoints and these txids
abbrev pub sets : List OutPoint → List (List ℕ) → PlainWatched
sets points txids = record { points = Some points; txids = Some txids }

-- what was watched stays so
more : (points points' : List OutPoint) (txids txids' : List (List ℕ)) (t : Transaction) → ((o : OutPoint) → list_any (same_outpoint o) points ≡ true → list_any (same_outpoint o) points' ≡ true) → ((id : List ℕ) → list_any (bytes_eq id) txids ≡ true → list_any (bytes_eq id) txids' ≡ true)
    → IsWatched (sets points txids) t → IsWatched (sets points' txids') t
unfolding watches watches_txid
more points points' txids txids' t up grown h = record {
  txid = grown (txid_of t) h.txid;
  inputs = λ o i. up o (h.inputs o i);
}

-- what is put in is watched
now : (points : List OutPoint) (txids : List (List ℕ)) (t : Transaction) → ((o : OutPoint) → has_input o t.inputs ≡ true → list_any (same_outpoint o) points ≡ true) → list_any (bytes_eq (txid_of t)) txids ≡ true → IsWatched (sets points txids) t
unfolding watches watches_txid
now points txids t inputs txid = record { txid = txid; inputs = inputs }

left : (a b c : Bool) → c ≡ (a || b) → a ≡ true → c ≡ true
left a b c is holds = is ∙ ap (λ (x : Bool). x || b) holds

right : (a b c : Bool) → c ≡ (a || b) → b ≡ true → c ≡ true
right true b c is holds = is
right false b c is holds = is ∙ holds

kept : (b a c : Bool) → c ≡ cond b true a → a ≡ true → c ≡ true
kept true a c is holds = is
kept false a c is holds = is ∙ holds

put : (b a c : Bool) → c ≡ cond b true a → b ≡ true → c ≡ true
put b a c is holds = is ∙ ap (λ (x : Bool). cond x true a) holds

-- one transaction more: its inputs and its txid were put in
pub watched_more : (points points' : List OutPoint) (txids txids' : List (List ℕ)) (ts : List Transaction) (i : ℕ) (t : Transaction) → i < length ts → t ≡ get_or ts i t
    → ((o : OutPoint) → list_any (same_outpoint o) points' ≡ (list_any (same_outpoint o) points || has_input o t.inputs)) → ((id : List ℕ) → list_any (bytes_eq id) txids' ≡ cond (bytes_eq (txid_of t) id) true (list_any (bytes_eq id) txids)) → bytes_eq (txid_of t) (txid_of t) ≡ true
    → All (IsWatched (sets points txids)) (take i ts) → All (IsWatched (sets points' txids')) (take (i + 1) ts)
watched_more points points' txids txids' ts i t lt at inputs txid same all =
    All-more (IsWatched (sets points' txids')) ts i t lt
    (All-from_get_or (IsWatched (sets points' txids')) (take i ts) t
    (λ k less. more points points' txids txids' (get_or (take i ts) k t) (λ o. left (list_any (same_outpoint o) points) (has_input o t.inputs) (list_any (same_outpoint o) points') (inputs o)) (λ id. kept (bytes_eq (txid_of t) id) (list_any (bytes_eq id) txids) (list_any (bytes_eq id) txids') (txid id))
    (All-get_or (IsWatched (sets points txids)) (take i ts) k t less all)))
    (subst (IsWatched (sets points' txids')) at
    (now points' txids' t (λ o. right (list_any (same_outpoint o) points) (has_input o t.inputs) (list_any (same_outpoint o) points') (inputs o))
    (put (bytes_eq (txid_of t) (txid_of t)) (list_any (bytes_eq (txid_of t)) txids) (list_any (bytes_eq (txid_of t)) txids') (txid (txid_of t)) same)))

-- by what watches everything all are
pub each_watched : (w : PlainWatched) (ts : List Transaction) → w ≡ everything → All (IsWatched w) ts
each_watched w [] is = All-nil (IsWatched w)
each_watched w (t ∷ ts) is = All-cons (IsWatched w) t ts (all_watched w t is) (each_watched w ts is)

-- where everything is watched, every coin is
pub none_unwatched : (v : WatchedHistory) → v.watched ≡ everything → HasUnwatchedCoin v → ⊥
none_unwatched v is some =
    let o = some.1.coin in
    true≢false (sym (ap (λ (w : PlainWatched). watches w o) is ∙ all_points o) ∙ some.4)

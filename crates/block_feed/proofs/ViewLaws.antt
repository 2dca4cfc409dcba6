-- The transactions that a block lends are those that its bytes hold.
use Rattle.std.proofs.Common.{◌≡◌, ◌∙◌, ℕ, ◌≤◌, ◌<◌, List, [], ◌∷◌, length, map, take, Result, Ok, Err, refl, sym, ap, subst, arith}
use Rattle.std.proofs.lemmas.Bool.{le-ltb}
use Rattle.fund_base.specs.Cursor.{At, Moves, after, compact_at, take_at}
use Rattle.fund_base.specs.Parsing.{fault_as, many_at}
use Rattle.fund_base.specs.declared.cursor.CutFault.{CutFault}
use Rattle.fund_base.proofs.Laws.{bind_ok, guard_met, guard_ok, ok_is, told_ok}
use Rattle.tx_codec.specs.Fault.{cut_fault}
use Rattle.tx_codec.specs.Reading.{cut, tx_at}
use Rattle.tx_codec.specs.Transaction.{Transaction}
use Rattle.tx_codec.specs.Views.{items_left}
use Rattle.tx_codec.proofs.LentSteps.{all_told}
use Rattle.block_feed.specs.Names.{held_txs, in_read}
use Rattle.block_feed.specs.Reading.{counted_txs_at, tx_fault, txs_at}
use Rattle.block_feed.specs.declared.fault.FeedFault.{FeedFault}
use Rattle.block_feed.proofs.BlockLaws.{start}
use Rattle.block_feed.proofs.NameLaws.{held_is, taken}

-- a header that stands there is passed over
passed_header : {X : Type 0} (view : X → List ℕ) (old new : At) (result : Result X CutFault) → 80 ≤ length old.rest → Moves view old new result (take_at 80 old) → new ≡ after 80 old
passed_header view old new (Ok x) long moves = sym (taken old new (view x) moves)
passed_header view old new (Err e) long moves =
    let there : take_at 80 old ≡ Ok (take 80 old.rest, after 80 old) = rw (le-ltb (length old.rest) 80 long) refl in
    absurd (cc (moves.0, there))

same : (txs : List Transaction) → map (λ (t : Transaction). t) txs ≡ txs
same [] = refl
same (t ∷ txs) = ap (λ (l : List Transaction). t ∷ l) (same txs)

-- so many transactions, and then nothing, are what is lent
record Lends (at : At) (found : List Transaction) : Type 0 where
  pub count : ℕ
  pub first : At
  pub counts : compact_at at ≡ Ok (count, first)
  pub views : items_left tx_at count first ≡ found

lends : (height : ℕ) (at : At) (found : List Transaction) → counted_txs_at height at ≡ Ok found → Lends at found
unfolding counted_txs_at txs_at
lends height at found is =
    let a = bind_ok {A = ℕ × At} _ _ found is in
    let g = guard_ok _ _ _ _ a.2 in
    let b = bind_ok {A = List Transaction × At} _ _ found g.1 in
    let e = guard_met _ _ _ _ b.2 in
    let read : many_at tx_at a.0.0 a.0.1 ≡ Ok b.0 = told_ok (tx_fault height) (many_at tx_at a.0.0 a.0.1) b.0 b.1 in
    let counts : compact_at at ≡ Ok a.0 = told_ok cut_fault (compact_at at) a.0 (told_ok (tx_fault height) (cut (compact_at at)) a.0 a.1) in
    let all : items_left tx_at a.0.0 a.0.1 ≡ map (λ (t : Transaction). t) b.0.0 = all_told (λ _. tx_at) tx_at (λ (t : Transaction). t) (λ before here x one. one) a.0.0 a.0.1 b.0 read in
    record { count = a.0.0; first = a.0.1; counts = counts; views = all ∙ same b.0.0 ∙ ok_is b.0.0 found (Ok b.0.0) refl e.1 }

none_held : (read : Result (List Transaction) FeedFault) (fault : FeedFault) → read ≡ Err fault → 0 < length (in_read read) → ⊥
none_held (Ok found) fault is some = absurd cc
none_held (Err other) fault is some = absurd (omega (arith, some))

-- what the bytes hold, where they hold something
held_lends : (height : ℕ) (body : List ℕ) → 0 < length (held_txs height body) → Lends (after 80 (start body)) (held_txs height body)
unfolding held_txs
held_lends height body some = by (counted_txs_at height (after 80 (start body))) refl
  where
    by : (read : Result (List Transaction) FeedFault) → counted_txs_at height (after 80 (start body)) ≡ read → Lends (after 80 (start body)) (in_read (counted_txs_at height (after 80 (start body))))
    by (Ok found) is = subst (λ (l : List Transaction). Lends (after 80 (start body)) l) (sym (ap in_read is)) (lends height (after 80 (start body)) found is)
    by (Err fault) is = absurd (none_held (counted_txs_at height (after 80 (start body))) fault is some)

-- the transactions that are lent, and that their number stands there
pub views_held : {X : Type 0} (view : X → List ℕ) (height : ℕ) (body : List ℕ) (at mid new : At) (passed : Result X CutFault) (left : ℕ) → at ≡ start body → 80 ≤ length body → 0 < length (held_txs height body) → Moves view at mid passed (take_at 80 at)
    → compact_at mid ≡ Ok (left, new) → items_left tx_at left new ≡ held_txs height body
views_held view height body at mid new passed left at_is long some moves counts =
    let l = held_lends height body some in
    let mid_is : mid ≡ after 80 (start body) = passed_header view at mid passed (subst (λ (a : At). 80 ≤ length a.rest) (sym at_is) long) moves ∙ ap (after 80) at_is in
    let one : (left, new) ≡ (l.count, l.first) = ok_is (left, new) (l.count, l.first) (compact_at mid) counts (ap compact_at mid_is ∙ l.counts) in
    (λ k. items_left tx_at (one k).0 (one k).1) ∙ l.views

pub views_counted : {X : Type 0} (view : X → List ℕ) (height : ℕ) (body : List ℕ) (at mid : At) (passed : Result X CutFault) (fault : CutFault) → at ≡ start body → 80 ≤ length body → 0 < length (held_txs height body) → Moves view at mid passed (take_at 80 at)
    → compact_at mid ≡ Err fault → ⊥
views_counted view height body at mid passed fault at_is long some moves fails =
    let l = held_lends height body some in
    let mid_is : mid ≡ after 80 (start body) = passed_header view at mid passed (subst (λ (a : At). 80 ≤ length a.rest) (sym at_is) long) moves ∙ ap (after 80) at_is in
    let counts : compact_at mid ≡ Ok (l.count, l.first) = ap compact_at mid_is ∙ l.counts in
    absurd (cc (fails, counts))

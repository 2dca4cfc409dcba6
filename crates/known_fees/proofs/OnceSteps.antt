-- Outpoints that are counted once.
use Rattle.std.proofs.Common.{◌≡◌, ◌≢◌, ◌∙◌, ◌⊎◌, inl, inr, ◌++◌, Bool, true, false, cond, List, [], ◌∷◌, map, refl, sym, subst, arith, Contains, AllPairs}
use Rattle.std.specs.Prelude.{fold, ◌↔◌}
use Rattle.std.specs.List.{Any, list_any}
use Rattle.std.proofs.lemmas.Bool.{true≢false}
use Rattle.std.proofs.lemmas.List.Elements.{Contains-append_cases, Contains-append_left}
use Rattle.fund_base.specs.Outpoints.{same_outpoint}
use Rattle.fund_base.specs.declared.outpoint.OutPoint.{OutPoint}
use Rattle.fund_base.proofs.Lists.{any_found, cons_cases, in_tail}
use Rattle.fund_base.proofs.OutpointLaws.{same_outpoint-Decides}
use Rattle.tx_codec.specs.Transaction.{Transaction}
use Rattle.tx_codec.specs.declared.tx.TxIn.{TxIn}
use Rattle.known_fees.proofs.ListSteps.{apart_both, map_from, map_has, some_passes}
use Rattle.known_fees.specs.Worth.{add_once, once_of, spent_by}

-- ---- what is there stays

add_keeps : (points : List OutPoint) (o p : OutPoint) → Contains points p → Contains (add_once points o) p
add_keeps points o p there = by (list_any (same_outpoint o) points)
  where
    by : (b : Bool) → Contains (cond b points (points ++ o ∷ [])) p
    by true = there
    by false = Contains-append_left points (o ∷ []) p there

last_there : {X : Type 0} (xs : List X) (x : X) → Contains (xs ++ x ∷ []) x
last_there [] x = (0, omega arith, refl)
last_there (y ∷ xs) x = in_tail y (xs ++ x ∷ []) x (last_there xs x)

add_has : (points : List OutPoint) (o : OutPoint) → Contains (add_once points o) o
add_has points o = by (list_any (same_outpoint o) points) refl
  where
    by : (b : Bool) → list_any (same_outpoint o) points ≡ b → Contains (cond b points (points ++ o ∷ [])) o
    by true e = let f = any_found (same_outpoint o) points e in subst (Contains points) (sym ((same_outpoint-Decides o f.0).0 f.2)) f.1
    by false e = last_there points o

fold_keeps : (points acc : List OutPoint) (p : OutPoint) → Contains acc p → Contains (fold add_once acc points) p
fold_keeps [] acc p there = there
fold_keeps (o ∷ points) acc p there = fold_keeps points (add_once acc o) p (add_keeps acc o p there)

fold_has : (points acc : List OutPoint) (p : OutPoint) → Contains points p → Contains (fold add_once acc points) p
fold_has [] acc p c = let lt = c.1 in absurd (omega arith)
fold_has (o ∷ points) acc p c = by (cons_cases o points p c) (λ h. fold_has points (add_once acc o) p h)
  where
    by : (o ≡ p) ⊎ Contains points p → (Contains points p → Contains (fold add_once (add_once acc o) points) p) → Contains (fold add_once (add_once acc o) points) p
    by (inl e) rest = fold_keeps points (add_once acc o) p (subst (Contains (add_once acc o)) e (add_has acc o))
    by (inr h) rest = rest h

fold_from : (points acc : List OutPoint) (p : OutPoint) → Contains (fold add_once acc points) p → Contains acc p ⊎ Contains points p
fold_from [] acc p c = inl c
fold_from (o ∷ points) acc p c = by (fold_from points (add_once acc o) p c)
  where
    head : (b : Bool) → Contains (cond b acc (acc ++ o ∷ [])) p → Contains acc p ⊎ Contains (o ∷ points) p
    head true h = inl h
    head false h = at (Contains-append_cases acc (o ∷ []) p h)
      where
        last : (o ≡ p) ⊎ Contains [] p → Contains acc p ⊎ Contains (o ∷ points) p
        last (inl e) = inr (0, omega arith, e)
        last (inr i) = let lt = i.1 in absurd (omega arith)

        at : Contains acc p ⊎ Contains (o ∷ []) p → Contains acc p ⊎ Contains (o ∷ points) p
        at (inl i) = inl i
        at (inr i) = last (cons_cases o [] p i)

    by : Contains (add_once acc o) p ⊎ Contains points p → Contains acc p ⊎ Contains (o ∷ points) p
    by (inl h) = head (list_any (same_outpoint o) acc) h
    by (inr h) = inr (in_tail o points p h)

pub once_has : (points : List OutPoint) (p : OutPoint) → Contains points p → Contains (once_of points) p
unfolding once_of
once_has points p c = fold_has points [] p c

pub once_from : (points : List OutPoint) (p : OutPoint) → Contains (once_of points) p → Contains points p
unfolding once_of
once_from points p c = by (fold_from points [] p c)
  where
    by : Contains [] p ⊎ Contains points p → Contains points p
    by (inl h) = let lt = h.1 in absurd (omega arith)
    by (inr h) = h

-- ---- each once

add_apart : (points : List OutPoint) (o : OutPoint) → AllPairs (λ (a b : OutPoint). a ≢ b) points → AllPairs (λ (a b : OutPoint). a ≢ b) (add_once points o)
add_apart points o apart = by (list_any (same_outpoint o) points) refl
  where
    one : AllPairs (λ (a b : OutPoint). a ≢ b) (o ∷ [])
    one i j d up below = absurd (omega (arith, up, below))

    last : (b : OutPoint) → Contains (o ∷ []) b → o ≡ b
    last b c = at (cons_cases o [] b c)
      where
        at : (o ≡ b) ⊎ Contains [] b → o ≡ b
        at (inl e) = e
        at (inr i) = let lt = i.1 in absurd (omega arith)

    by : (b : Bool) → list_any (same_outpoint o) points ≡ b → AllPairs (λ (a b : OutPoint). a ≢ b) (cond b points (points ++ o ∷ []))
    by true e = apart
    by false e =
        apart_both (λ (a b : OutPoint). a ≢ b) points (o ∷ []) apart one
        (λ a b first second same. true≢false (sym (some_passes (same_outpoint o) points a first ((same_outpoint-Decides o a).1 (last b second ∙ sym same))) ∙ e))

fold_apart : (points acc : List OutPoint) → AllPairs (λ (a b : OutPoint). a ≢ b) acc → AllPairs (λ (a b : OutPoint). a ≢ b) (fold add_once acc points)
fold_apart [] acc apart = apart
fold_apart (o ∷ points) acc apart = fold_apart points (add_once acc o) (add_apart acc o apart)

pub once_apart : (points : List OutPoint) → AllPairs (λ (a b : OutPoint). a ≢ b) (once_of points)
unfolding once_of
once_apart points = fold_apart points [] (λ i j d up below. absurd (omega (arith, below)))

-- ---- what a transaction spends

pub spent_each : (t : Transaction) (o : OutPoint) → Contains (spent_by t) o ↔ Any (λ (x : TxIn). x.prev ≡ o) t.inputs
spent_each t o = (there, back)
  where
    there : Contains (once_of (map (λ (i : TxIn). i.prev) t.inputs)) o → Any (λ (x : TxIn). x.prev ≡ o) t.inputs
    there c = let m = map_from (λ (i : TxIn). i.prev) t.inputs o (once_from (map (λ (i : TxIn). i.prev) t.inputs) o c) in (m.1.0, m.0, m.1.1, m.1.2, m.2)

    back : Any (λ (x : TxIn). x.prev ≡ o) t.inputs → Contains (once_of (map (λ (i : TxIn). i.prev) t.inputs)) o
    back a = once_has (map (λ (i : TxIn). i.prev) t.inputs) o (subst (Contains (map (λ (i : TxIn). i.prev) t.inputs)) a.4 (map_has (λ (i : TxIn). i.prev) t.inputs a.1 (a.0, a.2, a.3)))

pub spent_apart : (t : Transaction) → AllPairs (λ (a b : OutPoint). a ≢ b) (spent_by t)
spent_apart t = once_apart (map (λ (i : TxIn). i.prev) t.inputs)

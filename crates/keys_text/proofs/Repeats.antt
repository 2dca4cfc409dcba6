-- The first key that stands before it, as a loop finds it, and what it means that there is none.
use Rattle.std.proofs.Common.{◌≡◌, ◌≢◌, ◌<◌, ◌≤◌, ◌+◌, ℕ, zero, suc, Bool, true, false, cond, List, [], ◌∷◌, ◌++◌, length, get_or, take, drop, bytes_eq, Option, Some, None, refl, sym, ap, subst, ◌∙◌, true≢false, add-one, append_assoc, drop-cons, take-suc, arith}
use Rattle.std.proofs.Math.ListN.{drop_of_length-le}
use Rattle.std.proofs.lemmas.Bool.{or_parts}
use Rattle.std.proofs.lemmas.List.{append-nil, length-take-le}
use Rattle.std.proofs.lemmas.List.Quantifiers.{all_pairs_push}
use Rattle.std.proofs.lemmas.Slice.Eq.{bytes_eq-Decides}
use Rattle.std.specs.List.{list_any}
use Rattle.keys_text.specs.Judging.{has_key, repeat_from}
use Rattle.keys_text.specs.KeysRules.{AreDistinctKeys}
use Rattle.keys_text.specs.PlainKeys.{PlainKeyPath}

-- a key that is new
pub goes_on : (ks : List PlainKeyPath) (i : ℕ) (k : PlainKeyPath) (total : Option ℕ) → i < length ks → k ≡ get_or ks i k → has_key (take i ks) k.key ≡ false
    → repeat_from (take i ks) (drop i ks) ≡ total → repeat_from (take (i + 1) ks) (drop (i + 1) ks) ≡ total
unfolding repeat_from
goes_on ks i k total lt is new so_far =
    let e : drop i ks ≡ k ∷ drop (suc i) ks = drop-cons ks i k lt ∙ ap (λ (j : PlainKeyPath). j ∷ drop (suc i) ks) (sym is) in
    let front : take (suc i) ks ≡ take i ks ++ k ∷ [] = take-suc ks i k lt ∙ ap (λ (j : PlainKeyPath). take i ks ++ j ∷ []) (sym is) in
    let one : repeat_from (take i ks) (drop i ks) ≡ repeat_from (take i ks ++ k ∷ []) (drop (suc i) ks) = rw (e, new) refl in
    rw add-one (ap (λ f. repeat_from f (drop (suc i) ks)) front ∙ sym one ∙ so_far)

-- one that isn't
pub found : (ks : List PlainKeyPath) (i : ℕ) (k : PlainKeyPath) (total : Option ℕ) → i < length ks → k ≡ get_or ks i k → has_key (take i ks) k.key ≡ true
    → repeat_from (take i ks) (drop i ks) ≡ total → Some i ≡ total
unfolding repeat_from
found ks i k total lt is stood so_far =
    let e : drop i ks ≡ k ∷ drop (suc i) ks = drop-cons ks i k lt ∙ ap (λ (j : PlainKeyPath). j ∷ drop (suc i) ks) (sym is) in
    let long : length (take i ks) ≡ i = length-take-le i ks (omega arith) in
    let one : repeat_from (take i ks) (drop i ks) ≡ Some (length (take i ks)) = rw (e, stood) refl in
    sym (ap Some long) ∙ sym one ∙ so_far

-- no key more
pub ends : (ks : List PlainKeyPath) (i : ℕ) (total : Option ℕ) → length ks ≤ i → repeat_from (take i ks) (drop i ks) ≡ total → None ≡ total
unfolding repeat_from
ends ks i total le so_far =
    let one : repeat_from (take i ks) (drop i ks) ≡ None = rw (drop_of_length-le ks le) refl in
    sym one ∙ so_far

-- ---- what it means that there is none

-- a test that no item passes
fails_at : {X : Type 0} (p : X → Bool) (xs : List X) → list_any p xs ≡ false → (k : ℕ) (d : X) → k < length xs → p (get_or xs k d) ≡ false
fails_at p [] e k d lt = absurd (omega arith)
fails_at p (x ∷ xs) e zero d lt = (or_parts (p x) (list_any p xs) e).0
fails_at p (x ∷ xs) e (suc k) d lt = fails_at p xs (or_parts (p x) (list_any p xs) e).1 k d (omega arith)

apart : (ks : List PlainKeyPath) (k : PlainKeyPath) → has_key ks k.key ≡ false → (i : ℕ) (d : PlainKeyPath) → i < length ks → (get_or ks i d).key ≢ k.key
apart ks k new i d lt same = true≢false (sym ((bytes_eq-Decides k.key (get_or ks i d).key).1 (sym same)) ∙ fails_at (λ (j : PlainKeyPath). bytes_eq k.key j.key) ks new i d lt)

none_repeats : (front ks : List PlainKeyPath) → repeat_from front ks ≡ None → AreDistinctKeys front → AreDistinctKeys (front ++ ks)
unfolding repeat_from
none_repeats front [] e kept = rw (append-nil front) kept
none_repeats front (k ∷ ks) e kept = by (has_key front k.key) refl e (none_repeats (front ++ k ∷ []) ks)
  where
    by : (b : Bool) → has_key front k.key ≡ b → cond b (Some (length front)) (repeat_from (front ++ k ∷ []) ks) ≡ None → (repeat_from (front ++ k ∷ []) ks ≡ None → AreDistinctKeys (front ++ k ∷ []) → AreDistinctKeys ((front ++ k ∷ []) ++ ks)) → AreDistinctKeys (front ++ k ∷ ks)
    by true is reads rest = absurd (cc reads)
    by false is reads rest = subst AreDistinctKeys (append_assoc front (k ∷ []) ks) (rest reads (all_pairs_push (λ (i j : PlainKeyPath). i.key ≢ j.key) front k kept (apart front k is)))

pub distinct : (ks : List PlainKeyPath) → repeat_from [] ks ≡ None → AreDistinctKeys ks
distinct ks e = none_repeats [] ks e (λ i j d lt within. absurd (omega arith))

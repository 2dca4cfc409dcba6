-- A pair put into a list: what the list has then, and what its pairs are to each other.
use Rattle.std.proofs.Common.{◌≡◌, ◌≢◌, ◌∙◌, ◌+◌, ◌-◌, ◌<◌, ◌≤◌, ◌⊎◌, ℕ, zero, suc, true, false, List, [], ◌∷◌, ◌++◌, length, take, drop, get_or, refl, sym, ap, subst, inl, inr, arith}
use Rattle.std.specs.Prelude.{All, AllPairs, Contains}
use Rattle.std.specs.Cmp.Lexicographic.{slice_cmp}
use Rattle.std.specs.List.{insert}
use Rattle.std.specs.Ordering.{is_lt, nat_cmp, ordering_reverse}
use Rattle.std.specs.declared.cmp.Ordering.{Ordering}
use Rattle.std.specs.declared.cmp.Ordering.TheVariants.{Equal, Greater, Less}
use Rattle.std.proofs.lemmas.Bool.{cases_order}
use Rattle.std.proofs.lemmas.Cmp.{nat_list_cmp_total}
use Rattle.std.proofs.lemmas.List.{take-append-drop}
use Rattle.std.proofs.lemmas.List.Edits.{get_or-insert_above, get_or-insert_at, get_or-insert_below, length-insert}
use Rattle.std.proofs.lemmas.List.Elements.{Contains-append_cases, Contains-append_left, Contains-append_right, Contains-push, Contains-push_cases}
use Rattle.std.proofs.lemmas.Map.Lookups.{exact_bytes}
use Rattle.psbt_keys.specs.Extended.{IsSubsequence}
use Rattle.psbt_keys.specs.Placing.{comes_before}

-- ---- subsequences

pub part_of_itself : {X : Type 0} → (xs : List X) → IsSubsequence xs xs
part_of_itself [] = refl
part_of_itself (x ∷ xs) = inr (xs, refl, part_of_itself xs)

pub part_of_more : {X : Type 0} → (part front back : List X) (y : X) → IsSubsequence part (front ++ back) → IsSubsequence part (front ++ y ∷ back)
part_of_more part [] back y h = inl h
part_of_more part (x ∷ front) back y (inl h) = inl (part_of_more part front back y h)
part_of_more part (x ∷ front) back y (inr h) = inr (h.0, h.1, part_of_more h.0 front back y h.2)

pub part_of_insert : {X : Type 0} → (part xs : List X) (i : ℕ) (y : X) → IsSubsequence part xs → IsSubsequence part (insert xs i y)
part_of_insert {X} part xs i y h = part_of_more part (take i xs) (drop i xs) y (subst (λ (l : List X). IsSubsequence part l) (sym (take-append-drop i xs)) h)

-- ---- elements

pub has_none : {X : Type 0} → (x : X) → Contains [] x → ⊥
has_none x h = let lt = h.1 in absurd (omega (arith, lt))

pub first_or : {X : Type 0} → (y : X) (ys : List X) (x : X) → Contains (y ∷ ys) x → Contains ys x ⊎ (y ≡ x)
first_or {X} y ys x h =
    elim (Contains-append_cases (y ∷ []) ys x h) [
      | inl a ↦ elim (Contains-push_cases [] y x a) [ inl none ↦ absurd (has_none x none) | inr same ↦ inr same ]
      | inr b ↦ inl b
    ]

pub has_first : {X : Type 0} → (y : X) (ys : List X) → Contains (y ∷ ys) y
has_first y ys = Contains-append_left (y ∷ []) ys y (Contains-push [] y)

pub has_later : {X : Type 0} → (y : X) (ys : List X) (x : X) → Contains ys x → Contains (y ∷ ys) x
has_later y ys x h = Contains-append_right (y ∷ []) ys x h

pub in_insert : {X : Type 0} → (xs : List X) (i : ℕ) (y x : X) → Contains (insert xs i y) x → Contains xs x ⊎ (y ≡ x)
in_insert {X} xs i y x h =
    let whole = λ (c : Contains (take i xs ++ drop i xs) x). subst (λ (l : List X). Contains l x) (take-append-drop i xs) c in
    elim (Contains-append_cases (take i xs) (y ∷ drop i xs) x h) [
      | inl a ↦ inl (whole (Contains-append_left (take i xs) (drop i xs) x a))
      | inr b ↦ elim (first_or y (drop i xs) x b) [ inl c ↦ inl (whole (Contains-append_right (take i xs) (drop i xs) x c)) | inr same ↦ inr same ]
    ]

pub insert_has : {X : Type 0} → (xs : List X) (i : ℕ) (y : X) → Contains (insert xs i y) y
insert_has xs i y = Contains-append_right (take i xs) (y ∷ drop i xs) y (has_first y (drop i xs))

pub insert_keeps : {X : Type 0} → (xs : List X) (i : ℕ) (y x : X) → Contains xs x → Contains (insert xs i y) x
insert_keeps {X} xs i y x h =
    elim (Contains-append_cases (take i xs) (drop i xs) x (subst (λ (l : List X). Contains l x) (sym (take-append-drop i xs)) h)) [
      | inl a ↦ Contains-append_left (take i xs) (y ∷ drop i xs) x a
      | inr b ↦ Contains-append_right (take i xs) (y ∷ drop i xs) x (has_later y (drop i xs) x b)
    ]

-- ---- lists without and with a first element

pub pairs_none : {X : Type 0} → (R : X → X → Type 0) → AllPairs R []
pairs_none R = λ i j d lt fits. absurd (omega (arith, fits))

pub pairs_one : {X : Type 0} → (R : X → X → Type 0) (x : X) → AllPairs R (x ∷ [])
pairs_one R x = λ i j d lt fits. absurd (omega (arith, lt, fits))

pub pairs_head : {X : Type 0} → (R : X → X → Type 0) (x : X) (xs : List X) → AllPairs R (x ∷ xs) → All (R x) xs
pairs_head R x xs all = λ k d lt. all zero (suc k) d (omega arith) (omega (arith, lt))

pub pairs_tail : {X : Type 0} → (R : X → X → Type 0) (x : X) (xs : List X) → AllPairs R (x ∷ xs) → AllPairs R xs
pairs_tail R x xs all = λ i j d lt fits. all (suc i) (suc j) d (omega (arith, lt)) (omega (arith, fits))

-- ---- pairs of elements

-- what stands at a place behind an insertion
Stands : {X : Type 0} → List X → ℕ → X → X → ℕ → Type 0
Stands {X} xs i y d b =
    ((b < i) × (get_or (insert xs i y) b d ≡ get_or xs b d))
    ⊎ (((b ≡ i) × (get_or (insert xs i y) b d ≡ y)) ⊎ ((k : ℕ) × (b ≡ k + 1) × (i ≤ k) × (get_or (insert xs i y) b d ≡ get_or xs k d)))

stands : {X : Type 0} → (xs : List X) (i : ℕ) (y d : X) (b : ℕ) → i ≤ length xs → Stands xs i y d b
unfolding Stands
stands {X} xs i y d b le =
    elim (cases_order b i) [
      | inl same ↦ inr (inl (same, ap (λ (k : ℕ). get_or (insert xs i y) k d) same ∙ get_or-insert_at xs i y d le))
      | inr other ↦ elim other [
        | inl lt ↦ inl (lt, get_or-insert_below xs i y d b lt le)
        | inr gt ↦
            let next : b ≡ (b - 1) + 1 = omega (arith, gt) in
            let above : i ≤ b - 1 = omega (arith, gt) in
            inr (inr (b - 1, next, above, ap (λ (k : ℕ). get_or (insert xs i y) k d) next ∙ get_or-insert_above xs i y d (b - 1) above le))
      ]
    ]

between : {X : Type 0} → (R : X → X → Type 0) (x y u v : X) → x ≡ u → y ≡ v → R u v → R x y
between {X} R x y u v left right h = subst (λ (z : X). R x z) (sym right) (subst (λ (z : X). R z v) (sym left) h)

pub all_pairs_insert : {X : Type 0} → (R : X → X → Type 0) (xs : List X) (i : ℕ) (y : X) → i ≤ length xs → AllPairs R xs
    → ((k : ℕ) (d : X) → k < i → R (get_or xs k d) y) → ((k : ℕ) (d : X) → i ≤ k → k < length xs → R y (get_or xs k d)) → AllPairs R (insert xs i y)
unfolding Stands
all_pairs_insert {X} R xs i y le all below above = λ a b d lt fits.
    let len = length-insert xs i y le in
    elim (stands xs i y d a le) [
      | inl p ↦ elim (stands xs i y d b le) [
        | inl q ↦ between R _ _ _ _ p.1 q.1 (all a b d lt (omega (arith, q.0, le)))
        | inr r ↦ elim r [
          | inl q ↦ between R _ _ _ _ p.1 q.1 (below a d p.0)
          | inr q ↦ between R _ _ _ _ p.1 q.3 (all a q.0 d (omega (arith, p.0, q.2)) (omega (arith, q.1, fits, len)))
        ]
      ]
      | inr s ↦ elim s [
        | inl p ↦ elim (stands xs i y d b le) [
          | inl q ↦ absurd (omega (arith, p.0, q.0, lt))
          | inr r ↦ elim r [
            | inl q ↦ absurd (omega (arith, p.0, q.0, lt))
            | inr q ↦ between R _ _ _ _ p.1 q.3 (above q.0 d q.2 (omega (arith, q.1, fits, len)))
          ]
        ]
        | inr p ↦ elim (stands xs i y d b le) [
          | inl q ↦ absurd (omega (arith, p.1, p.2, q.0, lt))
          | inr r ↦ elim r [
            | inl q ↦ absurd (omega (arith, p.1, p.2, q.0, lt))
            | inr q ↦ between R _ _ _ _ p.3 q.3 (all p.0 q.0 d (omega (arith, p.1, q.1, lt)) (omega (arith, q.1, fits, len)))
          ]
        ]
      ]
    ]

-- ---- the order of keys

pub before_is : (a b : List ℕ) → comes_before a b ≡ true → slice_cmp nat_cmp a b ≡ Less
before_is a b h = by (slice_cmp nat_cmp a b) refl h
  where
    by : (o : Ordering) → slice_cmp nat_cmp a b ≡ o → is_lt o ≡ true → slice_cmp nat_cmp a b ≡ Less
    by Less e t = e
    by Equal e t = absurd cc
    by Greater e t = absurd cc

-- one that doesn't come before another one comes behind it
pub behind_is : (a b : List ℕ) → comes_before a b ≡ false → b ≢ a → slice_cmp nat_cmp b a ≡ Less
behind_is a b h other = nat_list_cmp_total.antisymm b a ∙ by (slice_cmp nat_cmp a b) refl h
  where
    by : (o : Ordering) → slice_cmp nat_cmp a b ≡ o → is_lt o ≡ false → ordering_reverse o ≡ Less
    by Less e f = absurd cc
    by Equal e f = absurd (other (sym (exact_bytes a b e)))
    by Greater e f = refl

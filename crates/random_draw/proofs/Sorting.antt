-- Lists of numbers put in rising order.
use Rattle.std.specs.Prelude.{◌≡◌, ℕ, suc, ◌+◌, ◌<◌, ◌≤◌, ◌⊎◌, true, List, [], ◌∷◌, ◌++◌, length, get_or, nat_lt, nat_le, if◌then◌else◌}
use Rattle.std.specs.List.{sum_by}
use Rattle.std.specs.List.Sorted.{IsPermutation, IsNonDecreasing, IsSortedByKey}
use Rattle.std.specs.BinaryHeap.{IsUpperBound}
use Rattle.std.specs.Ordering.{nat_cmp}
use Rattle.std.proofs.Common.{arith, refl, sym, ap, ◌∙◌, inl, inr}
use Rattle.std.proofs.lemmas.Bool.{cases_lt}
use Rattle.std.proofs.lemmas.Bool.Decides.{nat_tests}
use Rattle.std.proofs.lemmas.List.Sums.{sum_by-cons}
use Rattle.std.proofs.lemmas.List.Sorted.{sum_by-IsPermutation, IsNonDecreasingBy-from_sort}
use Rattle.pick_problem.proofs.Deciding.{if_true, if_false}
use Rattle.random_draw.specs.Draw.{with_place}
use Rattle.random_draw.specs.KeptPlaces.{sorted_up}

pub place_first : (j k : ℕ) (ks : List ℕ) → j < k → with_place j (k ∷ ks) ≡ j ∷ k ∷ ks
unfolding with_place
place_first j k ks l = if_true (nat_lt j k) (j ∷ k ∷ ks) (k ∷ with_place j ks) (grind (arith, nat_tests))

pub place_later : (j k : ℕ) (ks : List ℕ) → k ≤ j → with_place j (k ∷ ks) ≡ k ∷ with_place j ks
unfolding with_place
place_later j k ks l = if_false (nat_lt j k) (j ∷ k ∷ ks) (k ∷ with_place j ks) (grind (arith, nat_tests))

-- one more number adds what is computed of it to any sum
pub sum_by-with_place : (f : ℕ → ℕ) (j : ℕ) (ks : List ℕ) → sum_by f (with_place j ks) ≡ f j + sum_by f ks
unfolding with_place
sum_by-with_place f j [] = sum_by-cons f j []
sum_by-with_place f j (k ∷ ks) =
    elim (cases_lt j k) [
      | inl l ↦ rw (place_first j k ks l) (sum_by-cons f j (k ∷ ks))
      | inr g ↦ rw (place_later j k ks g) (omega (arith, sum_by-cons f k (with_place j ks), sum_by-cons f k ks, sum_by-with_place f j ks))
    ]

-- the numbers don't fall, and none is below t
abbrev pub Ascends : ℕ → List ℕ → Type 0
Ascends t [] = Unit {0}
Ascends t (x ∷ xs) = (t ≤ x) × Ascends x xs

Ascends-with_place : (t j : ℕ) (ks : List ℕ) → t ≤ j → Ascends t ks → Ascends t (with_place j ks)
unfolding with_place
Ascends-with_place t j [] l up = (l, tt)
Ascends-with_place t j (k ∷ ks) l up =
    elim (cases_lt j k) [
      | inl less ↦ rw (place_first j k ks less) (l, (omega arith, up.1))
      | inr more ↦ rw (place_later j k ks more) (up.0, Ascends-with_place k j ks more up.1)
    ]

Ascends-sorted_up : (xs : List ℕ) → Ascends 0 (sorted_up xs)
Ascends-sorted_up [] = tt
Ascends-sorted_up (x ∷ xs) = Ascends-with_place 0 x (sorted_up xs) (omega arith) (Ascends-sorted_up xs)

pub sum_by-sorted_up : (f : ℕ → ℕ) (xs : List ℕ) → sum_by f (sorted_up xs) ≡ sum_by f xs
sum_by-sorted_up f [] = refl
sum_by-sorted_up f (x ∷ xs) = omega (arith, sum_by-with_place f x (sorted_up xs), sum_by-cons f x xs, sum_by-sorted_up f xs)

-- 1 for numbers up to x
upto : ℕ → ℕ → ℕ
upto x k = if nat_le k x then 1 else 0

upto_yes : (x k : ℕ) → k ≤ x → upto x k ≡ 1
unfolding upto
upto_yes x k l = if_true (nat_le k x) 1 0 (grind (arith, nat_tests))

upto_no : (x k : ℕ) → x < k → upto x k ≡ 0
unfolding upto
upto_no x k l = if_false (nat_le k x) 1 0 (grind (arith, nat_tests))

none_upto : (x t : ℕ) (ys : List ℕ) → x < t → Ascends t ys → sum_by (upto x) ys ≡ 0
none_upto x t [] l up = refl
none_upto x t (y ∷ ys) l up = omega (arith, sum_by-cons (upto x) y ys, upto_no x y (omega (arith, up.0)), none_upto x y ys (omega (arith, up.0)) up.1)

-- of two lists with the same sums the first can't begin lower
lower_first : (x y : ℕ) (xs ys : List ℕ) → x < y → Ascends y ys → sum_by (upto x) (x ∷ xs) ≡ sum_by (upto x) (y ∷ ys) → ⊥
lower_first x y xs ys l up same = omega (arith, same, sum_by-cons (upto x) x xs, upto_yes x x (omega arith), none_upto x y (y ∷ ys) l (omega arith, up))

-- lists that rise and have all sums in common are the same
pub same_sums : (t : ℕ) (xs ys : List ℕ) → Ascends t xs → Ascends t ys → ((f : ℕ → ℕ) → sum_by f xs ≡ sum_by f ys) → xs ≡ ys
same_sums t [] [] a b same = refl
same_sums t [] (y ∷ ys) a b same = absurd (omega (arith, same (λ k. 1), sum_by-cons (λ (k : ℕ). 1) y ys))
same_sums t (x ∷ xs) [] a b same = absurd (omega (arith, same (λ k. 1), sum_by-cons (λ (k : ℕ). 1) x xs))
same_sums t (x ∷ xs) (y ∷ ys) a b same =
    elim (cases_lt x y) [
      | inl l ↦ absurd (lower_first x y xs ys l b.1 (same (upto x)))
      | inr g ↦
          elim (cases_lt y x) [
            | inl l ↦ absurd (lower_first y x ys xs l a.1 (sym (same (upto y))))
            | inr f ↦
                let e : y ≡ x = omega arith in
                let rest : (f : ℕ → ℕ) → sum_by f xs ≡ sum_by f ys = λ (f : ℕ → ℕ). omega (arith, same f, sum_by-cons f x xs, sum_by-cons f y ys, ap f e) in
                let up : Ascends x ys = rw (← e) b.1 in
                rw e (ap (λ (r : List ℕ). x ∷ r) (same_sums x xs ys a.1 up rest))
          ]
    ]

-- a list and the same numbers in another order rise to the same list
pub sorted_up-permutation : (xs ys : List ℕ) → IsPermutation xs ys → sorted_up ys ≡ sorted_up xs
sorted_up-permutation xs ys h =
    same_sums 0 (sorted_up ys) (sorted_up xs) (Ascends-sorted_up ys) (Ascends-sorted_up xs)
    (λ f. sum_by-sorted_up f ys ∙ (sum_by-IsPermutation f xs ys h ∙ sym (sum_by-sorted_up f xs)))

-- no number is above x
abbrev pub UpTo : ℕ → List ℕ → Type 0
UpTo x [] = Unit {0}
UpTo x (y ∷ ys) = (y ≤ x) × UpTo x ys

pub bounded : (x : ℕ) (ys : List ℕ) → IsUpperBound nat_cmp x ys → UpTo x ys
bounded x [] h = tt
bounded x (y ∷ ys) h = (by (cases_lt x y), bounded x ys h.1)
  where
    by : (x < y) ⊎ (y ≤ x) → y ≤ x
    by (inl l) = let t : nat_lt x y ≡ true = grind (arith, nat_tests) in absurd (grind (arith, nat_tests, t, h.0))
    by (inr g) = g

UpTo-with_place : (x j : ℕ) (ks : List ℕ) → j ≤ x → UpTo x ks → UpTo x (with_place j ks)
unfolding with_place
UpTo-with_place x j [] l up = (l, tt)
UpTo-with_place x j (k ∷ ks) l up =
    elim (cases_lt j k) [
      | inl less ↦ rw (place_first j k ks less) (l, (up.0, up.1))
      | inr more ↦ rw (place_later j k ks more) (up.0, UpTo-with_place x j ks l up.1)
    ]

UpTo-sorted_up : (x : ℕ) (ys : List ℕ) → UpTo x ys → UpTo x (sorted_up ys)
UpTo-sorted_up x [] h = tt
UpTo-sorted_up x (y ∷ ys) h = UpTo-with_place x y (sorted_up ys) h.0 (UpTo-sorted_up x ys h.1)

place_last : (x : ℕ) (ks : List ℕ) → UpTo x ks → with_place x ks ≡ ks ++ x ∷ []
unfolding with_place
place_last x [] h = refl
place_last x (k ∷ ks) h = place_later x k ks h.0 ∙ ap (λ (r : List ℕ). k ∷ r) (place_last x ks h.1)

-- the greatest number stands last
pub popped : (xs ys : List ℕ) (x : ℕ) → IsPermutation xs (x ∷ ys) → IsUpperBound nat_cmp x ys → sorted_up xs ≡ sorted_up ys ++ x ∷ []
popped xs ys x h top = sym (sorted_up-permutation xs (x ∷ ys) h) ∙ place_last x (sorted_up ys) (UpTo-sorted_up x ys (bounded x ys top))

ascends : (t : ℕ) (ys : List ℕ) → (0 < length ys → t ≤ get_or ys 0 0) → ((i j : ℕ) → i ≤ j → j < length ys → get_or ys i 0 ≤ get_or ys j 0) → Ascends t ys
ascends t [] low up = tt
ascends t (y ∷ ys) low up = (low (omega arith), ascends y ys (λ l. up 0 1 (omega arith) (omega arith)) (λ i j le lt. up (suc i) (suc j) (omega arith) (omega arith)))

-- what a sort makes of the numbers
pub sorted : (xs ys : List ℕ) → IsPermutation xs ys → IsSortedByKey (λ x. x) nat_cmp ys → ys ≡ sorted_up xs
sorted xs ys h up =
    let rises : IsNonDecreasing ys = IsNonDecreasingBy-from_sort (λ x. x) ys up in
    same_sums 0 ys (sorted_up xs) (ascends 0 ys (λ l. omega arith) (λ i j le lt. rises i j 0 le lt)) (Ascends-sorted_up xs)
    (λ f. sum_by-IsPermutation f xs ys h ∙ sym (sum_by-sorted_up f xs))

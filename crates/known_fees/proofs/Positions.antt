-- First places in lists.
use Rattle.std.proofs.Common.{◌≡◌, ◌∙◌, ℕ, suc, ◌+◌, ◌<◌, ◌≤◌, Bool, true, false, cond, not, List, [], ◌∷◌, length, map, Option, Some, None, refl, sym, ap, arith, ◌⊎◌, inl, inr}
use Rattle.std.specs.Prelude.{position, option_map, option_and_then, slice_get, find, nat_lt}
use Rattle.std.specs.List.{position_or_len}
use Rattle.std.proofs.lemmas.Bool.{lt-ltb, le-ltb, cases_lt}

lt_suc : (m n : ℕ) → nat_lt (1 + m) (suc n) ≡ nat_lt m n
lt_suc m n = by (cases_lt m n)
  where
    by : (m < n) ⊎ (n ≤ m) → nat_lt (1 + m) (suc n) ≡ nat_lt m n
    by (inl h) = lt-ltb (1 + m) (suc n) (omega arith) ∙ sym (lt-ltb m n h)
    by (inr h) = le-ltb (1 + m) (suc n) (omega arith) ∙ sym (le-ltb m n h)

-- the first place in a longer list
pub position-cons : {X : Type 0} (p : X → Bool) (x : X) (xs : List X) → position p (x ∷ xs) ≡ cond (p x) (Some 0) (option_map (λ i. suc i) (position p xs))
position-cons p x xs = by (p x) (nat_lt (position_or_len p xs) (length xs)) (lt_suc (position_or_len p xs) (length xs))
  where
    by : (b c : Bool) → nat_lt (1 + position_or_len p xs) (suc (length xs)) ≡ c
        → cond (nat_lt (cond (not b) (1 + position_or_len p xs) 0) (suc (length xs))) (Some (cond (not b) (1 + position_or_len p xs) 0)) None ≡ cond b (Some 0) (option_map (λ i. suc i) (cond c (Some (position_or_len p xs)) None))
    by true c e = ap (λ d. cond d (Some 0) None) (lt-ltb 0 (suc (length xs)) (omega arith))
    by false true e = ap (λ d. cond d (Some (1 + position_or_len p xs)) None) e ∙ ap (λ n. Some n) (omega arith)
    by false false e = ap (λ d. cond d (Some (1 + position_or_len p xs)) None) e

-- it is determined by what the test sees
pub position-map : {X Y : Type 0} (p : Y → Bool) (f : X → Y) (xs : List X) → position p (map f xs) ≡ position (λ x. p (f x)) xs
position-map p f [] = refl
position-map p f (x ∷ xs) = position-cons p (f x) (map f xs) ∙ ap (λ (r : Option ℕ). cond (p (f x)) (Some 0) (option_map (λ i. suc i) r)) (position-map p f xs) ∙ sym (position-cons (λ y. p (f y)) x xs)

-- the first element stands at the first place
pub find_by_place : {X : Type 0} (p : X → Bool) (xs : List X) → option_and_then (slice_get xs) (position p xs) ≡ find p xs
find_by_place p [] = refl
find_by_place {X = X} p (x ∷ xs) = ap (option_and_then (slice_get (x ∷ xs))) (position-cons p x xs) ∙ by (p x) (position p xs) (find p xs) (find_by_place p xs)
  where
    by : (b : Bool) (r : Option ℕ) (f : Option X) → option_and_then (slice_get xs) r ≡ f → option_and_then (slice_get (x ∷ xs)) (cond b (Some 0) (option_map (λ i. suc i) r)) ≡ cond b (Some x) f
    by true r f e = refl
    by false None f e = e
    by false (Some i) f e = e

pub map_place : {X Y : Type 0} (f : X → Y) (xs : List X) (r : Option ℕ) → option_and_then (λ i. option_map f (slice_get xs i)) r ≡ option_map f (option_and_then (slice_get xs) r)
map_place f xs None = refl
map_place f xs (Some i) = refl

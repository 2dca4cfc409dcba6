-- Facts about lists and tests on which the proofs of several crates rest.
use Rattle.std.specs.Prelude.{ℕ, ℤ, zero, suc, ◌≡◌, ◌≤◌, ◌≤ℤ◌, ◌⊎◌, ◌&&◌, ◌||◌, Bool, int_le, true, false, List, [], ◌∷◌, ◌++◌, length, filter, find, bytes_eq, Contains, Some, option_map, is_some}
use Rattle.std.specs.Int.Signed.{le_z_yes}
use Rattle.std.specs.List.{list_any}
use Rattle.std.proofs.Common.{cond, refl, inl, inr, append_assoc, arith}
use Rattle.std.proofs.lemmas.Float.{T_from_true}
use Rattle.std.proofs.lemmas.List.Folds.{Any-from_list_any}
use Rattle.std.proofs.lemmas.Slice.Eq.{bytes_eq-Decides}

-- bytes that a test finds the same are the same
pub equal_bytes : (a b : List ℕ) → bytes_eq a b ≡ true → a ≡ b
equal_bytes a b e = (bytes_eq-Decides a b).0 e

-- and the other way round
pub same_bytes : (a b : List ℕ) → a ≡ b → bytes_eq a b ≡ true
same_bytes a b e = (bytes_eq-Decides a b).1 e

-- what stands behind the first stands in the list
pub in_tail : {X : Type 0} (x : X) (xs : List X) (y : X) → Contains xs y → Contains (x ∷ xs) y
in_tail x xs y (k, lt, e) = (suc k, omega (arith, lt), e)

-- what stands in a list is the first, or stands behind it
pub cons_cases : {X : Type 0} (x : X) (xs : List X) (y : X) → Contains (x ∷ xs) y → (x ≡ y) ⊎ Contains xs y
cons_cases x xs y (zero, lt, e) = inl e
cons_cases x xs y (suc k, lt, e) = inr (k, omega (arith, lt), e)

-- an element of which a test is true, where it is of some
pub any_found : {X : Type 0} (p : X → Bool) (xs : List X) → list_any p xs ≡ true → (x : X) × Contains xs x × (p x ≡ true)
any_found p xs h = let a = Any-from_list_any p xs h in (a.1, (a.0, a.2, a.3), a.4)

-- one is found exactly where the test is true of some
pub found_some : {X Y : Type 0} (p : X → Bool) (f : X → Y) (xs : List X) → is_some (option_map f (find p xs)) ≡ list_any p xs
found_some p f [] = refl
found_some {X = X} p f (x ∷ xs) = by (p x) (found_some p f xs)
  where
    by : (b : Bool) → is_some (option_map f (find p xs)) ≡ list_any p xs → is_some (option_map f (cond b (Some x) (find p xs))) ≡ (b || list_any p xs)
    by true e = refl
    by false e = e

-- a test leaves no more than there is
pub filter_le : {X : Type 0} (p : X → Bool) (xs : List X) → length (filter p xs) ≤ length xs
filter_le p [] = omega arith
filter_le {X = X} p (x ∷ xs) = by (p x) (filter_le p xs)
  where
    by : (b : Bool) → length (filter p xs) ≤ length xs → length (cond b (x ∷ filter p xs) (filter p xs)) ≤ length (x ∷ xs)
    by true le = omega arith
    by false le = omega arith

-- where not both are true and the first is, the second isn't
pub and_second : (a b : Bool) → (a && b) ≡ false → a ≡ true → b ≡ false
and_second true b e is = e
and_second false b e is = absurd cc

-- nothing passes a test that is never true
pub none_pass : {X : Type 0} (xs : List X) → filter (λ (x : X). false) xs ≡ []
none_pass [] = refl
none_pass (x ∷ xs) = none_pass xs

pub int_le_true : (x y : ℤ) → int_le x y ≡ true → x ≤ℤ y
int_le_true x y e = le_z_yes (T_from_true (int_le x y) e)

-- four parts and a rest
pub regroup3 : (a b c d rest : List ℕ) → (a ++ (b ++ (c ++ d))) ++ rest ≡ a ++ (b ++ (c ++ (d ++ rest)))
regroup3 a b c d rest = simp append_assoc

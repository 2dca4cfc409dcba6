-- What tests say, and choices by them.
use Rattle.std.specs.Prelude.{◌≡◌, ℕ, ◌<◌, ◌≤◌, ◌⊎◌, ◌==◌, Bool, true, false, List, ℤ, ◌≤ℤ◌, ◌<ℤ◌, int_lt, bytes_eq, if◌then◌else◌, nat_lt, nat_le}
use Rattle.std.proofs.Common.{arith, refl, inl, inr}
use Rattle.std.proofs.lemmas.Bool.Decides.{nat_tests}
use Rattle.std.proofs.lemmas.Int.{ints}
use Rattle.std.proofs.lemmas.Bool.{false_from_ne_true}
use Rattle.fund_base.proofs.Lists.{equal_bytes}

pub if_cases : {A : Type 0} (P : A → Type 0) (b : Bool) (x y : A) → (b ≡ true → P x) → (b ≡ false → P y) → P (if b then x else y)
if_cases P true x y f g = f refl
if_cases P false x y f g = g refl

pub if_true : {A : Type 0} (b : Bool) (x y : A) → b ≡ true → (if b then x else y) ≡ x
if_true true x y e = refl
if_true false x y e = absurd (cc)

pub if_false : {A : Type 0} (b : Bool) (x y : A) → b ≡ false → (if b then x else y) ≡ y
if_false true x y e = absurd (cc)
if_false false x y e = refl

pub by_test : (P : Type 0) (b : Bool) → (b ≡ true → P) → (b ≡ false → P) → P
by_test P true f g = f refl
by_test P false f g = g refl

pub lt_yes : (a b : ℕ) → nat_lt a b ≡ true → a < b
lt_yes a b e = grind (arith, nat_tests)

pub lt_no : (a b : ℕ) → nat_lt a b ≡ false → b ≤ a
lt_no a b e = grind (arith, nat_tests)

pub le_yes : (a b : ℕ) → nat_le a b ≡ true → a ≤ b
le_yes a b e = grind (arith, nat_tests)

pub le_no : (a b : ℕ) → nat_le a b ≡ false → b < a
le_no a b e = grind (arith, nat_tests)

pub eq_yes : (a b : ℕ) → (a == b) ≡ true → a ≡ b
eq_yes a b e = grind (arith, nat_tests)

pub zlt_yes : (a b : ℤ) → int_lt a b ≡ true → a <ℤ b
zlt_yes a b e = grind (arith, ints)

pub zlt_no : (a b : ℤ) → int_lt a b ≡ false → b ≤ℤ a
zlt_no a b e = grind (arith, ints)

pub cases_z : (x y : ℤ) → (x <ℤ y) ⊎ ((x ≡ y) ⊎ (y <ℤ x))
cases_z x y =
    by_test ((x <ℤ y) ⊎ ((x ≡ y) ⊎ (y <ℤ x))) (int_lt x y)
    (λ t. inl (grind (arith, ints)))
    (λ f. by_test ((x <ℤ y) ⊎ ((x ≡ y) ⊎ (y <ℤ x))) (int_lt y x) (λ t. inr (inr (grind (arith, ints)))) (λ g. inr (inl (grind (arith, ints)))))

pub other_test : (a b : List ℕ) → (a ≡ b → ⊥) → bytes_eq a b ≡ false
other_test a b other = false_from_ne_true (bytes_eq a b) (λ e. other (equal_bytes a b e))

-- Rows of digits in another base and back.
use Rattle.std.proofs.Common.{◌≡◌, ℕ, zero, suc, ◌+◌, ◌*◌, ◌<◌, ◌≤◌, false, cond, Bool, List, [], ◌∷◌, ◌++◌, length, get_or, take, drop, sym, ◌∙◌, ap, subst, refl, arith, append_assoc}
use Rattle.std.specs.Prelude.{◌==◌}
use Rattle.std.specs.List.{take_while}
use Rattle.std.specs.Int.Digits.{number_from_digits, number_from_digits_after, digits_of, AllBelowBase}
use Rattle.std.proofs.Math.Nat.{mul_comm, mul-le-mul_right, div-eq_of_lt, mod-eq_of_lt}
use Rattle.std.proofs.lemmas.Bool.{ne_eqb}
use Rattle.std.proofs.lemmas.Nat.{div-mul-add, mod-mul-add}
use Rattle.std.proofs.lemmas.List.{append-nil, length-append, take_at, drop_at}
use Rattle.std.proofs.lemmas.List.Sums.{take_while-cons}
use Rattle.std.proofs.lemmas.Int.Digits.{digits_of_step, first_digits_of, number_digits_of, all_below_base_digits_of}
use Rattle.base58_addr.specs.Rebasing.{leading, rebased}

-- ---- the zeros at the front, and what stands after them

abbrev pub lead : List ℕ → List ℕ
lead [] = []
lead (zero ∷ xs) = zero ∷ lead xs
lead (suc d ∷ xs) = []

abbrev pub stripped : List ℕ → List ℕ
stripped [] = []
stripped (zero ∷ xs) = stripped xs
stripped (suc d ∷ xs) = suc d ∷ xs

abbrev is_zero : ℕ → Bool
is_zero d = d == 0

pub leading_is : (xs : List ℕ) → leading xs ≡ lead xs
leading_is [] = refl
leading_is (zero ∷ xs) = take_while-cons is_zero zero xs ∙ ap (λ (l : List ℕ). zero ∷ l) (leading_is xs)
leading_is (suc d ∷ xs) =
    let other : is_zero (suc d) ≡ false = ne_eqb (suc d) 0 (λ e. omega arith) in
    take_while-cons is_zero (suc d) xs ∙ ap (λ (b : Bool). cond b (suc d ∷ take_while is_zero xs) []) other

pub lead_stripped : (xs : List ℕ) → lead xs ++ stripped xs ≡ xs
lead_stripped [] = refl
lead_stripped (zero ∷ xs) = ap (λ (l : List ℕ). zero ∷ l) (lead_stripped xs)
lead_stripped (suc d ∷ xs) = refl

-- ---- digits of a number that digits write

more : (b n d : ℕ) → 2 ≤ b → 0 < n → 0 < n * b + d
more b n d two some =
    let most : 1 * n ≤ b * n = mul-le-mul_right n (omega arith) in
    omega (arith, mul_comm n b)

one_more : (b n d : ℕ) → 2 ≤ b → 0 < n → d < b → digits_of b (n * b + d) ≡ digits_of b n ++ d ∷ []
one_more b n d two some low =
    digits_of_step b (n * b + d) two (more b n d two some)
    ∙ (λ i. digits_of b (div-mul-add n b d low i) ++ mod-mul-add n b d low i ∷ [])

digits_append : (b n : ℕ) (ds : List ℕ) → 2 ≤ b → 0 < n → AllBelowBase b ds → digits_of b (number_from_digits_after b n ds) ≡ digits_of b n ++ ds
digits_append b n [] two some below = sym (append-nil (digits_of b n))
digits_append b n (d ∷ ds) two some below =
    digits_append b (n * b + d) ds two (more b n d two some) below.1
    ∙ ap (λ (l : List ℕ). l ++ ds) (one_more b n d two some below.0)
    ∙ append_assoc (digits_of b n) (d ∷ []) ds

one_digit : (b d : ℕ) → 2 ≤ b → 0 < d → d < b → digits_of b d ≡ d ∷ []
one_digit b d two some low =
    digits_of_step b d two some ∙ (λ i. digits_of b (div-eq_of_lt low i) ++ mod-eq_of_lt low i ∷ [])

from_zero : (b d : ℕ) → 0 * b + d ≡ d
from_zero b d = omega arith

pub digits_stripped : (b : ℕ) (ds : List ℕ) → 2 ≤ b → AllBelowBase b ds → digits_of b (number_from_digits b ds) ≡ stripped ds
digits_stripped b [] two below = refl
digits_stripped b (zero ∷ ds) two below =
    ap (λ (n : ℕ). digits_of b (number_from_digits_after b n ds)) (from_zero b zero) ∙ digits_stripped b ds two below.1
digits_stripped b (suc d ∷ ds) two below =
    ap (λ (n : ℕ). digits_of b (number_from_digits_after b n ds)) (from_zero b (suc d))
    ∙ digits_append b (suc d) ds two (omega arith) below.1
    ∙ ap (λ (l : List ℕ). l ++ ds) (one_digit b (suc d) two (omega arith) below.0)

-- ---- zeros before digits

pub number_lead : (b : ℕ) (xs ys : List ℕ) → number_from_digits b (lead xs ++ ys) ≡ number_from_digits b ys
number_lead b [] ys = refl
number_lead b (zero ∷ xs) ys = ap (λ (n : ℕ). number_from_digits_after b n (lead xs ++ ys)) (from_zero b zero) ∙ number_lead b xs ys
number_lead b (suc d ∷ xs) ys = refl

pub lead_lead : (xs ys : List ℕ) → lead ys ≡ [] → lead (lead xs ++ ys) ≡ lead xs
lead_lead [] ys none = none
lead_lead (zero ∷ xs) ys none = ap (λ (l : List ℕ). zero ∷ l) (lead_lead xs ys none)
lead_lead (suc d ∷ xs) ys none = none

headed : (ys : List ℕ) → 0 < get_or ys 0 0 → lead ys ≡ []
headed [] some = refl
headed (zero ∷ ys) some = absurd (omega arith)
headed (suc d ∷ ys) some = refl

lead_digits : (b n : ℕ) → 2 ≤ b → lead (digits_of b n) ≡ []
lead_digits b zero two = refl
lead_digits b (suc n) two = headed (digits_of b (suc n)) (first_digits_of b (suc n) two (omega arith))

-- ---- there and back

pub rebased_is : (from to : ℕ) (row : List ℕ) → rebased from to row ≡ lead row ++ digits_of to (number_from_digits from row)
unfolding rebased
rebased_is from to row = ap (λ (l : List ℕ). l ++ digits_of to (number_from_digits from row)) (leading_is row)

pub rebased_back : (from to : ℕ) (row : List ℕ) → 2 ≤ from → 2 ≤ to → AllBelowBase from row → rebased to from (rebased from to row) ≡ row
rebased_back from to row one two below =
    let n = number_from_digits from row in
    let ys = digits_of to n in
    let none : lead ys ≡ [] = lead_digits to n two in
    let number : number_from_digits to (lead row ++ ys) ≡ n = number_lead to row ys ∙ number_digits_of to n two in
    ap (λ (l : List ℕ). rebased to from l) (rebased_is from to row)
    ∙ rebased_is to from (lead row ++ ys)
    ∙ (λ i. lead_lead row ys none i ++ digits_of from (number i))
    ∙ ap (λ (l : List ℕ). lead row ++ l) (digits_stripped from row one below)
    ∙ lead_stripped row

-- ---- what a row in another base is made of

lead_below : (b : ℕ) (xs : List ℕ) → 0 < b → AllBelowBase b (lead xs)
lead_below b [] some = tt
lead_below b (zero ∷ xs) some = (some, lead_below b xs some)
lead_below b (suc d ∷ xs) some = tt

below_append : (b : ℕ) (xs ys : List ℕ) → AllBelowBase b xs → AllBelowBase b ys → AllBelowBase b (xs ++ ys)
below_append b [] ys p q = q
below_append b (x ∷ xs) ys p q = (p.0, below_append b xs ys p.1 q)

pub rebased_below : (from to : ℕ) (row : List ℕ) → 2 ≤ to → AllBelowBase to (rebased from to row)
rebased_below from to row two =
    subst (λ (l : List ℕ). AllBelowBase to l) (sym (rebased_is from to row))
    (below_append to (lead row) (digits_of to (number_from_digits from row)) (lead_below to row (omega arith)) (all_below_base_digits_of to (number_from_digits from row) two))

pub rebased_number : (from to : ℕ) (row : List ℕ) → 2 ≤ to → number_from_digits to (rebased from to row) ≡ number_from_digits from row
rebased_number from to row two =
    ap (λ (l : List ℕ). number_from_digits to l) (rebased_is from to row)
    ∙ number_lead to row (digits_of to (number_from_digits from row))
    ∙ number_digits_of to (number_from_digits from row) two

-- two rows that begin with as many zeros begin alike
lead_same : (xs ys : List ℕ) → length (lead xs) ≡ length (lead ys) → lead xs ≡ lead ys
lead_same [] [] e = refl
lead_same [] (zero ∷ ys) e = absurd (omega arith)
lead_same [] (suc d ∷ ys) e = refl
lead_same (zero ∷ xs) [] e = absurd (omega arith)
lead_same (zero ∷ xs) (zero ∷ ys) e = ap (λ (l : List ℕ). zero ∷ l) (lead_same xs ys (omega arith))
lead_same (zero ∷ xs) (suc d ∷ ys) e = absurd (omega arith)
lead_same (suc c ∷ xs) [] e = refl
lead_same (suc c ∷ xs) (zero ∷ ys) e = absurd (omega arith)
lead_same (suc c ∷ xs) (suc d ∷ ys) e = refl

-- digits of the number in the other base, with zeros before them
pub record Writes (from to : ℕ) (row room : List ℕ) : Type 0 where
  pub value : number_from_digits to room ≡ number_from_digits from row
  pub below : AllBelowBase to room

pub stripped_is : (from to : ℕ) (row room : List ℕ) → 2 ≤ to → Writes from to row room → stripped room ≡ digits_of to (number_from_digits from row)
stripped_is from to row room two is = sym (digits_stripped to room two is.below) ∙ ap (λ (n : ℕ). digits_of to n) is.value

pub rebased_long : (from to : ℕ) (row room : List ℕ) → 2 ≤ to → Writes from to row room → length (rebased from to row) + length (leading room) ≡ length room + length (leading row)
rebased_long from to row room two is =
    let a = ap (λ (l : List ℕ). length l) (rebased_is from to row) ∙ length-append (lead row) (digits_of to (number_from_digits from row)) in
    let b = ap (λ (l : List ℕ). length l) (sym (lead_stripped room)) ∙ length-append (lead room) (stripped room) in
    let c = ap (λ (l : List ℕ). length l) (stripped_is from to row room two is) in
    let d = ap (λ (l : List ℕ). length l) (leading_is room) in
    let e = ap (λ (l : List ℕ). length l) (leading_is row) in
    omega (arith, a, b, c, d, e)

pub rebased_whole : (from to : ℕ) (row room : List ℕ) → 2 ≤ to → Writes from to row room → length (leading room) ≡ length (leading row) → room ≡ rebased from to row
rebased_whole from to row room two is same =
    let lengths : length (lead room) ≡ length (lead row) = ap (λ (l : List ℕ). length l) (sym (leading_is room)) ∙ same ∙ ap (λ (l : List ℕ). length l) (leading_is row) in
    sym (lead_stripped room)
    ∙ (λ i. lead_same room row lengths i ++ stripped_is from to row room two is i)
    ∙ sym (rebased_is from to row)

-- the zeros that begin a row, and what stands in the room after its own
pub leading_taken : (row : List ℕ) → take (length (leading row)) row ≡ leading row
leading_taken row =
    rw leading_is (ap (λ (l : List ℕ). take (length (lead row)) l) (sym (lead_stripped row)) ∙ take_at (lead row) (stripped row) (length (lead row)) refl)

pub stripped_dropped : (row : List ℕ) → drop (length (leading row)) row ≡ stripped row
stripped_dropped row =
    rw leading_is (ap (λ (l : List ℕ). drop (length (lead row)) l) (sym (lead_stripped row)) ∙ drop_at (lead row) (stripped row) (length (lead row)) refl)

pub rebased_parts : (from to : ℕ) (row room : List ℕ) → 2 ≤ to → Writes from to row room → take (length (leading row)) row ++ drop (length (leading room)) room ≡ rebased from to row
rebased_parts from to row room two is =
    (λ i. leading_taken row i ++ stripped_dropped room i)
    ∙ (λ i. leading_is row i ++ stripped_is from to row room two is i)
    ∙ sym (rebased_is from to row)

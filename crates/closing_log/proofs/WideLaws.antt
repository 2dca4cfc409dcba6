-- Spellings of numbers of up to 64 digits: what begins one, its first digit, and reading it again.
use Rattle.std.proofs.Common.{◌≡◌, ℕ, ◌+◌, ◌^◌, ◌≤◌, ◌<◌, true, leb, List, [], ◌∷◌, ◌++◌, length, get_or, Some, refl, sym, ap, ◌∙◌, arith}
use Rattle.std.specs.Prelude.{◌/◌, ◌%◌, nat_le, ◌&&◌}
use Rattle.std.specs.Fmt.{decimal}
use Rattle.std.specs.Str.{bytes_eq}
use Rattle.std.specs.Str.Parse.{digits_value}
use Rattle.std.proofs.lemmas.Bool.{le-leb, leb-true}
use Rattle.std.proofs.lemmas.Bool.Decides.{Decides-and}
use Rattle.std.proofs.lemmas.Fmt.{decimal_by_steps_wide, decimal_digit, decimal_is_IsNumeral_wide, decimal_step_wide}
use Rattle.std.proofs.lemmas.List.{append-nil, length-append, nil_from_length}
use Rattle.std.proofs.lemmas.Slice.Eq.{bytes_eq-Decides}
use Rattle.fund_base.specs.Decimal.{number_of}

pub wide_nonempty : (n : ℕ) → n < 10 ^ 64 → 0 < length (decimal n)
wide_nonempty n small = (decimal_is_IsNumeral_wide n small).0.0

-- ---- a number is read from its spelling

passes : (most n : ℕ) → n ≤ most → (nat_le n most && bytes_eq (decimal n) (decimal n)) ≡ true
passes most n le = (Decides-and (leb n most) (bytes_eq (decimal n) (decimal n)) (leb-true n most, le-leb n most) (bytes_eq-Decides (decimal n) (decimal n))).1 (le, refl)

pub wide_only : (most n : ℕ) → most < 10 ^ 64 → n ≤ most → number_of most (decimal n) ≡ Some n
unfolding number_of
wide_only most n small le =
    let value : digits_value 10 (decimal n) ≡ n = (decimal_is_IsNumeral_wide n (omega arith)).1 in
    let yes = passes most n le in
    rw (value, yes) refl

-- ---- what begins a spelling is a spelling

pub record Shorter (n : ℕ) (front : List ℕ) : Type 0 where
  pub number : ℕ
  pub le : number ≤ n
  pub is : front ≡ decimal number

record Fronts (n : ℕ) (ds : List ℕ) : Type 0 where
  pub is : ds ≡ decimal n
  pub fronts : (front more : List ℕ) → ds ≡ front ++ more → 0 < length front → Shorter n front

abbrev HasFronts : ℕ → List ℕ → Type 0
HasFronts n ds = n < 10 ^ 64 → Fronts n ds

one_front : (d : ℕ) (front more : List ℕ) → d ∷ [] ≡ front ++ more → 0 < length front → front ≡ d ∷ []
one_front d [] more is some = absurd (omega arith)
one_front d (c ∷ front) more is some =
    let tails : [] ≡ front ++ more = cc in
    let nothing : front ≡ [] = nil_from_length front (omega (arith, ap length tails, length-append front more)) in
    let heads : d ≡ c = cc in
    cc

one_digit : (n : ℕ) → n < 10 → HasFronts n ((48 + n) ∷ [])
one_digit n low small = record {
  is = sym (decimal_digit n low);
  fronts = λ front more is some. record { number = n; le = omega arith; is = one_front (48 + n) front more is some ∙ sym (decimal_digit n low) };
}

-- the last byte is taken from both
shed : (ds front : List ℕ) (d c : ℕ) (more : List ℕ) → ds ++ d ∷ [] ≡ front ++ c ∷ more → (w : List ℕ) × (ds ≡ front ++ w)
shed ds [] d c more is = (ds, refl)
shed [] (x ∷ front) d c more is = absurd (omega (arith, ap length is, length-append front (c ∷ more)))
shed (y ∷ ds) (x ∷ front) d c more is =
    let tails : ds ++ d ∷ [] ≡ front ++ c ∷ more = cc in
    let heads : y ≡ x = cc in
    let s = shed ds front d c more tails in
    (s.0, let h = s.1 in cc)

front_of : (n : ℕ) (ds : List ℕ) (d : ℕ) → Fronts (n / 10) ds → ds ++ d ∷ [] ≡ decimal n → (front more : List ℕ) → ds ++ d ∷ [] ≡ front ++ more → 0 < length front → Shorter n front
front_of n ds d before whole front [] is some = record { number = n; le = omega arith; is = sym (append-nil front) ∙ sym is ∙ whole }
front_of n ds d before whole front (c ∷ more) is some =
    let s = shed ds front d c more is in
    let f = before.fronts front s.0 s.1 some in
    record { number = f.number; le = omega (arith, f.le); is = f.is }

more_digits : (n : ℕ) (ds : List ℕ) → 10 ≤ n → HasFronts (n / 10) ds → HasFronts n (ds ++ (48 + n % 10) ∷ [])
more_digits n ds ge before small =
    let f = before (omega (arith, small)) in
    let whole : ds ++ (48 + n % 10) ∷ [] ≡ decimal n = ap (λ t. t ++ (48 + n % 10) ∷ []) f.is ∙ sym (decimal_step_wide n ge small) in
    record { is = whole; fronts = front_of n ds (48 + n % 10) f whole }

pub wide_front : (n : ℕ) (front more : List ℕ) → n < 10 ^ 64 → decimal n ≡ front ++ more → 0 < length front → Shorter n front
wide_front n front more small is some = (decimal_by_steps_wide HasFronts one_digit more_digits n small small).fronts front more is some

-- ---- the first digit

abbrev Leads : ℕ → List ℕ → Type 0
Leads n ds = 0 < n → 48 < get_or ds 0 0

one_leads : (n : ℕ) → n < 10 → Leads n ((48 + n) ∷ [])
one_leads n low some = omega arith

more_leads : (n : ℕ) (ds : List ℕ) → 10 ≤ n → Leads (n / 10) ds → Leads n (ds ++ (48 + n % 10) ∷ [])
more_leads n [] ge before some = let h = before (omega arith) in absurd (omega (arith, h))
more_leads n (c ∷ ds) ge before some = before (omega arith)

pub wide_first : (n : ℕ) → 0 < n → n < 10 ^ 64 → 48 < get_or (decimal n) 0 0
wide_first n some small = decimal_by_steps_wide Leads one_leads more_leads n small some

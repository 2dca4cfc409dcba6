-- Each token at a node is allowed or not, so each letter is taken or has its fault.
use Rattle.std.specs.Prelude.{◌≡◌, ◌≢◌, ℕ, ◌+◌, ◌-◌, ◌<◌, ◌≤◌, ◌⊎◌, Bool, true, false, List, [], ◌∷◌, length, ℤ, ◌<ℤ◌, All, Option, Some, None, IsSomeAnd}
use Rattle.std.proofs.Common.{arith, refl, inl, inr}
use Rattle.std.proofs.lemmas.Bool.{cases_lt}
use Rattle.std.proofs.lemmas.Int.{ints}
use Rattle.std.proofs.lemmas.List.Elements.{All-cons, All-head, All-nil, All-tail}
use Rattle.wide_check.specs.declared.token.WideReason.{WideReason}
use Rattle.wide_check.specs.declared.token.WideReason.TheVariants.{Short, Over, Heavy, Wasteful, Ended}
use Rattle.wide_check.specs.declared.token.WideToken.{WideToken}
use Rattle.wide_check.specs.declared.token.WideToken.TheVariants.{Enter, Pass, Mark, Close}
use Rattle.pick_problem.specs.Pool.{item_at}
use Rattle.pick_problem.specs.Problem.{PlainProblem, Rising, value_of, weight_of}
use Rattle.wide_check.specs.Wide.{IsWide, IsWideFit, waste_of}
use Rattle.pick_problem.specs.Later.{is_twin, later_value}
use Rattle.pick_problem.specs.Steps.{IsAbove}
use Rattle.wide_check.specs.WideSteps.{Closes, IsAllowedAt, IsDue, IsNoBetterThan, StandsAt, Suits, least_waste}
use Rattle.pick_problem.proofs.Deciding.{cases_z}

-- a fact holds, or it doesn't
abbrev pub Either : Type 0 → Type 0
Either P = P ⊎ (¬ P)

both : (P Q : Type 0) → Either P → Either Q → Either (P × Q)
both P Q p q =
    elim p [
      | inl h ↦ elim q [ inl k ↦ inl (h, k) | inr k ↦ inr (λ m. k m.1) ]
      | inr h ↦ inr (λ m. h m.0)
    ]

three : (P Q R : Type 0) → Either P → Either Q → Either R → Either (P × Q × R)
three P Q R p q r =
    elim (both P Q p q) [
      | inl h ↦ elim r [ inl k ↦ inl (h.0, h.1, k) | inr k ↦ inr (λ m. k m.2) ]
      | inr h ↦ inr (λ m. h (m.0, m.1))
    ]

four : (P Q R S : Type 0) → Either P → Either Q → Either R → Either S → Either (P × Q × R × S)
four P Q R S p q r s =
    elim (three P Q R p q r) [
      | inl h ↦ elim s [ inl k ↦ inl (h.0, h.1, h.2, k) | inr k ↦ inr (λ m. k m.3) ]
      | inr h ↦ inr (λ m. h (m.0, m.1, m.2))
    ]

one_of : (P Q : Type 0) → Either P → Either Q → Either (P ⊎ Q)
one_of P Q p q =
    elim p [
      | inl h ↦ inl (inl h)
      | inr h ↦
          elim q [
            | inl k ↦ inl (inr k)
            | inr k ↦ inr (λ m. elim m [ inl x ↦ h x | inr y ↦ k y ])
          ]
    ]

not_so : (P : Type 0) → Either P → Either (¬ P)
not_so P p = elim p [ inl h ↦ inr (λ n. n h) | inr h ↦ inl h ]

less : (a b : ℕ) → Either (a < b)
less a b = elim (cases_lt a b) [ inl l ↦ inl l | inr g ↦ inr (λ m. omega (arith, m, g)) ]

at_most : (a b : ℕ) → Either (a ≤ b)
at_most a b = elim (cases_lt b a) [ inl l ↦ inr (λ m. omega (arith, m, l)) | inr g ↦ inl g ]

same : (a b : ℕ) → Either (a ≡ b)
same a b =
    elim (cases_lt a b) [
      | inl l ↦ inr (λ m. omega (arith, m, l))
      | inr g ↦ elim (cases_lt b a) [ inl l ↦ inr (λ m. omega (arith, m, l)) | inr k ↦ let e : a ≡ b = omega arith in inl e ]
    ]

less_z : (a b : ℤ) → Either (a <ℤ b)
less_z a b = elim (cases_z a b) [ inl l ↦ inl l | inr r ↦ elim r [ inl e ↦ inr (λ m. omega (arith, ints, m, e)) | inr l ↦ inr (λ m. omega (arith, ints, m, l)) ] ]

same_z : (a b : ℤ) → Either (a ≡ b)
same_z a b = elim (cases_z a b) [ inl l ↦ inr (λ m. omega (arith, ints, m, l)) | inr r ↦ elim r [ inl e ↦ inl e | inr l ↦ inr (λ m. omega (arith, ints, m, l)) ] ]

so : (b : Bool) → Either (b ≡ true)
so true = inl refl
so false = inr (λ m. cc)

each : {T : Type 0} (P : T → Type 0) → ((x : T) → Either (P x)) → (xs : List T) → Either (All P xs)
each P one [] = inl (All-nil P)
each P one (x ∷ xs) =
    let rest = each P one xs in
    elim (one x) [
      | inl h ↦ elim rest [ inl k ↦ inl (All-cons P x xs h k) | inr k ↦ inr (λ m. k (All-tail P x xs m)) ]
      | inr h ↦ inr (λ m. h (All-head P x xs m))
    ]

some : (a : Option (List ℕ)) (P : List ℕ → Type 0) → ((q : List ℕ) → Either (P q)) → Either (IsSomeAnd a P)
some None P one = inr (λ m. m)
some (Some q) P one = one q

same_list : (q r : List ℕ) → Either (q ≡ r)
same_list [] [] = inl refl
same_list [] (y ∷ r) = inr (λ m. cc)
same_list (x ∷ q) [] = inr (λ m. cc)
same_list (x ∷ q) (y ∷ r) =
    let rest = same_list q r in
    elim (same x y) [
      | inl h ↦ elim rest [ inl k ↦ let e : x ∷ q ≡ y ∷ r = cc in inl e | inr k ↦ inr (λ m. k (let e : q ≡ r = cc in e)) ]
      | inr h ↦ inr (λ m. h (let e : x ≡ y = cc in e))
    ]

rises : (n t : ℕ) (q : List ℕ) → Either (Rising n t q)
rises n t [] = inl tt
rises n t (j ∷ q) = three (t ≤ j) (j < n) (Rising n (j + 1) q) (at_most t j) (less j n) (rises n (j + 1) q)

-- ---- selections

pub wide : (p : PlainProblem) (q : List ℕ) → Either (IsWide p q)
wide p q =
    elim (four (0 < length q) (Rising (length p.items) 0 q) (p.lo ≤ value_of p q) (value_of p q ≤ p.hi) (less 0 (length q)) (rises (length p.items) 0 q) (at_most p.lo (value_of p q)) (at_most (value_of p q) p.hi)) [
      | inl h ↦
          elim (at_most (weight_of p q) p.most_weight) [
            | inl k ↦ inl (record { some = h.0; rising = h.1; reaches = h.2; under = h.3; light = k })
            | inr k ↦ inr (λ m. k m.light)
          ]
      | inr h ↦ inr (λ m. h (m.some, m.rising, m.reaches, m.under))
    ]

pub fit : (p : PlainProblem) (a : Option (List ℕ)) → Either (IsWideFit p a)
fit p None = inl tt
fit p (Some q) = wide p q

due : (p : PlainProblem) (entered : Bool) (q : List ℕ) → Either (IsDue p entered q)
due p entered q = both (entered ≡ true) (IsWide p q) (so entered) (wide p q)

-- ---- tokens

above : (met : Bool) (x y : ℤ) → Either (IsAbove met x y)
above met x y = one_of (y <ℤ x) ((y ≡ x) × (met ≡ true)) (less_z y x) (both (y ≡ x) (met ≡ true) (same_z y x) (so met))

no_better : (p : PlainProblem) (met : Bool) (q best : List ℕ) → Either (IsNoBetterThan p met q best)
no_better p met q best = one_of (q ≡ best) (IsAbove met (waste_of p q) (waste_of p best)) (same_list q best) (above met (waste_of p q) (waste_of p best))

closes : (p : PlainProblem) (a : Option (List ℕ)) (met : Bool) (q : List ℕ) (t : ℕ) (reason : WideReason) →
    Either (Closes p a met q t reason)
closes p a met q t Short = less (value_of p q + later_value p t) p.lo
closes p a met q t Over = less p.hi (value_of p q)
closes p a met q t Heavy = less p.most_weight (weight_of p q)
closes p a met q t Wasteful = some a (λ best. IsAbove met (least_waste p q t) (waste_of p best)) (λ best. above met (least_waste p q t) (waste_of p best))
closes p a met q t Ended = same t (length p.items)

stands : (p : PlainProblem) (a : Option (List ℕ)) (met : Bool) (q : List ℕ) (t : ℕ) (token : WideToken) →
    Either (StandsAt p a met q t token)
stands p a met q t Enter = less t (length p.items)
stands p a met q t Pass =
    four (0 < t) (t < length p.items) (All (λ j. j ≢ t - 1) q) (is_twin p.kind (item_at p.items (t - 1)) (item_at p.items t) ≡ true) (less 0 t) (less t (length p.items))
    (each (λ j. j ≢ t - 1) (λ j. not_so (j ≡ t - 1) (same j (t - 1))) q) (so (is_twin p.kind (item_at p.items (t - 1)) (item_at p.items t)))
stands p a met q t Mark = some a (λ best. IsNoBetterThan p met q best) (λ best. no_better p met q best)
stands p a met q t (Close reason) = closes p a met q t reason

suits : (p : PlainProblem) (entered : Bool) (q : List ℕ) (token : WideToken) → Either (Suits p entered q token)
suits p entered q Enter = not_so (IsDue p entered q) (due p entered q)
suits p entered q Pass = not_so (IsDue p entered q) (due p entered q)
suits p entered q Mark = due p entered q
suits p entered q (Close Short) = not_so (IsDue p entered q) (due p entered q)
suits p entered q (Close Over) = not_so (IsDue p entered q) (due p entered q)
suits p entered q (Close Heavy) = not_so (IsDue p entered q) (due p entered q)
suits p entered q (Close Wasteful) = inl tt
suits p entered q (Close Ended) = not_so (IsDue p entered q) (due p entered q)

pub allowed : (p : PlainProblem) (a : Option (List ℕ)) (entered met : Bool) (q : List ℕ) (t : ℕ) (token : WideToken) →
    Either (IsAllowedAt p a entered met q t token)
allowed p a entered met q t token =
    elim (suits p entered q token) [
      | inl h ↦
          elim (stands p a met q t token) [
            | inl k ↦ inl (record { suits = h; stands = k })
            | inr k ↦ inr (λ m. k m.stands)
          ]
      | inr h ↦ inr (λ m. h m.suits)
    ]

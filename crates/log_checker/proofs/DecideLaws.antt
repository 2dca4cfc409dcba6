-- Each token at a node is allowed or not, so each letter is taken or has its fault.
use Rattle.std.specs.Prelude.{◌≡◌, ◌≢◌, ℕ, ◌+◌, ◌-◌, ◌*◌, ◌<◌, ◌≤◌, ◌⊎◌, Bool, true, false, List, [], ◌∷◌, length, ℤ, pos, ◌+ℤ◌, ◌≤ℤ◌, ◌<ℤ◌, All, Option, Some, None, IsSomeAnd}
use Rattle.std.proofs.Common.{arith, refl, inl, inr}
use Rattle.std.proofs.lemmas.Bool.{cases_lt}
use Rattle.std.proofs.lemmas.Int.{ints}
use Rattle.std.proofs.lemmas.List.Elements.{All-cons, All-head, All-nil, All-tail}
use Rattle.pick_problem.specs.declared.item.Item.{Item}
use Rattle.pick_problem.specs.declared.item.Kind.{Kind}
use Rattle.pick_problem.specs.declared.item.Kind.TheVariants.{Changeless, Lean}
use Rattle.pick_problem.specs.declared.score.Score.{Score}
use Rattle.pick_problem.specs.declared.token.Reason.{Reason}
use Rattle.pick_problem.specs.declared.token.Reason.TheVariants.{Short, Over, Heavy, NoRoom, Worse, Heavier, Far, Hit}
use Rattle.pick_problem.specs.declared.token.Token.{Token}
use Rattle.pick_problem.specs.declared.token.Token.TheVariants.{Enter, Pass, Close}
use Rattle.pick_problem.specs.Pool.{item_at}
use Rattle.pick_problem.specs.Problem.{PlainProblem, Rising, value_of, weight_of, cost_of}
use Rattle.pick_problem.specs.Admissible.{Fits, IsAdmissible, IsFit, NeedsEach}
use Rattle.pick_problem.specs.Later.{NoNegative, later_value, least_weight, is_twin}
use Rattle.pick_problem.specs.Score.{IsBelow, IsSame, score_of}
use Rattle.pick_problem.specs.Steps.{Closes, IsAbove, IsAllowedAt, IsNoBetterThan, needed}
use Rattle.pick_problem.proofs.Deciding.{cases_z}

-- a fact holds, or it doesn't
abbrev pub Either : Type 0 → Type 0
Either P = P ⊎ (¬ P)

both : (P Q : Type 0) → Either P → Either Q → Either (P × Q)
both P Q p q =
    elim p [
      | inl h ↦ elim q [ inl k ↦ inl (h, k) | inr k ↦ inr (λ m. k m.1) ]
      | inr h ↦ inr (λ m. h m.0)
    ]

three : (P Q R : Type 0) → Either P → Either Q → Either R → Either (P × Q × R)
three P Q R p q r =
    elim (both P Q p q) [
      | inl h ↦ elim r [ inl k ↦ inl (h.0, h.1, k) | inr k ↦ inr (λ m. k m.2) ]
      | inr h ↦ inr (λ m. h (m.0, m.1))
    ]

four : (P Q R S : Type 0) → Either P → Either Q → Either R → Either S → Either (P × Q × R × S)
four P Q R S p q r s =
    elim (three P Q R p q r) [
      | inl h ↦ elim s [ inl k ↦ inl (h.0, h.1, h.2, k) | inr k ↦ inr (λ m. k m.3) ]
      | inr h ↦ inr (λ m. h (m.0, m.1, m.2))
    ]

one_of : (P Q : Type 0) → Either P → Either Q → Either (P ⊎ Q)
one_of P Q p q =
    elim p [
      | inl h ↦ inl (inl h)
      | inr h ↦
          elim q [
            | inl k ↦ inl (inr k)
            | inr k ↦ inr (λ m. elim m [ inl x ↦ h x | inr y ↦ k y ])
          ]
    ]

where_so : (P Q : Type 0) → Either P → Either Q → Either (P → Q)
where_so P Q p q =
    elim p [
      | inl h ↦ elim q [ inl k ↦ inl (λ m. k) | inr k ↦ inr (λ f. k (f h)) ]
      | inr h ↦ inl (λ m. absurd (h m))
    ]

not_so : (P : Type 0) → Either P → Either (¬ P)
not_so P p = elim p [ inl h ↦ inr (λ n. n h) | inr h ↦ inl h ]

less : (a b : ℕ) → Either (a < b)
less a b = elim (cases_lt a b) [ inl l ↦ inl l | inr g ↦ inr (λ m. omega (arith, m, g)) ]

at_most : (a b : ℕ) → Either (a ≤ b)
at_most a b = elim (cases_lt b a) [ inl l ↦ inr (λ m. omega (arith, m, l)) | inr g ↦ inl g ]

same : (a b : ℕ) → Either (a ≡ b)
same a b =
    elim (cases_lt a b) [
      | inl l ↦ inr (λ m. omega (arith, m, l))
      | inr g ↦ elim (cases_lt b a) [ inl l ↦ inr (λ m. omega (arith, m, l)) | inr k ↦ let e : a ≡ b = omega arith in inl e ]
    ]

less_z : (a b : ℤ) → Either (a <ℤ b)
less_z a b = elim (cases_z a b) [ inl l ↦ inl l | inr r ↦ elim r [ inl e ↦ inr (λ m. omega (arith, ints, m, e)) | inr l ↦ inr (λ m. omega (arith, ints, m, l)) ] ]

same_z : (a b : ℤ) → Either (a ≡ b)
same_z a b = elim (cases_z a b) [ inl l ↦ inr (λ m. omega (arith, ints, m, l)) | inr r ↦ elim r [ inl e ↦ inl e | inr l ↦ inr (λ m. omega (arith, ints, m, l)) ] ]

at_most_z : (a b : ℤ) → Either (a ≤ℤ b)
at_most_z a b = elim (less_z b a) [ inl l ↦ inr (λ m. omega (arith, ints, m, l)) | inr n ↦ inl (elim (cases_z a b) [ inl l ↦ omega (arith, ints, l) | inr r ↦ elim r [ inl e ↦ omega (arith, ints, e) | inr l ↦ absurd (n l) ] ]) ]

so : (b : Bool) → Either (b ≡ true)
so true = inl refl
so false = inr (λ m. cc)

is_changeless : (k : Kind) → Either (k ≡ Changeless)
is_changeless Changeless = inl refl
is_changeless Lean = inr (λ m. cc)

is_lean : (k : Kind) → Either (k ≡ Lean)
is_lean Lean = inl refl
is_lean Changeless = inr (λ m. cc)

each : {T : Type 0} (P : T → Type 0) → ((x : T) → Either (P x)) → (xs : List T) → Either (All P xs)
each P one [] = inl (All-nil P)
each P one (x ∷ xs) =
    let rest = each P one xs in
    elim (one x) [
      | inl h ↦ elim rest [ inl k ↦ inl (All-cons P x xs h k) | inr k ↦ inr (λ m. k (All-tail P x xs m)) ]
      | inr h ↦ inr (λ m. h (All-head P x xs m))
    ]

some : (a : Option (List ℕ)) (P : List ℕ → Type 0) → ((q : List ℕ) → Either (P q)) → Either (IsSomeAnd a P)
some None P one = inr (λ m. m)
some (Some q) P one = one q

same_list : (q r : List ℕ) → Either (q ≡ r)
same_list [] [] = inl refl
same_list [] (y ∷ r) = inr (λ m. cc)
same_list (x ∷ q) [] = inr (λ m. cc)
same_list (x ∷ q) (y ∷ r) =
    let rest = same_list q r in
    elim (same x y) [
      | inl h ↦ elim rest [ inl k ↦ let e : x ∷ q ≡ y ∷ r = cc in inl e | inr k ↦ inr (λ m. k (let e : q ≡ r = cc in e)) ]
      | inr h ↦ inr (λ m. h (let e : x ≡ y = cc in e))
    ]

rises : (n t : ℕ) (q : List ℕ) → Either (Rising n t q)
rises n t [] = inl tt
rises n t (j ∷ q) = three (t ≤ j) (j < n) (Rising n (j + 1) q) (at_most t j) (less j n) (rises n (j + 1) q)

-- ---- selections

fits : (k : Kind) (p : PlainProblem) (q : List ℕ) → Either (Fits k p q)
fits Changeless p q =
    both (value_of p q ≤ p.hi) (NeedsEach p q) (at_most (value_of p q) p.hi) (each (λ j. value_of p q - (item_at p.items j).value < p.lo) (λ j. less (value_of p q - (item_at p.items j).value) p.lo) q)
fits Lean p q = inl tt

pub admissible : (p : PlainProblem) (q : List ℕ) → Either (IsAdmissible p q)
admissible p q =
    elim (four (0 < length q) (Rising (length p.items) 0 q) (p.lo ≤ value_of p q) (weight_of p q ≤ p.most_weight) (less 0 (length q)) (rises (length p.items) 0 q) (at_most p.lo (value_of p q)) (at_most (weight_of p q) p.most_weight)) [
      | inl h ↦
          elim (fits p.kind p q) [
            | inl k ↦ inl (record { some = h.0; rising = h.1; reaches = h.2; light = h.3; fits = k })
            | inr k ↦ inr (λ m. k m.fits)
          ]
      | inr h ↦ inr (λ m. h (m.some, m.rising, m.reaches, m.light))
    ]

pub fit : (p : PlainProblem) (a : Option (List ℕ)) → Either (IsFit p a)
fit p None = inl tt
fit p (Some q) = admissible p q

below : (x y : Score) → Either (IsBelow x y)
below x y =
    one_of (x.first <ℤ y.first) ((x.first ≡ y.first) × (x.second < y.second)) (less_z x.first y.first)
    (both (x.first ≡ y.first) (x.second < y.second) (same_z x.first y.first) (less x.second y.second))

no_better : (p : PlainProblem) (met : Bool) (q best : List ℕ) → Either (IsNoBetterThan p met q best)
no_better p met q best =
    one_of (q ≡ best) (IsBelow (score_of p best) (score_of p q) ⊎ (IsSame (score_of p best) (score_of p q) × (met ≡ true))) (same_list q best)
    (one_of (IsBelow (score_of p best) (score_of p q)) (IsSame (score_of p best) (score_of p q) × (met ≡ true)) (below (score_of p best) (score_of p q))
    (both (IsSame (score_of p best) (score_of p q)) (met ≡ true)
    (both ((score_of p best).first ≡ (score_of p q).first) ((score_of p best).second ≡ (score_of p q).second) (same_z (score_of p best).first (score_of p q).first) (same (score_of p best).second (score_of p q).second))
    (so met)))

pub no_better_than_answer : (p : PlainProblem) (a : Option (List ℕ)) (met : Bool) (q : List ℕ) →
    Either (IsSomeAnd a (λ best. IsNoBetterThan p met q best))
no_better_than_answer p a met q = some a (λ best. IsNoBetterThan p met q best) (λ best. no_better p met q best)

-- ---- tokens

above : (met : Bool) (x y : ℤ) → Either (IsAbove met x y)
above met x y = one_of (y <ℤ x) ((y ≡ x) × (met ≡ true)) (less_z y x) (both (y ≡ x) (met ≡ true) (same_z y x) (so met))

closes : (p : PlainProblem) (a : Option (List ℕ)) (met : Bool) (q : List ℕ) (t : ℕ) (reason : Reason) →
    Either (Closes p a met q t reason)
closes p a met q t Short = less (value_of p q + later_value p t) p.lo
closes p a met q t Over = both (p.kind ≡ Changeless) (p.hi < value_of p q) (is_changeless p.kind) (less p.hi (value_of p q))
closes p a met q t Heavy = less p.most_weight (weight_of p q)
closes p a met q t NoRoom =
    three (value_of p q < p.lo) (t < length p.items) (p.most_weight < weight_of p q + least_weight p t) (less (value_of p q) p.lo) (less t (length p.items)) (less p.most_weight (weight_of p q + least_weight p t))
closes p a met q t Worse =
    three (p.kind ≡ Changeless) (NoNegative p) (IsSomeAnd a (λ best. IsAbove met (cost_of p q +ℤ pos (value_of p q - p.lo)) (score_of p best).first)) (is_changeless p.kind)
    (each (λ (x : Item). pos 0 ≤ℤ x.cost) (λ x. at_most_z (pos 0) x.cost) p.items)
    (some a (λ best. IsAbove met (cost_of p q +ℤ pos (value_of p q - p.lo)) (score_of p best).first) (λ best. above met (cost_of p q +ℤ pos (value_of p q - p.lo)) (score_of p best).first))
closes p a met q t Heavier =
    both (p.kind ≡ Lean) (IsSomeAnd a (λ best. weight_of p best < weight_of p q)) (is_lean p.kind) (some a (λ best. weight_of p best < weight_of p q) (λ best. less (weight_of p best) (weight_of p q)))
closes p a met q t Far =
    four (p.kind ≡ Lean) (value_of p q < p.lo) (t < length p.items) (IsSomeAnd a (λ best. weight_of p best < weight_of p q + needed (p.lo - value_of p q) (item_at p.items t).value * least_weight p t)) (is_lean p.kind) (less (value_of p q) p.lo)
    (less t (length p.items))
    (some a (λ best. weight_of p best < weight_of p q + needed (p.lo - value_of p q) (item_at p.items t).value * least_weight p t) (λ best. less (weight_of p best) (weight_of p q + needed (p.lo - value_of p q) (item_at p.items t).value * least_weight p t)))
closes p a met q t Hit =
    both (p.lo ≤ value_of p q) (IsAdmissible p q → IsSomeAnd a (λ best. IsNoBetterThan p met q best)) (at_most p.lo (value_of p q))
    (where_so (IsAdmissible p q) (IsSomeAnd a (λ best. IsNoBetterThan p met q best)) (admissible p q) (no_better_than_answer p a met q))

pub allowed : (p : PlainProblem) (a : Option (List ℕ)) (met : Bool) (q : List ℕ) (t : ℕ) (token : Token) →
    Either (IsAllowedAt p a met q t token)
allowed p a met q t Enter = less t (length p.items)
allowed p a met q t Pass =
    four (0 < t) (t < length p.items) (All (λ j. j ≢ t - 1) q) (is_twin p.kind (item_at p.items (t - 1)) (item_at p.items t) ≡ true) (less 0 t) (less t (length p.items))
    (each (λ j. j ≢ t - 1) (λ j. not_so (j ≡ t - 1) (same j (t - 1))) q) (so (is_twin p.kind (item_at p.items (t - 1)) (item_at p.items t)))
allowed p a met q t (Close reason) = closes p a met q t reason

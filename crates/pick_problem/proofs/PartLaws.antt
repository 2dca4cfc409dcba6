-- Each item of a selection is needed exactly where each part of it falls short.
use Rattle.std.specs.Prelude.{◌≡◌, ℕ, zero, suc, ◌+◌, ◌-◌, ◌<◌, ◌≤◌, ◌↔◌, List, [], ◌∷◌, length, All}
use Rattle.std.proofs.Common.{arith, refl, subst, get_or, inl, inr}
use Rattle.std.proofs.lemmas.List.Elements.{All-head, All-tail}
use Rattle.pick_problem.specs.declared.item.Kind.{Kind}
use Rattle.pick_problem.specs.declared.item.Kind.TheVariants.{Changeless}
use Rattle.pick_problem.specs.Pool.{item_at}
use Rattle.pick_problem.specs.Problem.{PlainProblem, value_of}
use Rattle.pick_problem.specs.Admissible.{Fits, IsAdmissible, IsPart, NeedsEach}

-- a part is no longer, and brings no more
part_less : (p : PlainProblem) (q r : List ℕ) → IsPart q r → (length q ≤ length r) × (value_of p q ≤ value_of p r)
part_less p [] r h = (omega arith, omega arith)
part_less p (x ∷ q) [] h = absurd h
part_less p (x ∷ q) (y ∷ r) h =
    let both = part_less p q r in
    let later = part_less p (x ∷ q) r in
    elim h [
      | inl k ↦
          let less : (length q ≤ length r) × (value_of p q ≤ value_of p r) = both k.1 in
          let same : (item_at p.items x).value ≡ (item_at p.items y).value = cc in
          (omega (arith, less.0), omega (arith, less.1, same))
      | inr k ↦
          let less : (length (x ∷ q) ≤ length r) × (value_of p (x ∷ q) ≤ value_of p r) = later k in
          (omega (arith, less.0), omega (arith, less.1))
    ]

-- some place is left out
part_lacks : (p : PlainProblem) (P : ℕ → Type 0) (q r : List ℕ) → All P r → IsPart q r → length q < length r → (j : ℕ) × P j × (value_of p q + (item_at p.items j).value ≤ value_of p r)
part_lacks p P q [] all h l = absurd (omega arith)
part_lacks p P [] (y ∷ r) all h l = (y, All-head P y r all, omega arith)
part_lacks p P (x ∷ q) (y ∷ r) all h l =
    let both = part_lacks p P q r (All-tail P y r all) in
    elim h [
      | inl k ↦
          let less : (j : ℕ) × P j × (value_of p q + (item_at p.items j).value ≤ value_of p r) = both k.1 (omega arith) in
          let same : (item_at p.items x).value ≡ (item_at p.items y).value = cc in
          (less.0, less.1, omega (arith, less.2, same))
      | inr k ↦
          let less : (length (x ∷ q) ≤ length r) × (value_of p (x ∷ q) ≤ value_of p r) = part_less p (x ∷ q) r k in
          (y, All-head P y r all, omega (arith, less.1))
    ]

needed_short : (p : PlainProblem) (q part : List ℕ) → NeedsEach p q → IsPart part q → length part < length q → value_of p part < p.lo
needed_short p q part needs h l =
    let lacks = part_lacks p (λ j. value_of p q - (item_at p.items j).value < p.lo) part q needs h l in
    omega (arith, lacks.1, lacks.2)

pub part_short : (p : PlainProblem) (q part : List ℕ) → p.kind ≡ Changeless → IsAdmissible p q → IsPart part q → length part < length q → value_of p part < p.lo
part_short p q part kind good h l =
    let fits : Fits Changeless p q = subst (λ (k : Kind). Fits k p q) kind good.fits in
    needed_short p q part fits.1 h l

-- ---- the list without the place at k

unfoldable pub without : List ℕ → ℕ → List ℕ
without [] k = []
without (x ∷ q) zero = q
without (x ∷ q) (suc k) = x ∷ without q k

pub part_itself : (q : List ℕ) → IsPart q q
part_itself [] = tt
part_itself (x ∷ q) = inl (refl, part_itself q)

part_behind : (x : ℕ) (q : List ℕ) → IsPart q (x ∷ q)
part_behind x [] = tt
part_behind x (y ∷ q) = inr (part_itself (y ∷ q))

pub without_part : (q : List ℕ) (k : ℕ) → IsPart (without q k) q
unfolding without
without_part [] k = tt
without_part (x ∷ q) zero = part_behind x q
without_part (x ∷ q) (suc k) = inl (refl, without_part q k)

pub without_short : (q : List ℕ) (k : ℕ) → k < length q → length (without q k) < length q
unfolding without
without_short [] k below = absurd (omega (arith, below))
without_short (x ∷ q) zero below = omega arith
without_short (x ∷ q) (suc k) below = omega (arith, without_short q k (omega (arith, below)))

pub without_value : (p : PlainProblem) (q : List ℕ) (k d : ℕ) → k < length q → value_of p q ≡ value_of p (without q k) + (item_at p.items (get_or q k d)).value
unfolding without
without_value p [] k d below = absurd (omega (arith, below))
without_value p (x ∷ q) zero d below = omega arith
without_value p (x ∷ q) (suc k) d below = omega (arith, without_value p q k d (omega (arith, below)))

short_needed : (p : PlainProblem) (q : List ℕ) → ((part : List ℕ) → IsPart part q → length part < length q → value_of p part < p.lo) → NeedsEach p q
short_needed p q short k d below =
    let low : value_of p (without q k) < p.lo = short (without q k) (without_part q k) (without_short q k below) in
    omega (arith, low, without_value p q k d below)

pub needed_where_short : (p : PlainProblem) (q : List ℕ) → (NeedsEach p q ↔ ((part : List ℕ) → IsPart part q → length part < length q → value_of p part < p.lo))
needed_where_short p q = (λ needs part h l. needed_short p q part needs h l, λ short. short_needed p q short)

-- A selection without change from lo to hi has a part that is admissible.
use Rattle.std.specs.Prelude.{◌≡◌, ℕ, zero, suc, ◌+◌, ◌-◌, ◌<◌, ◌≤◌, ◌⊎◌, List, [], ◌∷◌, length, get_or, All}
use Rattle.std.proofs.Common.{arith, sym, subst, inl, inr}
use Rattle.std.proofs.lemmas.Bool.{cases_lt}
use Rattle.std.proofs.lemmas.List.Elements.{All-cons, All-nil}
use Rattle.pick_problem.specs.declared.item.Kind.{Kind}
use Rattle.pick_problem.specs.declared.item.Kind.TheVariants.{Changeless}
use Rattle.pick_problem.specs.Pool.{item_at}
use Rattle.pick_problem.specs.Problem.{PlainProblem, IsProblem, Rising, value_of, weight_of}
use Rattle.pick_problem.specs.Admissible.{Fits, IsAdmissible, IsPart, NeedsEach}
use Rattle.pick_problem.proofs.RisingLaws.{Rising-earlier}
use Rattle.pick_problem.proofs.PartLaws.{without, without_part, without_short, without_value, part_itself}

pub part_transitive : (a b c : List ℕ) → IsPart a b → IsPart b c → IsPart a c
part_transitive [] b c h k = tt
part_transitive (x ∷ a) [] c h k = absurd h
part_transitive (x ∷ a) (y ∷ b) [] h k = absurd k
part_transitive (x ∷ a) (y ∷ b) (z ∷ c) h k =
    let deeper = part_transitive (x ∷ a) (y ∷ b) c h in
    let both = part_transitive a b c in
    let later = part_transitive (x ∷ a) b c in
    elim k [
      | inl m ↦
          elim h [
            | inl n ↦ let same : x ≡ z = cc in inl (same, both n.1 m.1)
            | inr n ↦ inr (later n m.1)
          ]
      | inr m ↦ inr (deeper m)
    ]

-- a part weighs no more
part_lighter : (p : PlainProblem) (q r : List ℕ) → IsPart q r → weight_of p q ≤ weight_of p r
part_lighter p [] r h = omega arith
part_lighter p (x ∷ q) [] h = absurd h
part_lighter p (x ∷ q) (y ∷ r) h =
    let both = part_lighter p q r in
    let later = part_lighter p (x ∷ q) r in
    elim h [
      | inl k ↦ let same : (item_at p.items x).weight ≡ (item_at p.items y).weight = cc in omega (arith, both k.1, same)
      | inr k ↦ omega (arith, later k)
    ]

without_rises : (n t : ℕ) (q : List ℕ) (k : ℕ) → Rising n t q → Rising n t (without q k)
unfolding without
without_rises n t [] k h = tt
without_rises n t (x ∷ q) zero h = Rising-earlier n t (x + 1) q (omega (arith, h.0)) h.2
without_rises n t (x ∷ q) (suc k) h = (h.0, h.1, without_rises n (x + 1) q k h.2)

-- each place is needed, or some one isn't
needed_or : (p : PlainProblem) (total : ℕ) (q : List ℕ) →
    All (λ j. total - (item_at p.items j).value < p.lo) q ⊎ ((k : ℕ) × (k < length q) × (p.lo ≤ total - (item_at p.items (get_or q k 0)).value))
needed_or p total [] = inl (All-nil (λ j. total - (item_at p.items j).value < p.lo))
needed_or p total (x ∷ q) =
    let rest = needed_or p total q in
    elim (cases_lt (total - (item_at p.items x).value) p.lo) [
      | inl low ↦
          elim rest [
            | inl all ↦ inl (All-cons (λ j. total - (item_at p.items j).value < p.lo) x q low all)
            | inr some ↦ inr (suc some.0, omega (arith, some.1), some.2)
          ]
      | inr high ↦ inr (0, omega arith, high)
    ]

module _ (p : PlainProblem) (is : IsProblem p) (kind : p.kind ≡ Changeless) where
  some_place : (q : List ℕ) → p.lo ≤ value_of p q → 0 < length q
  some_place [] reaches = absurd (omega (arith, is.some, reaches))
  some_place (j ∷ q) reaches = omega arith

  itself : (q : List ℕ) → Rising (length p.items) 0 q → p.lo ≤ value_of p q → value_of p q ≤ p.hi →
      weight_of p q ≤ p.most_weight → NeedsEach p q → IsAdmissible p q
  itself q rising reaches below light needs = record {
    some = some_place q reaches;
    rising = rising;
    reaches = reaches;
    light = light;
    fits = let fits : Fits Changeless p q = (below, needs) in subst (λ (k : Kind). Fits k p q) (sym kind) fits;
  }

  by_length : (fuel : ℕ) (q : List ℕ) → length q ≤ fuel → Rising (length p.items) 0 q → p.lo ≤ value_of p q →
      value_of p q ≤ p.hi → weight_of p q ≤ p.most_weight → (part : List ℕ) × IsPart part q × IsAdmissible p part
  by_length zero q short rising reaches below light = absurd (omega (arith, short, some_place q reaches))
  by_length (suc fuel) q short rising reaches below light =
      let less = by_length fuel in
      elim (needed_or p (value_of p q) q) [
        | inl needs ↦ (q, part_itself q, itself q rising reaches below light needs)
        | inr some ↦
            let value : value_of p q ≡ value_of p (without q some.0) + (item_at p.items (get_or q some.0 0)).value = without_value p q some.0 0 some.1 in
            let found =
            less (without q some.0) (omega (arith, short, without_short q some.0 some.1)) (without_rises (length p.items) 0 q some.0 rising)
            (omega (arith, value, some.2)) (omega (arith, value, below)) (omega (arith, light, part_lighter p (without q some.0) q (without_part q some.0))) in
            (found.0, part_transitive found.0 (without q some.0) q found.1 (without_part q some.0), found.2)
      ]

  pub window_part : (q : List ℕ) → Rising (length p.items) 0 q → p.lo ≤ value_of p q → value_of p q ≤ p.hi →
      weight_of p q ≤ p.most_weight → (part : List ℕ) × IsPart part q × IsAdmissible p part
  window_part q = by_length (length q) q (omega arith)

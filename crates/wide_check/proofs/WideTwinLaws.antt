-- A list with a place of a run of twins that was passed is no better than the one with the twin that was left out in its
-- place.
use Rattle.std.specs.Prelude.{◌≡◌, ℕ, ◌+◌, ◌-◌, ◌<◌, ◌⊎◌, ◌==◌, ◌&&◌, Bool, true, false, List, [], ◌∷◌, ◌++◌, length, get_or, drop, Option, Some, None}
use Rattle.std.specs.List.{prefix_len}
use Rattle.std.specs.Ordering.{int_eq}
use Rattle.std.proofs.Common.{arith, ap, subst, inl, inr, ◌∙◌}
use Rattle.std.proofs.lemmas.Bool.{and_parts}
use Rattle.std.proofs.lemmas.Bool.Decides.{Decides-int_eq}
use Rattle.std.proofs.lemmas.Int.{ints}
use Rattle.std.proofs.lemmas.List.{get_or-drop}
use Rattle.std.proofs.lemmas.List.Sums.{prefix_len_passes}
use Rattle.pick_problem.specs.declared.item.Item.{Item}
use Rattle.pick_problem.specs.declared.item.Kind.{Kind}
use Rattle.pick_problem.specs.declared.item.Kind.TheVariants.{Changeless}
use Rattle.pick_problem.specs.Later.{is_twin, behind_twins}
use Rattle.pick_problem.specs.Pool.{no_item, item_at}
use Rattle.pick_problem.specs.Problem.{PlainProblem, Rising, value_of, weight_of, cost_of}
use Rattle.pick_problem.proofs.Deciding.{eq_yes}
use Rattle.pick_problem.proofs.OpenLaws.{Passed}
use Rattle.pick_problem.proofs.RisingLaws.{Rising-short, Rising-join, Rising-earlier}
use Rattle.pick_problem.proofs.SumLaws.{value-append, weight-append, cost-append}
use Rattle.wide_check.specs.declared.token.WideToken.TheVariants.{Pass}
use Rattle.wide_check.specs.Wide.{IsWide, waste_of}
use Rattle.wide_check.specs.WideSoFar.{ComesAfter, IsBeaten, IsOpen}
use Rattle.wide_check.specs.WideSteps.{StandsAt}
use Rattle.wide_check.proofs.WideOpenLaws.{opens_not}

twin_parts : (x y : Item) → is_twin Changeless x y ≡ true → (x.value ≡ y.value) × (x.weight ≡ y.weight) × (x.cost ≡ y.cost)
twin_parts x y e =
    let numbers = and_parts (x.value == y.value) ((x.weight == y.weight) && int_eq x.cost y.cost) e in
    let others = and_parts (x.weight == y.weight) (int_eq x.cost y.cost) numbers.1 in
    (eq_yes x.value y.value numbers.0, eq_yes x.weight y.weight others.0, (Decides-int_eq x.cost y.cost).0 others.1)

-- what beats a list beats one that wastes as much and is met after the answer
beaten_alike : (p : PlainProblem) (a : Option (List ℕ)) (met : Bool) (q r : List ℕ) → waste_of p r ≡ waste_of p q → (met ≡ true → ComesAfter a q) → IsBeaten p a met r → IsBeaten p a met q
beaten_alike p None met q r same later h = h
beaten_alike p (Some best) met q r same later h =
    elim h [
      | inl l ↦ inl (omega (arith, ints, l, same))
      | inr s ↦ inr (s.0, s.1 ∙ same, inr (later s.0))
    ]

module _ (p : PlainProblem) (kind : p.kind ≡ Changeless) (a : Option (List ℕ)) (met : Bool) (chosen : List ℕ) (t : ℕ) (allowed : StandsAt p a met chosen t Pass) (rises : Rising t 0 chosen) (q : List ℕ) (y : Passed (length p.items) chosen t (behind_twins p t) q) (good : IsWide p q) where
  -- the list with the twin that was left out
  abbrev swapped : List ℕ
  swapped = chosen ++ (t - 1) ∷ y.more

  twin : is_twin p.kind (item_at p.items (t - 1)) (item_at p.items y.first) ≡ true
  twin =
      let e : t + (y.first - t) ≡ y.first = omega (arith, y.least) in
      let below : y.first - t < prefix_len (is_twin p.kind (item_at p.items (t - 1))) (drop t p.items) = omega (arith, y.least, y.below) in
      let at : get_or (drop t p.items) (y.first - t) no_item ≡ item_at p.items y.first = get_or-drop t p.items (y.first - t) no_item ∙ ap (λ (k : ℕ). get_or p.items k no_item) e in
      subst (λ (z : Item). is_twin p.kind (item_at p.items (t - 1)) z ≡ true) at (prefix_len_passes (is_twin p.kind (item_at p.items (t - 1))) (drop t p.items) (y.first - t) no_item below)

  same : ((item_at p.items (t - 1)).value ≡ (item_at p.items y.first).value) × ((item_at p.items (t - 1)).weight ≡ (item_at p.items y.first).weight) × ((item_at p.items (t - 1)).cost ≡ (item_at p.items y.first).cost)
  same = twin_parts (item_at p.items (t - 1)) (item_at p.items y.first) (subst (λ (z : Kind). is_twin z (item_at p.items (t - 1)) (item_at p.items y.first) ≡ true) kind twin)

  value_is : value_of p swapped ≡ value_of p q
  value_is =
      let whole : value_of p q ≡ value_of p (chosen ++ y.first ∷ y.more) = ap (value_of p) y.is in
      omega (arith, whole, value-append p chosen (y.first ∷ y.more), value-append p chosen ((t - 1) ∷ y.more), same.0)

  weight_is : weight_of p swapped ≡ weight_of p q
  weight_is =
      let whole : weight_of p q ≡ weight_of p (chosen ++ y.first ∷ y.more) = ap (weight_of p) y.is in
      omega (arith, whole, weight-append p chosen (y.first ∷ y.more), weight-append p chosen ((t - 1) ∷ y.more), same.1)

  cost_is : cost_of p swapped ≡ cost_of p q
  cost_is =
      let whole : cost_of p q ≡ cost_of p (chosen ++ y.first ∷ y.more) = ap (cost_of p) y.is in
      omega (arith, ints, whole, cost-append p chosen (y.first ∷ y.more), cost-append p chosen ((t - 1) ∷ y.more), same.2)

  waste_is : waste_of p swapped ≡ waste_of p q
  waste_is = omega (arith, ints, cost_is, value_is)

  swapped_wide : IsWide p swapped
  swapped_wide =
      let below : Rising (t - 1) 0 chosen = Rising-short t 0 chosen allowed.0 allowed.2 rises in
      let later : Rising (length p.items) (t - 1) ((t - 1) ∷ y.more) = (omega arith, omega (arith, allowed.1), Rising-earlier (length p.items) (t - 1 + 1) (y.first + 1) y.more (omega (arith, y.least)) y.rising) in
      record {
        some = some_place chosen;
        rising = Rising-join (length p.items) 0 (t - 1) chosen ((t - 1) ∷ y.more) (omega (arith, allowed.1)) (omega arith) below later;
        reaches = omega (arith, good.reaches, value_is);
        under = omega (arith, good.under, value_is);
        light = omega (arith, good.light, weight_is);
      }
    where
      some_place : (xs : List ℕ) → 0 < length (xs ++ (t - 1) ∷ y.more)
      some_place [] = omega arith
      some_place (x ∷ xs) = omega arith

  pub passed_beaten : ((r : List ℕ) → IsWide p r → IsOpen (length p.items) false chosen t r ⊎ IsBeaten p a met r) → (met ≡ true → ComesAfter a q) → IsBeaten p a met q
  passed_beaten each later =
      elim (each swapped swapped_wide) [
        | inl o ↦ absurd (opens_not (length p.items) false chosen t (t - 1) y.more (omega (arith, allowed.0)) o)
        | inr b ↦ beaten_alike p a met q swapped waste_is later b
      ]

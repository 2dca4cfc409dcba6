-- A selection with a place of a run of twins that was passed is no better than the one with the twin that was left
-- out in its place.
use Rattle.std.specs.Prelude.{◌≡◌, ℕ, ◌+◌, ◌-◌, ◌<◌, ◌≤◌, ◌⊎◌, ◌==◌, ◌&&◌, Bool, true, List, [], ◌∷◌, ◌++◌, length, get_or, drop, All, Option, Some, None}
use Rattle.std.specs.List.{prefix_len}
use Rattle.std.specs.Ordering.{int_eq}
use Rattle.std.proofs.Common.{arith, refl, ap, subst, inl, inr, ◌∙◌}
use Rattle.std.proofs.lemmas.Bool.{cases_lt, and_parts}
use Rattle.std.proofs.lemmas.Bool.Decides.{Decides-int_eq}
use Rattle.std.proofs.lemmas.Int.{ints}
use Rattle.std.proofs.lemmas.List.{get_or-drop}
use Rattle.std.proofs.lemmas.List.Elements.{All-append, All-cons, All-head, All-tail, All-weaker}
use Rattle.std.proofs.lemmas.List.Sums.{prefix_len_passes}
use Rattle.pick_problem.specs.declared.item.Item.{Item}
use Rattle.pick_problem.specs.declared.item.Kind.{Kind}
use Rattle.pick_problem.specs.declared.item.Kind.TheVariants.{Changeless, Lean}
use Rattle.pick_problem.specs.declared.score.Score.{Score}
use Rattle.pick_problem.specs.declared.token.Token.TheVariants.{Pass}
use Rattle.pick_problem.specs.Pool.{no_item, item_at}
use Rattle.pick_problem.specs.Problem.{PlainProblem, IsProblem, Rising, value_of, weight_of, cost_of}
use Rattle.pick_problem.specs.Admissible.{Fits, NeedsEach, IsAdmissible}
use Rattle.pick_problem.specs.Score.{IsBelow, IsSame, score_by}
use Rattle.pick_problem.specs.Later.{is_twin, behind_twins}
use Rattle.pick_problem.specs.Steps.{IsAllowedAt}
use Rattle.pick_problem.specs.SoFar.{ComesAfter, IsBeaten, IsOpen}
use Rattle.pick_problem.proofs.Deciding.{eq_yes}
use Rattle.pick_problem.proofs.BestLaws.{below_transitive, below_same, same_below, same_transitive}
use Rattle.pick_problem.proofs.SumLaws.{value-append, weight-append, cost-append}
use Rattle.pick_problem.proofs.RisingLaws.{All-back, All-front, IsLighter, lighter_first, Rising-short, Rising-join, Rising-earlier}
use Rattle.pick_problem.proofs.OpenLaws.{Passed, opens_not}

twin_value : (k : Kind) (x y : Item) → is_twin k x y ≡ true → x.value ≡ y.value
twin_value Changeless x y e = eq_yes x.value y.value (and_parts (x.value == y.value) ((x.weight == y.weight) && int_eq x.cost y.cost) e).0
twin_value Lean x y e = eq_yes x.value y.value e

twin_cost : (x y : Item) → is_twin Changeless x y ≡ true → x.cost ≡ y.cost
twin_cost x y e =
    let numbers = and_parts (x.value == y.value) ((x.weight == y.weight) && int_eq x.cost y.cost) e in
    (Decides-int_eq x.cost y.cost).0 (and_parts (x.weight == y.weight) (int_eq x.cost y.cost) numbers.1).1

-- a score is no greater than another
abbrev pub IsAtMost : Score → Score → Type 0
IsAtMost x y = IsBelow x y ⊎ IsSame x y

pub below_at_most : (b x y : Score) → IsBelow b x → IsAtMost x y → IsBelow b y
below_at_most b x y h k = elim k [ inl l ↦ below_transitive b x y h l | inr s ↦ below_same b x y h s ]

pub same_at_most : (b x y : Score) → IsSame b x → IsAtMost x y → IsAtMost b y
same_at_most b x y h k = elim k [ inl l ↦ inl (same_below b x y h l) | inr s ↦ inr (same_transitive b x y h s) ]

-- what beats a selection beats one with no less a score that comes after the answer
pub beaten_at_most : (k : Kind) (p : PlainProblem) (a : Option (List ℕ)) (met : Bool) (q r : List ℕ) → IsAtMost (score_by k p r) (score_by k p q) → (met ≡ true → ComesAfter a q) → IsBeaten k p a met r → IsBeaten k p a met q
beaten_at_most k p None met q r most after h = h
beaten_at_most k p (Some best) met q r most after h =
    elim h [
      | inl l ↦ inl (below_at_most (score_by k p best) (score_by k p r) (score_by k p q) l most)
      | inr s ↦
          elim (same_at_most (score_by k p best) (score_by k p r) (score_by k p q) s.1 most) [
            | inl l ↦ inl l
            | inr e ↦ inr (s.0, e, inr (after s.0))
          ]
    ]

at_most_by : (x y : Score) → (x.first ≡ y.first) → (x.second ≡ y.second) → IsAtMost x y
at_most_by x y e f = inr (e, f)

module _ (p : PlainProblem) (is : IsProblem p) (a : Option (List ℕ)) (met : Bool) (chosen : List ℕ) (t : ℕ) (allowed : IsAllowedAt p a met chosen t Pass) (rises : Rising t 0 chosen) (q : List ℕ) (y : Passed (length p.items) chosen t (behind_twins p t) q) (good : IsAdmissible p q) where
  -- the selection with the twin that was left out
  abbrev swapped : List ℕ
  swapped = chosen ++ (t - 1) ∷ y.more

  twin : is_twin p.kind (item_at p.items (t - 1)) (item_at p.items y.first) ≡ true
  twin =
      let e : t + (y.first - t) ≡ y.first = omega (arith, y.least) in
      let below : y.first - t < prefix_len (is_twin p.kind (item_at p.items (t - 1))) (drop t p.items) = omega (arith, y.least, y.below) in
      let at : get_or (drop t p.items) (y.first - t) no_item ≡ item_at p.items y.first = get_or-drop t p.items (y.first - t) no_item ∙ ap (λ (k : ℕ). get_or p.items k no_item) e in
      subst (λ (z : Item). is_twin p.kind (item_at p.items (t - 1)) z ≡ true) at (prefix_len_passes (is_twin p.kind (item_at p.items (t - 1))) (drop t p.items) (y.first - t) no_item below)

  same_value : (item_at p.items (t - 1)).value ≡ (item_at p.items y.first).value
  same_value = twin_value p.kind (item_at p.items (t - 1)) (item_at p.items y.first) twin

  no_heavier : (item_at p.items (t - 1)).weight ≤ (item_at p.items y.first).weight
  no_heavier =
      let first : IsLighter (item_at p.items (t - 1)) (item_at p.items y.first) = lighter_first p is (t - 1) y.first (omega (arith, y.least)) y.within in
      elim first [ inl l ↦ absurd (omega (arith, l, same_value)) | inr e ↦ e.1 ]

  value_is : value_of p swapped ≡ value_of p q
  value_is =
      let whole : value_of p q ≡ value_of p (chosen ++ y.first ∷ y.more) = ap (value_of p) y.is in
      omega (arith, whole, value-append p chosen (y.first ∷ y.more), value-append p chosen ((t - 1) ∷ y.more), same_value)

  weight_le : weight_of p swapped ≤ weight_of p q
  weight_le =
      let whole : weight_of p q ≡ weight_of p (chosen ++ y.first ∷ y.more) = ap (weight_of p) y.is in
      omega (arith, whole, weight-append p chosen (y.first ∷ y.more), weight-append p chosen ((t - 1) ∷ y.more), no_heavier)

  cost_is : p.kind ≡ Changeless → cost_of p swapped ≡ cost_of p q
  cost_is kind =
      let whole : cost_of p q ≡ cost_of p (chosen ++ y.first ∷ y.more) = ap (cost_of p) y.is in
      let same : (item_at p.items (t - 1)).cost ≡ (item_at p.items y.first).cost = twin_cost (item_at p.items (t - 1)) (item_at p.items y.first) (subst (λ (z : Kind). is_twin z (item_at p.items (t - 1)) (item_at p.items y.first) ≡ true) kind twin) in
      omega (arith, ints, whole, cost-append p chosen (y.first ∷ y.more), cost-append p chosen ((t - 1) ∷ y.more), same)

  at_most : (k : Kind) → p.kind ≡ k → IsAtMost (score_by k p swapped) (score_by k p q)
  at_most Changeless kind = inr (omega (arith, ints, cost_is kind, value_is), refl)
  at_most Lean kind =
      elim (cases_lt (weight_of p swapped) (weight_of p q)) [
        | inl l ↦ inl (inl (omega (arith, ints, l)))
        | inr g ↦ let e : weight_of p swapped ≡ weight_of p q = omega (arith, g, weight_le) in inr (omega (arith, ints, e), value_is)
      ]

  needs_each : NeedsEach p q → NeedsEach p swapped
  needs_each h =
      let N = λ (j : ℕ). value_of p q - (item_at p.items j).value < p.lo in
      let all : All N (chosen ++ y.first ∷ y.more) = subst (λ (r : List ℕ). All N r) y.is h in
      let first : N y.first = All-head N y.first y.more (All-back N chosen (y.first ∷ y.more) all) in
      let here : N (t - 1) = omega (arith, first, same_value) in
      let swapped_all : All N swapped = All-append N chosen ((t - 1) ∷ y.more) (All-front N chosen (y.first ∷ y.more) all) (All-cons N (t - 1) y.more here (All-tail N y.first y.more (All-back N chosen (y.first ∷ y.more) all))) in
      All-weaker N (λ (j : ℕ). value_of p swapped - (item_at p.items j).value < p.lo) (λ j n. omega (arith, n, value_is)) swapped swapped_all

  fits : (k : Kind) → Fits k p q → Fits k p swapped
  fits Changeless h = (omega (arith, h.0, value_is), needs_each h.1)
  fits Lean h = tt

  swapped_admissible : IsAdmissible p swapped
  swapped_admissible =
      let below : Rising (t - 1) 0 chosen = Rising-short t 0 chosen allowed.0 allowed.2 rises in
      let later : Rising (length p.items) (t - 1) ((t - 1) ∷ y.more) = (omega arith, omega (arith, allowed.1), Rising-earlier (length p.items) (t - 1 + 1) (y.first + 1) y.more (omega (arith, y.least)) y.rising) in
      record {
        some = some_place chosen;
        rising = Rising-join (length p.items) 0 (t - 1) chosen ((t - 1) ∷ y.more) (omega (arith, allowed.1)) (omega arith) below later;
        reaches = omega (arith, good.reaches, value_is);
        light = omega (arith, good.light, weight_le);
        fits = fits p.kind good.fits;
      }
    where
      some_place : (xs : List ℕ) → 0 < length (xs ++ (t - 1) ∷ y.more)
      some_place [] = omega arith
      some_place (x ∷ xs) = omega arith

  pub passed_beaten : ((r : List ℕ) → IsAdmissible p r → IsOpen (length p.items) chosen t r ⊎ IsBeaten p.kind p a met r) → (met ≡ true → ComesAfter a q) → IsBeaten p.kind p a met q
  passed_beaten each after =
      elim (each swapped swapped_admissible) [
        | inl o ↦ absurd (opens_not (length p.items) chosen t (t - 1) y.more (omega (arith, allowed.0)) o)
        | inr b ↦ beaten_at_most p.kind p a met q swapped (at_most p.kind refl) after b
      ]

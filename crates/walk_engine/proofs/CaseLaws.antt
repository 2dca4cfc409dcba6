-- Each rule's test, from running sums to the sums of the definition.
use Rattle.std.specs.Prelude.{◌≡◌, ℕ, ◌+◌, ◌-◌, ◌*◌, ◌/◌, ◌<◌, ◌≤◌, ◌&&◌, Bool, true, false, List, length, ℤ, pos}
use Rattle.std.specs.Prelude.{◌+ℤ◌, int_le, nat_lt, nat_le, Option, Some, None}
use Rattle.std.proofs.Common.{arith, refl, sym, ap, inl, inr, ◌∙◌}
use Rattle.std.proofs.lemmas.Bool.{cases_lt}
use Rattle.std.proofs.lemmas.Int.{ints}
use Rattle.pick_problem.specs.declared.item.Kind.{Kind}
use Rattle.pick_problem.specs.declared.item.Kind.TheVariants.{Changeless, Lean}
use Rattle.pick_problem.specs.Pool.{IsItem, item_at}
use Rattle.pick_problem.specs.Problem.{PlainProblem, IsProblem, value_of, weight_of, cost_of}
use Rattle.pick_problem.specs.Score.{score_by}
use Rattle.pick_problem.specs.Later.{later_value, least_weight}
use Rattle.pick_problem.specs.Steps.{needed}
use Rattle.pick_problem.specs.Walk.{no_negative, is_worse, is_far}
use Rattle.pick_problem.proofs.Deciding.{by_test, if_true, if_false, lt_yes, lt_no, le_yes, le_no}
use Rattle.pick_problem.proofs.SumLaws.{item_is}
use Rattle.pick_problem.proofs.RisingLaws.{later_value-step}
use Rattle.pick_problem.proofs.FollowLaws.{later_gone}
use Rattle.walk_engine.specs.declared.best.Best.{Best}
use Rattle.walk_engine.specs.declared.stack.Stack.{Stack}
use Rattle.walk_engine.specs.Best.{IsBestSoFar, plain_best}
use Rattle.walk_engine.specs.Stack.{IsStack, with_place}
use Rattle.walk_engine.proofs.StackLaws.{value_push, weight_push, cost_push}

pub same_lt : (a b c d : ℕ) → (a < b → c < d) → (c < d → a < b) → nat_lt a b ≡ nat_lt c d
same_lt a b c d f g =
    by_test (nat_lt a b ≡ nat_lt c d) (nat_lt a b)
    (λ y. by_test (nat_lt a b ≡ nat_lt c d) (nat_lt c d) (λ z. y
    ∙ sym z) (λ z. absurd (omega (arith, f (lt_yes a b y), lt_no c d z))))
    (λ y. by_test (nat_lt a b ≡ nat_lt c d) (nat_lt c d) (λ z. absurd (omega (
      arith,
      g
          (lt_yes c d z),
      lt_no a b y,
    ))) (λ z. y ∙ sym z))

pub same_le : (a b c d : ℕ) → (a ≤ b → c ≤ d) → (c ≤ d → a ≤ b) → nat_le a b ≡ nat_le c d
same_le a b c d f g =
    by_test (nat_le a b ≡ nat_le c d) (nat_le a b)
    (λ y. by_test (nat_le a b ≡ nat_le c d) (nat_le c d) (λ z. y
    ∙ sym z) (λ z. absurd (omega (arith, f (le_yes a b y), le_no c d z))))
    (λ y. by_test (nat_le a b ≡ nat_le c d) (nat_le c d) (λ z. absurd (omega (
      arith,
      g
          (le_yes c d z),
      le_no a b y,
    ))) (λ z. y ∙ sym z))

module _ (p : PlainProblem) (s : Stack) (t : ℕ) (is : IsStack p t s) where
  pub value_with : value_of p (with_place s t) + s.gap ≡ p.lo + (item_at p.items t).value
  value_with = omega (arith, value_push p s.places.items t, is.gap)

  pub weight_with : weight_of p (with_place s t) ≡ s.weight + (item_at p.items t).weight
  weight_with = omega (arith, weight_push p s.places.items t, is.weight)

  pub cost_with : cost_of p (with_place s t) ≡ s.cost +ℤ (item_at p.items t).cost
  cost_with = omega (arith, ints, cost_push p s.places.items t, is.cost)

  pub short_test : t < length p.items → nat_lt (later_value p t) s.gap ≡ nat_lt (value_of p
      (with_place s t) + later_value p (t + 1)) p.lo
  short_test below =
      let v : value_of p (with_place s t) + s.gap ≡ p.lo + (item_at p.items t).value = value_with in
      let step : later_value p t ≡ (item_at p.items t).value + later_value p (t + 1) = later_value-step p t below in
      same_lt (later_value p t) s.gap (value_of p (with_place s t) + later_value p (t + 1)) p.lo (λ l. omega
      (arith, v, step, l)) (λ l. omega (arith, v, step, l))

  pub above_test : (width : ℕ) → p.lo + width ≡ p.hi → nat_lt (s.gap + width)
      (item_at p.items t).value ≡ nat_lt p.hi (value_of p (with_place s t))
  above_test width e =
      let v : value_of p (with_place s t) + s.gap ≡ p.lo + (item_at p.items t).value = value_with in
      same_lt (s.gap + width) (item_at p.items t).value p.hi (value_of p (with_place s t)) (λ l. omega
      (arith, v, e, l)) (λ l. omega (arith, v, e, l))

  pub hit_test : nat_le s.gap (item_at p.items t).value ≡ nat_le p.lo (value_of p (with_place s t))
  hit_test =
      let v : value_of p (with_place s t) + s.gap ≡ p.lo + (item_at p.items t).value = value_with in
      same_le s.gap (item_at p.items t).value p.lo (value_of p (with_place s t)) (λ l. omega (arith, v, l))
      (λ l. omega (arith, v, l))

  -- what the value is above lo, and what it lacks of it
  pub excess_is : value_of p (with_place s t) - p.lo ≡ (item_at p.items t).value - s.gap
  excess_is = omega (arith, value_with)

  pub lack_is : p.lo - value_of p (with_place s t) ≡ s.gap - (item_at p.items t).value
  lack_is = omega (arith, value_with)

  pub waste_with : cost_of p (with_place s t) +ℤ pos (value_of p (with_place s t) - p.lo) ≡ (s.cost +ℤ
      (item_at p.items t).cost) +ℤ pos ((item_at p.items t).value - s.gap)
  waste_with = omega (arith, ints, cost_with, excess_is)

  -- how many items of at most the value of t it takes, where it doesn't reach lo
  pub needed_by_gap : 0 < (item_at p.items t).value → (item_at p.items t).value < s.gap →
      needed (p.lo - value_of p (with_place s t)) (item_at p.items t).value ≡ (s.gap - 1) / (item_at p.items t).value
  needed_by_gap some low =
      let v : ℕ = (item_at p.items t).value in
      let lack : p.lo - value_of p (with_place s t) ≡ s.gap - v = lack_is in
      let e : (p.lo - value_of p (with_place s t)) + (v - 1) ≡ s.gap - 1 = omega (arith, lack, some, low) in
      ap (λ (n : ℕ). n / v) e

  -- where it isn't short, the gap is within what is left
  pub not_short : t < length p.items → nat_lt (value_of p (with_place s t) + later_value p (t + 1)) p.lo ≡ false →
      s.gap ≤ later_value p t
  not_short below e = lt_no (later_value p t) s.gap (short_test below ∙ e)

-- ---- rules that look at the best

found_is : (b : Best) → b.found ≡ true → plain_best b ≡ Some b.places.items
found_is b e = if_true b.found (Some b.places.items) None e

none_is : (b : Best) → b.found ≡ false → plain_best b ≡ None
none_is b e = if_false b.found (Some b.places.items) None e

pub worse_never : (k : Kind) (p : PlainProblem) (b : Best) (q : List ℕ) → b.found ≡ false →
    is_worse k p (plain_best b) q ≡ false
worse_never k p b q e = ap (λ (o : Option (List ℕ)). is_worse k p o q) (none_is b e)

worse_with : (k : Kind) (p : PlainProblem) (b : Best) (q : List ℕ) → b.found ≡ true →
    is_worse k p (plain_best b) q ≡ is_worse k p (Some b.places.items) q
worse_with k p b q e = ap (λ (o : Option (List ℕ)). is_worse k p o q) (found_is b e)

pub worse_not_plain : (p : PlainProblem) (b : Best) (q : List ℕ) → b.found ≡ true → p.kind ≡ Changeless →
    no_negative p ≡ false → is_worse p.kind p (plain_best b) q ≡ false
worse_not_plain p b q e kind plain =
    ap (λ (k : Kind). is_worse k p (plain_best b) q) kind
    ∙ (worse_with Changeless p b q e
    ∙ ap (λ (n : Bool). n && int_le (score_by Changeless p b.places.items).first (cost_of p q +ℤ pos
    (value_of p q - p.lo))) plain)

pub worse_changeless : (p : PlainProblem) (b : Best) (q : List ℕ) (waste : ℤ) → IsBestSoFar p b → b.found ≡ true →
    p.kind ≡ Changeless → no_negative p ≡ true → waste ≡ cost_of p q +ℤ pos (value_of p q - p.lo) →
    int_le b.sums.waste waste ≡ is_worse p.kind p (plain_best b) q
worse_changeless p b q waste is e kind plain same =
    let there : is_worse p.kind p (plain_best b) q ≡ int_le (score_by Changeless p b.places.items).first
    (cost_of p q +ℤ pos (value_of p q - p.lo)) =
    ap (λ (k : Kind). is_worse k p (plain_best b) q) kind
    ∙ (worse_with Changeless p b q e
    ∙ ap (λ (n : Bool). n && int_le (score_by Changeless p b.places.items).first (cost_of p q +ℤ pos
    (value_of p q - p.lo))) plain) in
    ap (λ (z : ℤ). int_le z waste) (is.sums e).waste ∙ (ap (λ (z : ℤ). int_le
    (score_by Changeless p b.places.items).first z) same ∙ sym there)

pub worse_lean : (p : PlainProblem) (b : Best) (q : List ℕ) (weight : ℕ) → IsBestSoFar p b → b.found ≡ true →
    p.kind ≡ Lean → weight ≡ weight_of p q → nat_lt b.sums.weight weight ≡ is_worse p.kind p (plain_best b) q
worse_lean p b q weight is e kind same =
    let there : is_worse p.kind p (plain_best b) q ≡ nat_lt (weight_of p b.places.items) (weight_of p q) =
    ap (λ (k : Kind). is_worse k p (plain_best b) q) kind ∙ worse_with Lean p b q e in
    ap (λ (n : ℕ). nat_lt n weight) (is.sums e).weight ∙ (ap (λ (n : ℕ). nat_lt
    (weight_of p b.places.items) n) same ∙ sym there)

pub far_never : (k : Kind) (p : PlainProblem) (b : Best) (q : List ℕ) (t : ℕ) → b.found ≡ false →
    is_far k p (plain_best b) q t ≡ false
far_never Changeless p b q t e = refl
far_never Lean p b q t e = ap (λ (o : Option (List ℕ)). is_far Lean p o q t) (none_is b e)

-- where all that is left reaches lo and t alone doesn't, there is a place after t
pub place_behind : (p : PlainProblem) (t gap : ℕ) → t < length p.items → (item_at p.items t).value < gap →
    gap ≤ later_value p t → t + 1 < length p.items
place_behind p t gap below low later =
    elim (cases_lt (t + 1) (length p.items)) [
      | inl l ↦ l
      | inr g ↦ absurd (omega (arith, later_value-step p t below, later_gone p (t + 1) g, low, later))
    ]

pub far_lean : (p : PlainProblem) (s : Stack) (b : Best) (t best weight need least : ℕ) → IsProblem p →
    t < length p.items → IsStack p t s → IsBestSoFar p b → b.found ≡ true → p.kind ≡ Lean →
    (item_at p.items t).value < s.gap → best ≡ b.sums.weight → weight ≡ weight_of p (with_place s t) →
    need ≡ (s.gap - 1) / (item_at p.items t).value → least ≡ least_weight p (t + 1) →
    nat_lt best (weight + need * least) ≡ is_far p.kind p (plain_best b) (with_place s t) t
far_lean p s b t best weight need least problem below is so e kind low best_is weight_is need_is least_is =
    let q : List ℕ = with_place s t in
    let item : IsItem (item_at p.items t) = item_is p t problem below in
    let n : ℕ = needed (p.lo - value_of p q) (item_at p.items t).value in
    let there : is_far p.kind p (plain_best b) q t ≡ nat_lt (weight_of p b.places.items)
    (weight_of p q + n * least_weight p (t + 1)) =
    ap (λ (k : Kind). is_far k p (plain_best b) q t) kind ∙ ap (λ (o : Option (List ℕ)). is_far Lean p o q t)
    (found_is b e) in
    let count : need ≡ n = need_is ∙ sym (needed_by_gap p s t is (omega (arith, item.value)) low) in
    ap (λ (x : ℕ). nat_lt x (weight + need * least)) (best_is ∙ (so.sums e).weight)
    ∙ (ap (λ (x : ℕ). nat_lt (weight_of p b.places.items) (x + need * least)) weight_is
    ∙ (ap (λ (x : ℕ). nat_lt (weight_of p b.places.items) (weight_of p q + x * least)) count
    ∙ (ap (λ (x : ℕ). nat_lt (weight_of p b.places.items) (weight_of p q + n * x)) least_is ∙ sym there)))

-- The sums of chosen places: with one more, and without the last.
use Rattle.std.specs.Prelude.{◌≡◌, ℕ, ◌+◌, ◌<◌, ◌≤◌, List, [], ◌∷◌, ◌++◌, length, pos, neg_ℤ, ◌+ℤ◌, ◌-ℤ◌, ◌≤ℤ◌}
use Rattle.std.specs.Vec.{vec_capacity}
use Rattle.std.proofs.Common.{arith, sym, ap, subst, ◌∙◌}
use Rattle.std.proofs.lemmas.Int.{ints}
use Rattle.pick_problem.specs.Pool.{IsItem, item_at}
use Rattle.pick_problem.specs.Problem.{PlainProblem, IsProblem, Rising, value_of, weight_of, cost_of}
use Rattle.pick_problem.proofs.SumLaws.{item_is, places_few, value-append, weight-append, cost-append}
use Rattle.pick_problem.proofs.RisingLaws.{Rising-push, Rising-until, Rising-wider}
use Rattle.pick_problem.proofs.MostLaws.{SmallSums, small_sums}
use Rattle.walk_engine.specs.declared.stack.Stack.{Stack}
use Rattle.walk_engine.specs.Stack.{IsStack, with_place}

pub value_push : (p : PlainProblem) (q : List ℕ) (t : ℕ) → value_of p (q ++ t ∷ []) ≡ value_of p q +
    (item_at p.items t).value
value_push p q t = omega (arith, value-append p q (t ∷ []))

pub weight_push : (p : PlainProblem) (q : List ℕ) (t : ℕ) → weight_of p (q ++ t ∷ []) ≡ weight_of p q +
    (item_at p.items t).weight
weight_push p q t = omega (arith, weight-append p q (t ∷ []))

pub cost_push : (p : PlainProblem) (q : List ℕ) (t : ℕ) → cost_of p (q ++ t ∷ []) ≡ cost_of p q +ℤ
    (item_at p.items t).cost
cost_push p q t = omega (arith, ints, cost-append p q (t ∷ []))

-- nothing chosen
pub empty_stack : (p : PlainProblem) (next : ℕ) (s : Stack) → s.places.items ≡ [] → s.gap ≡ p.lo → s.weight ≡ 0 →
    s.cost ≡ pos 0 → length p.items ≤ vec_capacity s.places → IsStack p next s
empty_stack p next s none gap weight cost room =
    record {
      rising = subst (λ (q : List ℕ). Rising next 0 q) (sym none) tt;
      gap = subst (λ (q : List ℕ). value_of p q + s.gap ≡ p.lo) (sym none) (omega (arith, gap));
      weight = subst (λ (q : List ℕ). s.weight ≡ weight_of p q) (sym none) weight;
      cost = subst (λ (q : List ℕ). s.cost ≡ cost_of p q) (sym none) cost;
      room = room;
    }

-- with a place after the chosen ones
pub rises_with : (p : PlainProblem) (t : ℕ) (s : Stack) → t < length p.items → IsStack p t s →
    Rising (length p.items) 0 (with_place s t)
rises_with p t s below is = Rising-push (length p.items) 0 t s.places.items (omega arith) below is.rising

pub small_with : (p : PlainProblem) (t : ℕ) (s : Stack) → (problem : IsProblem p) → t < length p.items →
    IsStack p t s → SmallSums p problem (with_place s t)
small_with p t s problem below is = small_sums p problem (with_place s t) (rises_with p t s below is)

-- a place is chosen
pub stack_more : (p : PlainProblem) (t : ℕ) (old new : Stack) → t < length p.items → IsStack p t old →
    new.places.items ≡ with_place old t → new.gap + (item_at p.items t).value ≡ old.gap →
    new.weight ≡ old.weight + (item_at p.items t).weight → new.cost ≡ old.cost +ℤ (item_at p.items t).cost →
    vec_capacity old.places ≤ vec_capacity new.places → IsStack p (t + 1) new
stack_more p t old new below is places gap weight cost room =
    let q : List ℕ = old.places.items in
    record {
      rising = subst (λ (r : List ℕ). Rising (t + 1) 0 r) (sym places) (Rising-push (t + 1) 0 t q (omega arith)
          (omega arith) is.rising);
      gap = subst (λ (r : List ℕ). value_of p r + new.gap ≡ p.lo) (sym places) (omega
          (arith, value_push p q t, is.gap, gap));
      weight = subst (λ (r : List ℕ). new.weight ≡ weight_of p r) (sym places) (omega
          (arith, weight_push p q t, is.weight, weight));
      cost = subst (λ (r : List ℕ). new.cost ≡ cost_of p r) (sym places) (omega
          (arith, ints, cost_push p q t, is.cost, cost));
      room = omega (arith, is.room, room);
    }

-- there is room for one more
pub has_place : (p : PlainProblem) (t : ℕ) (s : Stack) → t < length p.items → IsStack p t s →
    length s.places.items < vec_capacity s.places
has_place p t s below is = omega (arith, places_few t s.places.items is.rising, is.room)

-- what the last chosen place brings
pub record HasLast (p : PlainProblem) (next : ℕ) (s : Stack) (front : List ℕ) (j : ℕ) : Type 0 where
  pub below : j < next
  pub rising : Rising j 0 front
  pub gap : s.gap + (item_at p.items j).value ≤ p.lo
  pub weight : (item_at p.items j).weight ≤ s.weight
  pub cost : s.cost ≡ cost_of p front +ℤ (item_at p.items j).cost

pub has_last : (p : PlainProblem) (next : ℕ) (s : Stack) (front : List ℕ) (j : ℕ) → IsStack p next s →
    s.places.items ≡ front ++ j ∷ [] → HasLast p next s front j
has_last p next s front j is e =
    let rises : Rising j 0 front × (0 ≤ j) × (j < next) = Rising-until next 0 front j (subst (λ
    (q : List ℕ). Rising next 0 q) e is.rising) in
    let value : value_of p s.places.items ≡ value_of p front + (item_at p.items j).value = ap (value_of p) e
    ∙ value_push p front j in
    let weight : weight_of p s.places.items ≡ weight_of p front + (item_at p.items j).weight = ap (weight_of p) e
    ∙ weight_push p front j in
    let cost : cost_of p s.places.items ≡ cost_of p front +ℤ (item_at p.items j).cost = ap (cost_of p) e
    ∙ cost_push p front j in
    record {
      below = rises.2;
      rising = rises.0;
      gap = omega (arith, is.gap, value);
      weight = omega (arith, is.weight, weight);
      cost = is.cost ∙ cost;
    }

-- a place is dropped
pub stack_less : (p : PlainProblem) (next j : ℕ) (old new : Stack) → IsStack p next old →
    old.places.items ≡ new.places.items ++ j ∷ [] → new.gap ≡ old.gap + (item_at p.items j).value →
    new.weight + (item_at p.items j).weight ≡ old.weight → new.cost +ℤ (item_at p.items j).cost ≡ old.cost →
    vec_capacity new.places ≡ vec_capacity old.places → IsStack p j new
stack_less p next j old new is places gap weight cost room =
    let q : List ℕ = new.places.items in
    let last : HasLast p next old q j = has_last p next old q j is places in
    let whole_value : value_of p old.places.items ≡ value_of p q + (item_at p.items j).value = ap
    (value_of p) places ∙ value_push p q j in
    let whole_weight : weight_of p old.places.items ≡ weight_of p q + (item_at p.items j).weight = ap
    (weight_of p) places ∙ weight_push p q j in
    record {
      rising = last.rising;
      gap = omega (arith, is.gap, gap, whole_value);
      weight = omega (arith, is.weight, weight, whole_weight);
      cost = omega (arith, ints, last.cost, cost);
      room = omega (arith, is.room, room);
    }

-- bounds of the sums with one more place, and of what they are made of
pub record SmallParts (p : PlainProblem) (s : Stack) (t : ℕ) : Type 0 where
  pub weight : s.weight + (item_at p.items t).weight ≤ 400_000_000_000
  pub old_low : neg_ℤ (pos 100_000_000_000_000_000) ≤ℤ s.cost
  pub old_high : s.cost ≤ℤ pos 10_000_000_000_000_000_000_000
  pub item_low : neg_ℤ (pos 10_000_000_000_000) ≤ℤ (item_at p.items t).cost
  pub item_high : (item_at p.items t).cost ≤ℤ pos 1_000_000_000_000_000_000
  pub new_low : neg_ℤ (pos 100_000_000_000_000_000) ≤ℤ (s.cost +ℤ (item_at p.items t).cost)
  pub new_high : (s.cost +ℤ (item_at p.items t).cost) ≤ℤ pos 10_000_000_000_000_000_000_000

pub small_parts : (p : PlainProblem) (t : ℕ) (s : Stack) → IsProblem p → t < length p.items → IsStack p t s →
    SmallParts p s t
small_parts p t s problem below is =
    let q : List ℕ = s.places.items in
    let old : SmallSums p problem q = small_sums p problem q (Rising-wider t (length p.items) 0 q
    (omega arith) is.rising) in
    let new : SmallSums p problem (with_place s t) = small_with p t s problem below is in
    let item : IsItem (item_at p.items t) = item_is p t problem below in
    record {
      weight = omega (arith, new.weight, weight_push p q t, is.weight);
      old_low = omega (arith, ints, old.low, is.cost);
      old_high = omega (arith, ints, old.high, is.cost);
      item_low = item.cost.0;
      item_high = item.cost.1;
      new_low = omega (arith, ints, new.low, cost_push p q t, is.cost);
      new_high = omega (arith, ints, new.high, cost_push p q t, is.cost);
    }

-- the same without the last place
pub record SmallFront (p : PlainProblem) (s : Stack) (front : List ℕ) (j : ℕ) : Type 0 where
  pub old_low : neg_ℤ (pos 100_000_000_000_000_000) ≤ℤ s.cost
  pub old_high : s.cost ≤ℤ pos 10_000_000_000_000_000_000_000
  pub item_low : neg_ℤ (pos 10_000_000_000_000) ≤ℤ (item_at p.items j).cost
  pub item_high : (item_at p.items j).cost ≤ℤ pos 1_000_000_000_000_000_000
  pub less : s.cost -ℤ (item_at p.items j).cost ≡ cost_of p front
  pub new_low : neg_ℤ (pos 100_000_000_000_000_000) ≤ℤ (s.cost -ℤ (item_at p.items j).cost)
  pub new_high : (s.cost -ℤ (item_at p.items j).cost) ≤ℤ pos 10_000_000_000_000_000_000_000

pub small_front : (p : PlainProblem) (next : ℕ) (s : Stack) (front : List ℕ) (j : ℕ) → IsProblem p →
    next ≤ length p.items → IsStack p next s → s.places.items ≡ front ++ j ∷ [] → SmallFront p s front j
small_front p next s front j problem within is e =
    let last : HasLast p next s front j = has_last p next s front j is e in
    let place : j < length p.items = omega (arith, last.below) in
    let old : SmallSums p problem s.places.items = small_sums p problem s.places.items (Rising-wider next
    (length p.items) 0 s.places.items within is.rising) in
    let new : SmallSums p problem front = small_sums p problem front (Rising-wider j (length p.items) 0 front
    (omega arith) last.rising) in
    let item : IsItem (item_at p.items j) = item_is p j problem place in
    let less : s.cost -ℤ (item_at p.items j).cost ≡ cost_of p front = omega (arith, ints, last.cost) in
    record {
      old_low = omega (arith, ints, old.low, is.cost);
      old_high = omega (arith, ints, old.high, is.cost);
      item_low = item.cost.0;
      item_high = item.cost.1;
      less = less;
      new_low = omega (arith, ints, less, new.low);
      new_high = omega (arith, ints, less, new.high);
    }

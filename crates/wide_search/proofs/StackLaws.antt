-- The sums of chosen places: with one more, and without the last.
use Rattle.std.specs.Prelude.{◌≡◌, ℕ, ◌+◌, ◌<◌, ◌≤◌, List, [], ◌∷◌, ◌++◌, length, pos, neg_ℤ, ◌+ℤ◌, ◌≤ℤ◌}
use Rattle.std.specs.Vec.{vec_capacity}
use Rattle.std.proofs.Common.{arith, sym, subst}
use Rattle.std.proofs.lemmas.Int.{ints}
use Rattle.pick_problem.specs.Pool.{IsItem, item_at}
use Rattle.pick_problem.specs.Problem.{PlainProblem, IsProblem, Rising, value_of, weight_of, cost_of}
use Rattle.pick_problem.proofs.SumLaws.{item_is, places_few, value-append, weight-append, cost-append}
use Rattle.pick_problem.proofs.RisingLaws.{Rising-push, Rising-until, Rising-wider}
use Rattle.pick_problem.proofs.MostLaws.{SmallSums, small_sums}
use Rattle.wide_search.specs.declared.stack.Stack.{Stack}
use Rattle.wide_search.specs.declared.sums.Sums.{Sums}
use Rattle.wide_search.specs.Stack.{AreSums, IsStack, with_place}

sums_of : (p : PlainProblem) (q : List ℕ) (s : Sums) → IsProblem p → Rising (length p.items) 0 q →
    s.value ≡ value_of p q → s.weight ≡ weight_of p q → s.cost ≡ cost_of p q → AreSums p q s
sums_of p q s problem rising value weight cost =
    let small : SmallSums p problem q = small_sums p problem q rising in
    record {
      value = value;
      weight = weight;
      cost = cost;
      small = record {
        small_value = omega (arith, small.value, value);
        small_weight = omega (arith, small.weight, weight);
        low_cost = omega (arith, ints, small.low, cost);
        high_cost = omega (arith, ints, small.high, cost);
      };
    }

-- nothing chosen
pub empty_stack : (p : PlainProblem) (next : ℕ) (s : Stack) → s.places.items ≡ [] → s.sums.value ≡ 0 →
    s.sums.weight ≡ 0 → s.sums.cost ≡ pos 0 → length p.items ≤ vec_capacity s.places → IsStack p next s
empty_stack p next s none value weight cost room =
    record {
      rising = subst (λ (q : List ℕ). Rising next 0 q) (sym none) tt;
      sums = subst (λ (q : List ℕ). AreSums p q s.sums) (sym none) record {
        value = value;
        weight = weight;
        cost = cost;
        small = record {
          small_value = omega (arith, value);
          small_weight = omega (arith, weight);
          low_cost = omega (arith, ints, cost);
          high_cost = omega (arith, ints, cost);
        };
      };
      room = room;
    }

-- with a place after the chosen ones
pub sums_more : (p : PlainProblem) (t : ℕ) (s : Stack) (sums : Sums) → IsProblem p → t < length p.items →
    IsStack p t s → sums.value ≡ s.sums.value + (item_at p.items t).value →
    sums.weight ≡ s.sums.weight + (item_at p.items t).weight →
    sums.cost ≡ s.sums.cost +ℤ (item_at p.items t).cost → AreSums p (with_place s t) sums
sums_more p t s sums problem below is value weight cost =
    let q : List ℕ = s.places.items in
    sums_of p (with_place s t) sums problem (Rising-push (length p.items) 0 t q (omega arith) below is.rising)
    (omega (arith, value-append p q (t ∷ []), is.sums.value, value))
    (omega (arith, weight-append p q (t ∷ []), is.sums.weight, weight))
    (omega (arith, ints, cost-append p q (t ∷ []), is.sums.cost, cost))

-- a place is chosen
pub stack_more : (p : PlainProblem) (t : ℕ) (old new : Stack) → t < length p.items → IsStack p t old →
    new.places.items ≡ with_place old t → AreSums p (with_place old t) new.sums →
    vec_capacity old.places ≤ vec_capacity new.places → IsStack p (t + 1) new
stack_more p t old new below is places sums room =
    record {
      rising = subst (λ (r : List ℕ). Rising (t + 1) 0 r) (sym places) (Rising-push (t + 1) 0 t old.places.items
          (omega arith) (omega arith) is.rising);
      sums = subst (λ (r : List ℕ). AreSums p r new.sums) (sym places) sums;
      room = omega (arith, is.room, room);
    }

-- there is room for one more
pub has_place : (p : PlainProblem) (t : ℕ) (s : Stack) → t < length p.items → IsStack p t s →
    length s.places.items < vec_capacity s.places
has_place p t s below is = omega (arith, places_few t s.places.items is.rising, is.room)

-- what the last chosen place brings
pub record HasLast (p : PlainProblem) (next : ℕ) (s : Stack) (front : List ℕ) (j : ℕ) : Type 0 where
  pub below : j < next
  pub rising : Rising j 0 front
  pub value : s.sums.value ≡ value_of p front + (item_at p.items j).value
  pub weight : s.sums.weight ≡ weight_of p front + (item_at p.items j).weight
  pub cost : s.sums.cost ≡ cost_of p front +ℤ (item_at p.items j).cost

pub has_last : (p : PlainProblem) (next : ℕ) (s : Stack) (front : List ℕ) (j : ℕ) → IsStack p next s →
    s.places.items ≡ front ++ j ∷ [] → HasLast p next s front j
has_last p next s front j is e =
    let rises : Rising j 0 front × (0 ≤ j) × (j < next) = Rising-until next 0 front j (subst (λ
    (q : List ℕ). Rising next 0 q) e is.rising) in
    let sums : AreSums p (front ++ j ∷ []) s.sums = subst (λ (q : List ℕ). AreSums p q s.sums) e is.sums in
    record {
      below = rises.2;
      rising = rises.0;
      value = omega (arith, value-append p front (j ∷ []), sums.value);
      weight = omega (arith, weight-append p front (j ∷ []), sums.weight);
      cost = omega (arith, ints, cost-append p front (j ∷ []), sums.cost);
    }

-- a place is dropped
pub stack_less : (p : PlainProblem) (next j : ℕ) (old new : Stack) → IsProblem p → next ≤ length p.items →
    IsStack p next old → old.places.items ≡ new.places.items ++ j ∷ [] →
    new.sums.value + (item_at p.items j).value ≡ old.sums.value →
    new.sums.weight + (item_at p.items j).weight ≡ old.sums.weight →
    new.sums.cost +ℤ (item_at p.items j).cost ≡ old.sums.cost →
    vec_capacity new.places ≡ vec_capacity old.places → IsStack p j new
stack_less p next j old new problem within is places value weight cost room =
    let q : List ℕ = new.places.items in
    let last : HasLast p next old q j = has_last p next old q j is places in
    record {
      rising = last.rising;
      sums = sums_of p q new.sums problem (Rising-wider j (length p.items) 0 q (omega (arith, last.below, within)) last.rising)
          (omega (arith, last.value, value)) (omega (arith, last.weight, weight)) (omega (arith, ints, last.cost, cost));
      room = omega (arith, is.room, room);
    }

-- bounds of a cost and of what it is made of
pub record SmallCosts (p : PlainProblem) (s : Stack) (t : ℕ) : Type 0 where
  pub old_low : neg_ℤ (pos 100_000_000_000_000_000) ≤ℤ s.sums.cost
  pub old_high : s.sums.cost ≤ℤ pos 10_000_000_000_000_000_000_000
  pub item_low : neg_ℤ (pos 10_000_000_000_000) ≤ℤ (item_at p.items t).cost
  pub item_high : (item_at p.items t).cost ≤ℤ pos 1_000_000_000_000_000_000
  pub item_value : (item_at p.items t).value ≤ 210_000_000_000_000_000
  pub item_weight : (item_at p.items t).weight ≤ 40_000_000
  pub old_value : s.sums.value ≤ 2_100_000_000_000_000_000_000
  pub old_weight : s.sums.weight ≤ 400_000_000_000

pub small_costs : (p : PlainProblem) (next t : ℕ) (s : Stack) → IsProblem p → t < length p.items → IsStack p next s →
    SmallCosts p s t
small_costs p next t s problem below is =
    let item : IsItem (item_at p.items t) = item_is p t problem below in
    record {
      old_low = is.sums.small.low_cost;
      old_high = is.sums.small.high_cost;
      item_low = item.cost.0;
      item_high = item.cost.1;
      item_value = omega (arith, item.value);
      item_weight = omega (arith, item.weight);
      old_value = is.sums.small.small_value;
      old_weight = is.sums.small.small_weight;
    }

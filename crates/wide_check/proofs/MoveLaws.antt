-- What each move of a reading keeps.
use Rattle.std.specs.Prelude.{◌≡◌, ℕ, ◌+◌, ◌-◌, ◌<◌, ◌≤◌, Bool, false, List, [], ◌∷◌, ◌++◌, length, pos, ℤ, ◌+ℤ◌, ◌-ℤ◌, vec_capacity}
use Rattle.std.specs.Int.{w64, w128}
use Rattle.std.proofs.Common.{arith, sym, ap, subst, ◌∙◌, to_z, of_z}
use Rattle.std.proofs.lemmas.Int.{ints}
use Rattle.wide_check.specs.declared.reading.Reading.{Reading}
use Rattle.wide_check.specs.Reads.{IsReading}
use Rattle.pick_problem.specs.declared.item.Item.{Item}
use Rattle.pick_problem.specs.Pool.{IsItem, item_at}
use Rattle.pick_problem.specs.Problem.{PlainProblem, IsProblem, Rising, value_of, weight_of, cost_of}
use Rattle.pick_problem.specs.Later.{behind_twins}
use Rattle.wide_check.specs.WideSteps.{left}
use Rattle.pick_problem.proofs.SumLaws.{value-append, weight-append, cost-append, places_few}
use Rattle.pick_problem.proofs.RisingLaws.{Rising-push, Rising-until, Rising-wider, twins_within}
use Rattle.wide_check.proofs.WideTreeSteps.{left_push}
use Rattle.pick_problem.proofs.MostLaws.{SmallSums, small_sums}

-- a reading by its parts
pub reading_of : (p : PlainProblem) → IsProblem p → (r : Reading) → Rising r.next 0 r.places.items →
    r.next ≤ length p.items → r.value ≡ value_of p r.places.items → r.weight ≡ weight_of p r.places.items →
    r.cost ≡ cost_of p r.places.items → length p.items ≤ vec_capacity r.places → IsReading p r
reading_of p is r rising within value weight cost room =
    let small : SmallSums p is r.places.items = small_sums p is r.places.items (Rising-wider r.next (length p.items) 0 r.places.items within rising) in
    record {
      rising = rising;
      within = within;
      value = value;
      weight = weight;
      cost = cost;
      small_value = omega (arith, value, small.value);
      small_weight = omega (arith, weight, small.weight);
      low_cost = omega (arith, ints, cost, small.low);
      high_cost = omega (arith, ints, cost, small.high);
      few = is.items.few;
      room = room;
    }

pub at_root : (p : PlainProblem) → IsProblem p → (r : Reading) → r.places.items ≡ [] → r.value ≡ 0 → r.weight ≡ 0 →
    r.cost ≡ pos 0 → r.next ≡ 0 → length p.items ≤ vec_capacity r.places → IsReading p r
at_root p is r none value weight cost next room =
    reading_of p is r
    (subst (λ (q : List ℕ). Rising r.next 0 q) (sym none) tt)
    (omega (arith, next))
    (value ∙ sym (ap (value_of p) none))
    (weight ∙ sym (ap (weight_of p) none))
    (cost ∙ sym (ap (cost_of p) none))
    room

-- chosen places leave room where a place is left
pub has_room : (p : PlainProblem) (r : Reading) → IsReading p r → r.next < length p.items →
    length r.places.items < vec_capacity r.places
has_room p r is below = let few : length r.places.items ≤ r.next = places_few r.next r.places.items is.rising in omega (arith, few, below, is.room)

pub entered : (p : PlainProblem) → IsProblem p → (r s : Reading) → IsReading p r → r.next < length p.items →
    s.places.items ≡ r.places.items ++ r.next ∷ [] → s.value ≡ r.value + (item_at p.items r.next).value →
    s.weight ≡ r.weight + (item_at p.items r.next).weight → s.cost ≡ r.cost +ℤ (item_at p.items r.next).cost →
    s.next ≡ r.next + 1 → vec_capacity r.places ≤ vec_capacity s.places → IsReading p s
entered p is r s old below places value weight cost next room =
    let q : List ℕ = r.places.items in
    let rising : Rising (r.next + 1) 0 (q ++ r.next ∷ []) = Rising-push (r.next + 1) 0 r.next q (omega arith) (omega arith) old.rising in
    reading_of p is s
    (subst (λ (n : ℕ). Rising n 0 s.places.items) (sym next) (subst (λ (xs : List ℕ). Rising (r.next + 1) 0 xs) (sym places) rising))
    (omega (arith, next, below))
    (omega (arith, value, old.value, ap (value_of p) places, value-append p q (r.next ∷ [])))
    (omega (arith, weight, old.weight, ap (weight_of p) places, weight-append p q (r.next ∷ [])))
    (omega (arith, ints, cost, old.cost, ap (cost_of p) places, cost-append p q (r.next ∷ [])))
    (omega (arith, old.room, room))

pub passed : (p : PlainProblem) → IsProblem p → (r s : Reading) → IsReading p r → r.next < length p.items →
    s.places.items ≡ r.places.items → s.value ≡ r.value → s.weight ≡ r.weight → s.cost ≡ r.cost →
    s.next ≡ behind_twins p r.next → vec_capacity r.places ≤ vec_capacity s.places → IsReading p s
passed p is r s old below places value weight cost next room =
    let within : behind_twins p r.next ≤ length p.items = twins_within p r.next (omega (arith, below)) in
    let wide : Rising (behind_twins p r.next) 0 r.places.items = Rising-wider r.next (behind_twins p r.next) 0 r.places.items (omega arith) old.rising in
    reading_of p is s
    (subst (λ (n : ℕ). Rising n 0 s.places.items) (sym next) (subst (λ (xs : List ℕ). Rising (behind_twins p r.next) 0 xs) (sym places) wide))
    (omega (arith, next, within))
    (value ∙ (old.value ∙ sym (ap (value_of p) places)))
    (weight ∙ (old.weight ∙ sym (ap (weight_of p) places)))
    (cost ∙ (old.cost ∙ sym (ap (cost_of p) places)))
    (omega (arith, old.room, room))

-- ---- the last place is dropped

pub dropped_below : (p : PlainProblem) (r : Reading) (front : List ℕ) (j : ℕ) → IsReading p r →
    r.places.items ≡ front ++ j ∷ [] → j < length p.items
dropped_below p r front j old places =
    let until = Rising-until r.next 0 front j (subst (λ (q : List ℕ). Rising r.next 0 q) places old.rising) in
    omega (arith, until.2, old.within)

pub dropped_value : (p : PlainProblem) (r : Reading) (front : List ℕ) (j : ℕ) → IsReading p r →
    r.places.items ≡ front ++ j ∷ [] → r.value ≡ value_of p front + (item_at p.items j).value
dropped_value p r front j old places = omega (arith, old.value, ap (value_of p) places, value-append p front (j ∷ []))

pub dropped_weight : (p : PlainProblem) (r : Reading) (front : List ℕ) (j : ℕ) → IsReading p r →
    r.places.items ≡ front ++ j ∷ [] → r.weight ≡ weight_of p front + (item_at p.items j).weight
dropped_weight p r front j old places = omega (arith, old.weight, ap (weight_of p) places, weight-append p front (j ∷ []))

pub dropped_cost : (p : PlainProblem) (r : Reading) (front : List ℕ) (j : ℕ) → IsReading p r →
    r.places.items ≡ front ++ j ∷ [] → r.cost ≡ cost_of p front +ℤ (item_at p.items j).cost
dropped_cost p r front j old places = omega (arith, ints, old.cost, ap (cost_of p) places, cost-append p front (j ∷ []))

pub dropped_state : (p : PlainProblem) (q front : List ℕ) (j : ℕ) (closed met : Bool) → q ≡ front ++ j ∷ [] →
    closed ≡ false → record { chosen = front; next = j + 1; entered = false; closed = closed; met = met } ≡ left p met q
dropped_state p q front j closed met places open_ =
    ap (λ (c : Bool). record { chosen = front; next = j + 1; entered = false; closed = c; met = met }) open_ ∙ sym (ap (left p met) places ∙ left_push p met front j)

pub dropped : (p : PlainProblem) → IsProblem p → (r s : Reading) (j : ℕ) → IsReading p r →
    r.places.items ≡ s.places.items ++ j ∷ [] → s.value ≡ r.value - (item_at p.items j).value →
    s.weight ≡ r.weight - (item_at p.items j).weight → s.cost ≡ r.cost -ℤ (item_at p.items j).cost → s.next ≡ j + 1 →
    vec_capacity r.places ≤ vec_capacity s.places → IsReading p s
dropped p is r s j old places value weight cost next room =
    let front : List ℕ = s.places.items in
    let until = Rising-until r.next 0 front j (subst (λ (q : List ℕ). Rising r.next 0 q) places old.rising) in
    reading_of p is s
    (subst (λ (n : ℕ). Rising n 0 front) (sym next) (Rising-wider j (j + 1) 0 front (omega arith) until.0))
    (omega (arith, next, dropped_below p r front j old places))
    (omega (arith, value, dropped_value p r front j old places))
    (omega (arith, weight, dropped_weight p r front j old places))
    (omega (arith, ints, cost, dropped_cost p r front j old places))
    (omega (arith, old.room, room))

-- ---- sums of costs, which fit

pub cost_sum : (p : PlainProblem) (r : Reading) (x : Item) (y : ℤ) → IsReading p r → IsItem x →
    y ≡ to_z w64 (of_z w64 x.cost) →
    to_z w128 (of_z w128 (to_z w128 (of_z w128 r.cost) +ℤ to_z w128 (of_z w128 y))) ≡ r.cost +ℤ x.cost
cost_sum p r x y old item same = omega (arith, ints, old.low_cost, old.high_cost, item.cost, same)

pub cost_difference : (p : PlainProblem) (r : Reading) (x : Item) (y : ℤ) → IsReading p r → IsItem x →
    y ≡ to_z w64 (of_z w64 x.cost) →
    to_z w128 (of_z w128 (to_z w128 (of_z w128 r.cost) -ℤ to_z w128 (of_z w128 y))) ≡ r.cost -ℤ x.cost
cost_difference p r x y old item same = omega (arith, ints, old.low_cost, old.high_cost, item.cost, same)

-- the chosen places are places
pub rises : (p : PlainProblem) (r : Reading) → IsReading p r → Rising (length p.items) 0 r.places.items
rises p r is = Rising-wider r.next (length p.items) 0 r.places.items is.within is.rising

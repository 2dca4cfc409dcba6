-- Adding a place to those that are kept, and dropping one.
use Rattle.std.specs.Prelude.{◌≡◌, ℕ, suc, ◌+◌, ◌-◌, ◌<◌, ◌≤◌, List, [], ◌∷◌, ◌++◌, length, get_or}
use Rattle.std.specs.declared.collections.BinaryHeap.{BinaryHeap}
use Rattle.std.specs.BinaryHeap.{IsHeap, IsUpperBound, heap_items}
use Rattle.std.specs.Ordering.{nat_cmp}
use Rattle.std.specs.List.Sorted.{IsPermutation}
use Rattle.std.specs.declared.alloc.Global.{Global}
use Rattle.std.proofs.Common.{arith, length-append, sym, ap, ◌∙◌}
use Rattle.std.proofs.lemmas.List.Elements.{All-head}
use Rattle.pick_problem.specs.declared.item.Item.{Item}
use Rattle.pick_problem.specs.Pool.{IsItem, no_item, item_at}
use Rattle.pick_problem.specs.Problem.{PlainProblem, IsProblem, Rising, value_of, weight_of}
use Rattle.pick_problem.proofs.SumLaws.{item_is, value-append, weight-append, places_few}
use Rattle.random_draw.specs.Draw.{with_place, one_less, trimmed}
use Rattle.random_draw.specs.KeptPlaces.{AreFresh, AreKeptPlaces, places_of, sorted_up}
use Rattle.random_draw.specs.declared.kept.Kept.{Kept}
use Rattle.random_draw.proofs.Sorting.{popped, sorted_up-permutation}
use Rattle.random_draw.proofs.Trimming.{one_less_last, rising_last, rising_front, trimmed_heavy, value_most, weight_most, value-with_place, weight-with_place}
use Rattle.random_draw.proofs.Fresh.{rising_more}

-- the sums that are kept fit
pub record AreSmall (kept : Kept) : Type 0 where
  pub value : kept.value ≤ 2_100_000_000_000_000_000_000
  pub weight : kept.weight ≤ 400_000_000_000

pub small : (p : PlainProblem) (kept : Kept) → IsProblem p → AreKeptPlaces p kept → AreSmall kept
small p kept is so =
    let few : length (places_of kept) ≤ length p.items = places_few (length p.items) (places_of kept) so.rising in
    record {
      value = omega (arith, so.value, value_most p is 0 (places_of kept) so.rising, few, is.items.few);
      weight = omega (arith, so.weight, weight_most p is 0 (places_of kept) so.rising, few, is.items.few);
    }

-- the item that stands at a place of the pool
at_place : (p : PlainProblem) (items : List Item) (j : ℕ) → items ≡ p.items → get_or items j no_item ≡ item_at p.items j
at_place p items j same = ap (λ (xs : List Item). get_or xs j no_item) same

-- the numbers of a place to be added are in their ranges
pub item_small : (p : PlainProblem) (items : List Item) (j : ℕ) {kept : List ℕ} → IsProblem p → items ≡ p.items → AreFresh p kept (j ∷ []) → IsItem (get_or items j no_item)
item_small p items j is same fresh = rw (at_place p items j same) (item_is p j is (All-head (λ k. k < length p.items) j [] fresh.below))

-- a place is added
pub joins : (p : PlainProblem) (kept : Kept) (heap : BinaryHeap ℕ Global) (items : List Item) (j x y : ℕ) → AreKeptPlaces p kept → AreFresh p (places_of kept) (j ∷ []) → items ≡ p.items → IsHeap nat_cmp (heap_items heap) → IsPermutation (j ∷ heap_items kept.heap) (heap_items heap) → x ≡ (get_or items j no_item).value → y ≡ (get_or items j no_item).weight → AreKeptPlaces p (record { heap = heap; value = kept.value + x; weight = kept.weight + y })
joins p kept heap items j x y so fresh same heaped moved xe ye =
    let places : sorted_up (heap_items heap) ≡ with_place j (places_of kept) = sorted_up-permutation (j ∷ heap_items kept.heap) (heap_items heap) moved in
    let item : get_or items j no_item ≡ item_at p.items j = at_place p items j same in
    record {
      heap = heaped;
      rising = rw places (rising_more p (places_of kept) j [] so.rising fresh);
      value = rw places (omega (arith, so.value, value-with_place p j (places_of kept), xe, ap (λ (i : Item). i.value) item));
      weight = rw places (omega (arith, so.weight, weight-with_place p j (places_of kept), ye, ap (λ (i : Item). i.weight) item));
    }

-- what is known once the greatest place is dropped
pub record IsDropped (p : PlainProblem) (kept : Kept) (heap : BinaryHeap ℕ Global) (j x y : ℕ) : Type 0 where
  pub below : j < length p.items
  pub value : x ≤ kept.value
  pub weight : y ≤ kept.weight
  pub places : sorted_up (heap_items heap) ≡ one_less p (places_of kept)
  pub fewer : length (sorted_up (heap_items heap)) + 1 ≡ length (places_of kept)
  pub remains : AreKeptPlaces p (record { heap = heap; value = kept.value - x; weight = kept.weight - y })

pub leaves : (p : PlainProblem) (kept : Kept) (heap : BinaryHeap ℕ Global) (items : List Item) (j x y : ℕ) → IsProblem p → AreKeptPlaces p kept → items ≡ p.items → IsHeap nat_cmp (heap_items heap) → IsPermutation (heap_items kept.heap) (j ∷ heap_items heap) → IsUpperBound nat_cmp j (heap_items heap) → x ≡ (get_or items j no_item).value → y ≡ (get_or items j no_item).weight → IsDropped p kept heap j x y
leaves p kept heap items j x y is so same heaped moved top xe ye =
    let rest : List ℕ = sorted_up (heap_items heap) in
    let parts : places_of kept ≡ rest ++ j ∷ [] = popped (heap_items kept.heap) (heap_items heap) j moved top in
    let rising : Rising (length p.items) 0 (rest ++ j ∷ []) = rw parts at so.rising in
    let item : get_or items j no_item ≡ item_at p.items j = at_place p items j same in
    let value : kept.value ≡ value_of p rest + x = omega (arith, so.value, ap (value_of p) parts, value-append p rest (j ∷ []), xe, ap (λ (i : Item). i.value) item) in
    let weight : kept.weight ≡ weight_of p rest + y = omega (arith, so.weight, ap (weight_of p) parts, weight-append p rest (j ∷ []), ye, ap (λ (i : Item). i.weight) item) in
    record {
      below = (rising_last (length p.items) 0 rest j rising).1;
      value = omega (arith, value);
      weight = omega (arith, weight);
      places = sym (rw parts (one_less_last p is rest j rising));
      fewer = omega (arith, ap length parts, length-append rest (j ∷ []));
      remains = record { heap = heaped; rising = rising_front (length p.items) 0 rest j rising; value = omega (arith, value); weight = omega (arith, weight) };
    }

-- one is dropped, and what is left goes on to the same
pub trims : (p : PlainProblem) (old new : List ℕ) → new ≡ one_less p old → length new + 1 ≡ length old → p.most_weight < weight_of p old → trimmed p (length new) new ≡ trimmed p (length old) old
trims p old new is fewer heavy =
    let more : length old ≡ suc (length new) = omega arith in
    rw more (ap (λ (r : List ℕ). trimmed p (length new) r) is ∙ sym (trimmed_heavy p (length new) old heavy))

-- The items of sorted groups are such as a problem takes.
use Rattle.std.specs.Prelude.{◌≡◌, ℕ, ℤ, ◌+◌, ◌<◌, ◌≤◌, ◌≤ℤ◌, ◌⊎◌, false, List, [], ◌∷◌, map, All, length, get_or, IsSorted}
use Rattle.std.specs.Ordering.{MatchOrdering, is_lt, nat_cmp, int_cmp, ordering_then}
use Rattle.std.specs.declared.cmp.Ordering.{Ordering}
use Rattle.std.specs.declared.cmp.Ordering.TheVariants.{Less, Equal, Greater}
use Rattle.std.proofs.Common.{refl, sym, arith, inl, inr}
use Rattle.std.proofs.lemmas.Cmp.{int_ranked, ranked}
use Rattle.std.proofs.lemmas.Int.{ints}
use Rattle.std.proofs.lemmas.List.{get_or-map, length-map}
use Rattle.fund_base.specs.Outpoints.{outpoint_cmp}
use Rattle.coin_candidates.specs.declared.candidate.Candidate.{Candidate}
use Rattle.pick_problem.specs.Pool.{AreItems, IsInOrder, IsItem}
use Rattle.pick_problem.specs.declared.item.Item.{Item}
use Rattle.output_groups.specs.Measures.{cost_of, least_of, value_of, weight_of}
use Rattle.output_groups.specs.Pool.{group_cmp, item_of}

-- where one order and then another doesn't put the first below: it is above, or the first order ties
not_below : (P Q R : Type 0) (r s : Ordering) → is_lt (ordering_then r s) ≡ false → MatchOrdering r P Q R → R ⊎ (Q × (is_lt s ≡ false))
not_below P Q R Less s h m = absurd cc
not_below P Q R Equal s h m = inr (m, h)
not_below P Q R Greater s h m = inl m

in_order : (va vb wa wb : ℕ) (ca cb : ℤ) (o : Ordering) → is_lt (ordering_then (nat_cmp va vb) (ordering_then (nat_cmp wb wa) (ordering_then (int_cmp cb ca) o))) ≡ false
    → (vb < va) ⊎ ((va ≡ vb) × ((wa < wb) ⊎ ((wa ≡ wb) × (ca ≤ℤ cb))))
in_order va vb wa wb ca cb o h =
    elim (not_below _ _ _ (nat_cmp va vb) (ordering_then (nat_cmp wb wa) (ordering_then (int_cmp cb ca) o)) h (ranked va vb (nat_cmp va vb) refl)) [
      | inl falls ↦ inl falls
      | inr ties ↦
          inr (
            ties.0,
            elim (not_below _ _ _ (nat_cmp wb wa) (ordering_then (int_cmp cb ca) o) ties.1 (ranked wb wa (nat_cmp wb wa) refl)) [
              | inl rises ↦ inl rises
              | inr tie ↦
                  inr (
                    sym tie.0,
                    elim (not_below _ _ _ (int_cmp cb ca) o tie.1 (int_ranked cb ca (int_cmp cb ca) refl)) [
                      | inl above ↦ omega (arith, ints, above)
                      | inr same ↦ omega (arith, ints, same.0)
                    ],
                  )
            ],
          )
    ]

-- orders one after another are in one order
pub then_left : (a b c d : Ordering) → ordering_then a (ordering_then b (ordering_then c d)) ≡ ordering_then (ordering_then (ordering_then a b) c) d
then_left Less b c d = refl
then_left Equal Less c d = refl
then_left Equal Equal c d = refl
then_left Equal Greater c d = refl
then_left Greater b c d = refl

ordered : (rate long_term : ℕ) (gs : List (List Candidate)) → IsSorted (group_cmp rate long_term) gs → (k : ℕ) (d : Item) → k + 1 < length (map (item_of rate long_term) gs) → IsInOrder (get_or (map (item_of rate long_term) gs) k d) (get_or (map (item_of rate long_term) gs) (k + 1) d)
ordered rate long_term [] up k d below = absurd (omega (arith, below))
ordered rate long_term (x ∷ xs) up k d below =
    let item = item_of rate long_term in
    let short : k + 1 < length (x ∷ xs) = omega (arith, below, length-map (x ∷ xs) item) in
    let a = get_or (x ∷ xs) k x in
    let b = get_or (x ∷ xs) (k + 1) x in
    rw (get_or-map item (x ∷ xs) k x d (omega arith), get_or-map item (x ∷ xs) (k + 1) x d short)
    (in_order (value_of rate a) (value_of rate b) (weight_of a) (weight_of b) (cost_of rate long_term a) (cost_of rate long_term b) (outpoint_cmp (least_of b) (least_of a)) (up k x (omega arith) short))

-- the items of groups that stand in order
pub items_fit : (rate long_term : ℕ) (gs : List (List Candidate)) → length gs ≤ 10_000 → All IsItem (map (item_of rate long_term) gs) → IsSorted (group_cmp rate long_term) gs → AreItems (map (item_of rate long_term) gs)
items_fit rate long_term gs few each up = record {
  few = omega (arith, few, length-map gs (item_of rate long_term));
  each = each;
  order = λ k d below. ordered rate long_term gs up k d below;
}

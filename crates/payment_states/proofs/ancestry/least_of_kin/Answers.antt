use Rattle.std.proofs.Common.{◌≡◌, ◌∙◌, sym, ap, subst, List, ◌++◌, ◌∷◌, [], ℕ, Option, arith, ◌+◌, ◌<◌, length, get_or, map, All}
use Rattle.payment_states.specs.Graph.{IsInOrder, below, kin, steps}
use Rattle.payment_states.specs.Least.{least_by, lesser, value_at}
use Rattle.std.proofs.lemmas.List.{get_or_default}
use Rattle.payment_states.proofs.Below.{map_below_more}
use Rattle.payment_states.proofs.LeastSteps.{least_known}
use Rattle.payment_states.proofs.ancestry.least_of_kin.Goals as goal

abbrev Least : List (List ℕ) → List (Option ℕ) → ℕ → Option ℕ
Least g own i = least_by (value_at own) (kin g i)

-- one place more
more : (g : List (List ℕ)) (own was new : List (Option ℕ)) (i : ℕ) (ps : List ℕ) (value : Option ℕ) → IsInOrder g → i < length g → length own ≡ length g
    → was ≡ map (Least g own) (below i) → ps ≡ get_or g i ps → value ≡ lesser (value_at own i) (least_by (value_at was) ps) → new ≡ was ++ value ∷ [] → new ≡ map (Least g own) (below (i + 1))
more g own was new i ps value order lt same is read told pushed =
    let here : ps ≡ steps g i = read ∙ get_or_default g i ps [] lt in
    let value_is : value ≡ Least g own i = told ∙ (λ k. lesser (value_at own i) (least_by (value_at (is k)) (here k))) ∙ least_known g own i order lt in
    pushed ∙ (λ k. is k ++ value_is k ∷ []) ∙ sym (map_below_more (Least g own) i)

pub loop-place-init : goal.loop-place-init
unfolding below
loop-place-init c = (c.new-least.ensures.items, c.new-least.ensures.len)

pub least_from-value-requires : goal.least_from-value-requires
least_from-value-requires c k d lt =
    let g = c.args.parents.now in
    let i = c.loop-place.place in
    let is : c.as_slice.result.now ≡ get_or g i [] = c.as_slice.ensures ∙ c.index-parents-place.is ∙ get_or_default g i c.index-parents-place.result [] c.loop-place-test.true in
    let before : get_or c.as_slice.result.now k d < i = subst (λ (ps : List ℕ). All (λ p. p < i) ps) (sym is) (c.requires.order i c.loop-place-test.true) k d lt in
    let long : length c.deref.result.now ≡ i = c.deref.ensures.len ∙ c.loop-place.invariant.1 in
    omega arith

pub loop-place-preserved : goal.loop-place-preserved
loop-place-preserved c = (
  more c.args.parents.now c.args.own.now c.loop-place.least.items c.push.new.self.items c.loop-place.place c.as_slice.result.now c.least_from-value.result c.requires.order c.loop-place-test.true c.requires.same c.loop-place.invariant.0
      (c.as_slice.ensures ∙ c.index-parents-place.is ∙ get_or_default c.args.parents.now c.loop-place.place c.index-parents-place.result c.as_slice.result.now c.loop-place-test.true)
      (c.least_from-value.ensures ∙ ap (λ (l : List (Option ℕ)). lesser (value_at c.args.own.now c.loop-place.place) (least_by (value_at l) c.as_slice.result.now)) c.deref.ensures.value)
      c.in_ok-push.ensures.items,
  omega (arith, c.in_ok-push.ensures.len),
)

pub returns-clause-least : goal.returns-clause-least
returns-clause-least c = let e : c.loop-place.place ≡ length c.args.parents.now = omega arith in c.loop-place.invariant.0 ∙ ap (λ n. map (Least c.args.parents.now c.args.own.now) (below n)) e

use Rattle.std.proofs.Common.{◌≡◌, ◌∙◌, ◌⊎◌, inl, inr, ℕ, ◌<◌, ◌≤◌, ◌==◌, ◌||◌, Bool, true, false, List, [], get_or, sym, subst, arith, All}
use Rattle.std.specs.List.{list_any}
use Rattle.std.proofs.lemmas.Bool.{false_from_ne_true, eqb-true, or_cases, true≢false}
use Rattle.std.proofs.lemmas.List.{get_or_default}
use Rattle.std.proofs.lemmas.List.Elements.{All-contains}
use Rattle.fund_base.proofs.Lists.{any_found}
use Rattle.payment_states.specs.Graph.{steps}
use Rattle.payment_states.proofs.counts.mark_parents.Goals as goal

pub mark_places-requires : goal.mark_places-requires
mark_places-requires c k d lt =
    let g = c.args.parents.now in
    let i = c.args.place in
    let is : c.as_slice.result.now ≡ steps g i = c.as_slice.ensures ∙ c.index-parents-place.is ∙ get_or_default g i c.index-parents-place.result [] c.requires.place in
    let before : get_or c.as_slice.result.now k d < i = subst (λ (ps : List ℕ). All (λ p. p < i) ps) (sym is) (c.requires.order i c.requires.place) k d lt in
    omega arith

-- nothing is marked below the least
below_least : (ps : List ℕ) (old new : ℕ → Bool) (low least j : ℕ) → ((j : ℕ) → new j ≡ (list_any (λ p. p == j) ps || old j)) → ((j : ℕ) → j < low → old j ≡ false) → least ≤ low → All (λ p. least ≤ p) ps → j < least → new j ≡ false
below_least ps old new low least j is none le each lt = false_from_ne_true (new j) (λ h. by (or_cases (list_any (λ p. p == j) ps) (old j) (sym (is j) ∙ h)))
  where
    by : (list_any (λ p. p == j) ps ≡ true) ⊎ (old j ≡ true) → ⊥
    by (inl h) = let f = any_found (λ p. p == j) ps h in let b : least ≤ f.0 = All-contains (λ p. least ≤ p) ps f.0 each f.1 in let e = eqb-true f.0 j f.2 in omega arith
    by (inr h) = true≢false (sym h ∙ none j (omega arith))

pub returns-then-marks-place-clause-below : goal.returns-then-marks-place-clause-below
returns-then-marks-place-clause-below c j lt =
    below_least c.as_slice.result.now (λ k. get_or c.args.marks.now k false) (λ k. get_or c.mark_places.new.marks k false) c.args.low c.mark_places.result j c.mark_places.ensures.marks c.requires.low c.mark_places.ensures.low c.mark_places.ensures.least lt

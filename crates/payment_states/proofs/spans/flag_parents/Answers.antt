use Rattle.std.proofs.Common.{◌≡◌, ◌∙◌, ◌⊎◌, inl, inr, ℕ, ◌<◌, ◌≤◌, ◌==◌, ◌||◌, ◌&&◌, Bool, true, false, List, [], get_or, sym, ap, subst, arith, All}
use Rattle.std.specs.List.{list_any}
use Rattle.std.proofs.lemmas.Bool.{and_parts, eqb-true, false_from_ne_true, or_cases, true≢false}
use Rattle.std.proofs.lemmas.List.{get_or_default}
use Rattle.std.proofs.lemmas.List.Elements.{All-contains}
use Rattle.fund_base.proofs.Lists.{any_found}
use Rattle.payment_states.specs.Graph.{steps}
use Rattle.payment_states.specs.Words.{has_flag}
use Rattle.payment_states.proofs.WordSteps.{no_flag}
use Rattle.payment_states.proofs.spans.flag_parents.Goals as goal

pub returns-then-word-eq0-clause-flags : goal.returns-then-word-eq0-clause-flags
returns-then-word-eq0-clause-flags c = λ j k.
    let none : has_flag (get_or c.args.words.now c.args.place 0) k ≡ false = ap (λ x. has_flag x k) c.if-word-eq0.true ∙ no_flag k in
    sym (ap (λ b. (b && list_any (λ p. p == j) (steps c.args.parents.now c.args.place)) || has_flag (get_or c.args.words.now j 0) k) none)

pub flag_places-requires : goal.flag_places-requires
flag_places-requires c k d lt =
    let g = c.args.parents.now in
    let i = c.args.place in
    let is : c.as_slice.result.now ≡ steps g i = c.as_slice.ensures ∙ c.index-parents-place.is ∙ get_or_default g i c.index-parents-place.result [] c.requires.place in
    let before : get_or c.as_slice.result.now k d < i = subst (λ (ps : List ℕ). All (λ p. p < i) ps) (sym is) (c.requires.order i c.requires.place) k d lt in
    omega arith

-- no flag is set below the least
below_least : (ps : List ℕ) (has : Bool) (old new : ℕ → Bool) (low least j : ℕ) → ((j : ℕ) → new j ≡ ((has && list_any (λ p. p == j) ps) || old j)) → ((j : ℕ) → j < low → old j ≡ false) → least ≤ low → All (λ p. least ≤ p) ps → j < least → new j ≡ false
below_least ps has old new low least j is none le each lt = false_from_ne_true (new j) (λ h. by (or_cases (has && list_any (λ p. p == j) ps) (old j) (sym (is j) ∙ h)))
  where
    by : ((has && list_any (λ p. p == j) ps) ≡ true) ⊎ (old j ≡ true) → ⊥
    by (inl h) =
        let f = any_found (λ p. p == j) ps (and_parts has (list_any (λ p. p == j) ps) h).1 in
        let b : least ≤ f.0 = All-contains (λ p. least ≤ p) ps f.0 each f.1 in
        let e = eqb-true f.0 j f.2 in
        omega arith
    by (inr h) = true≢false (sym h ∙ none j (omega arith))

pub returns-clause-below : goal.returns-clause-below
returns-clause-below c = λ j k lt small.
    below_least c.as_slice.result.now (has_flag (get_or c.args.words.now c.args.place 0) k) (λ i. has_flag (get_or c.args.words.now i 0) k) (λ i. has_flag (get_or c.flag_places.new.words i 0) k) c.args.low c.flag_places.result j
    (λ i. c.flag_places.ensures.flags i k) (λ i b. c.requires.low i k b small) c.flag_places.ensures.low c.flag_places.ensures.least lt

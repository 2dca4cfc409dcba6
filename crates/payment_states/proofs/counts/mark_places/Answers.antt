use Rattle.std.proofs.Common.{◌∙◌, ℕ, ◌<◌, ◌≤◌, ◌==◌, ◌||◌, false, List, length, take, get_or, sym, ap, subst, arith, All}
use Rattle.std.specs.List.{list_any}
use Rattle.std.proofs.lemmas.List.{take_all}
use Rattle.std.proofs.lemmas.List.Elements.{All-more, All-weaker}
use Rattle.std.proofs.lemmas.List.Folds.{list_any_more}
use Rattle.payment_states.proofs.CountSteps.{marked_more, set_mark}
use Rattle.payment_states.proofs.counts.mark_places.Goals as goal

pub loop-place-preserved : goal.loop-place-preserved
loop-place-preserved c =
    let i = c.loop-place.place-index in
    let xs = c.args.places.now in
    let p = get_or xs i 0 in
    let lt = c.loop-place-test.true in
    let within : p < length c.loop-place.marks = omega (arith, c.requires i 0 lt) in (
      λ j. set_mark c.loop-place.marks p j within
          ∙ ap (λ b. (p == j) || b) (c.loop-place.invariant.0 j)
          ∙ marked_more (list_any (λ q. q == j) (take i xs)) (p == j) (get_or c.args.marks.now j false)
          ∙ ap (λ b. b || get_or c.args.marks.now j false) (sym (list_any_more (λ q. q == j) xs i 0 lt)),
      omega arith,
      All-more (λ q. c.min-low.result ≤ q) xs i 0 lt (All-weaker (λ q. c.loop-place.low ≤ q) (λ q. c.min-low.result ≤ q) (λ q h. omega arith) (take i xs) c.loop-place.invariant.2) (omega arith),
    )

pub returns-clause-least : goal.returns-clause-least
returns-clause-least c = subst (λ (ps : List ℕ). All (λ p. c.loop-place.low ≤ p) ps) (take_all c.loop-place.place-index c.args.places.now c.loop-place-test.false) c.loop-place.invariant.2

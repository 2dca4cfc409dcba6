use Rattle.std.specs.Prelude.{◌≡◌, ℕ, ◌+◌, ◌<◌, ◌≤◌, List, [], ◌∷◌, length, drop, get_or, Some}
use Rattle.std.proofs.Common.{arith, ap, sym, refl, ◌∙◌}
use Rattle.std.proofs.lemmas.List.{drop_more, drop_all}
use Rattle.pick_problem.specs.Problem.{value_of}
use Rattle.random_draw.specs.Draw.{found_from, kept_with}
use Rattle.random_draw.specs.KeptPlaces.{AreFresh, places_of}
use Rattle.random_draw.proofs.Fresh.{first_fresh, goes_on, found_now, found_later, found_none}
use Rattle.random_draw.proofs.drawing.find.Goals as goal

pub loop-place-init : goal.loop-place-init
loop-place-init c =
    record {
      kept = c.new-kept.ensures.kept c.args.problem.now;
      fresh = rw c.new-kept.ensures.places c.requires;
      same = rw c.new-kept.ensures.places refl;
    }

pub add-requires-clause-fresh : goal.add-requires-clause-fresh
add-requires-clause-fresh c =
    let below : c.loop-place.place-index < length c.args.order.now = c.loop-place-test.true in
    let parts : drop c.loop-place.place-index c.args.order.now ≡ (get_or c.args.order.now c.loop-place.place-index 0) ∷ (drop (c.loop-place.place-index + 1) c.args.order.now) = drop_more c.args.order.now c.loop-place.place-index 0 below in
    let fresh : AreFresh c.args.problem.now (places_of c.loop-place.kept) ((get_or c.args.order.now c.loop-place.place-index 0) ∷ (drop (c.loop-place.place-index + 1) c.args.order.now)) = rw parts at c.loop-place.invariant.fresh in
    first_fresh c.args.problem.now (places_of c.loop-place.kept) (get_or c.args.order.now c.loop-place.place-index 0) (drop (c.loop-place.place-index + 1) c.args.order.now) fresh

pub returns-then-value-lo : goal.returns-then-value-lo
returns-then-value-lo c =
    let below : c.loop-place.place-index < length c.args.order.now = c.loop-place-test.true in
    let parts : drop c.loop-place.place-index c.args.order.now ≡ (get_or c.args.order.now c.loop-place.place-index 0) ∷ (drop (c.loop-place.place-index + 1) c.args.order.now) = drop_more c.args.order.now c.loop-place.place-index 0 below in
    let fresh : AreFresh c.args.problem.now (places_of c.loop-place.kept) ((get_or c.args.order.now c.loop-place.place-index 0) ∷ (drop (c.loop-place.place-index + 1) c.args.order.now)) = rw parts at c.loop-place.invariant.fresh in
    let added : places_of c.add.new.self ≡ kept_with c.args.problem.now (places_of c.loop-place.kept) (get_or c.args.order.now c.loop-place.place-index 0) = c.in_ok-add.ensures.places in
    let same : found_from c.args.problem.now (places_of c.loop-place.kept) ((get_or c.args.order.now c.loop-place.place-index 0) ∷ (drop (c.loop-place.place-index + 1) c.args.order.now)) ≡ found_from c.args.problem.now [] c.args.order.now = ap (λ (rest : List ℕ). found_from c.args.problem.now (places_of c.loop-place.kept) rest) (sym parts) ∙ c.loop-place.invariant.same in
    let value : c.add.new.self.value ≡ value_of c.args.problem.now (kept_with c.args.problem.now (places_of c.loop-place.kept) (get_or c.args.order.now c.loop-place.place-index 0)) = c.in_ok-add.ensures.kept.value ∙ ap (λ (places : List ℕ). value_of c.args.problem.now places) added in
    let reaches : c.args.problem.now.lo ≤ value_of c.args.problem.now (kept_with c.args.problem.now (places_of c.loop-place.kept) (get_or c.args.order.now c.loop-place.place-index 0)) = omega (arith, value, c.if-value-lo.true, c.value.ensures, c.from-lo.ensures, c.lo.ensures) in
    ap (λ (places : List ℕ). Some places) (c.into_places.ensures ∙ added) ∙ (sym (found_now c.args.problem.now (places_of c.loop-place.kept) (get_or c.args.order.now c.loop-place.place-index 0) (drop (c.loop-place.place-index + 1) c.args.order.now) reaches) ∙ same)

pub loop-place-preserved : goal.loop-place-preserved
loop-place-preserved c =
    let below : c.loop-place.place-index < length c.args.order.now = c.loop-place-test.true in
    let parts : drop c.loop-place.place-index c.args.order.now ≡ (get_or c.args.order.now c.loop-place.place-index 0) ∷ (drop (c.loop-place.place-index + 1) c.args.order.now) = drop_more c.args.order.now c.loop-place.place-index 0 below in
    let fresh : AreFresh c.args.problem.now (places_of c.loop-place.kept) ((get_or c.args.order.now c.loop-place.place-index 0) ∷ (drop (c.loop-place.place-index + 1) c.args.order.now)) = rw parts at c.loop-place.invariant.fresh in
    let added : places_of c.add.new.self ≡ kept_with c.args.problem.now (places_of c.loop-place.kept) (get_or c.args.order.now c.loop-place.place-index 0) = c.in_ok-add.ensures.places in
    let same : found_from c.args.problem.now (places_of c.loop-place.kept) ((get_or c.args.order.now c.loop-place.place-index 0) ∷ (drop (c.loop-place.place-index + 1) c.args.order.now)) ≡ found_from c.args.problem.now [] c.args.order.now = ap (λ (rest : List ℕ). found_from c.args.problem.now (places_of c.loop-place.kept) rest) (sym parts) ∙ c.loop-place.invariant.same in
    let value : c.add.new.self.value ≡ value_of c.args.problem.now (kept_with c.args.problem.now (places_of c.loop-place.kept) (get_or c.args.order.now c.loop-place.place-index 0)) = c.in_ok-add.ensures.kept.value ∙ ap (λ (places : List ℕ). value_of c.args.problem.now places) added in
    let fails : value_of c.args.problem.now (kept_with c.args.problem.now (places_of c.loop-place.kept) (get_or c.args.order.now c.loop-place.place-index 0)) < c.args.problem.now.lo = omega (arith, value, c.if-value-lo.false, c.value.ensures, c.from-lo.ensures, c.lo.ensures) in
    record {
      kept = c.in_ok-add.ensures.kept;
      fresh = rw added (goes_on c.args.problem.now (places_of c.loop-place.kept) (get_or c.args.order.now c.loop-place.place-index 0) (drop (c.loop-place.place-index + 1) c.args.order.now) fresh);
      same = rw added (sym (found_later c.args.problem.now (places_of c.loop-place.kept) (get_or c.args.order.now c.loop-place.place-index 0) (drop (c.loop-place.place-index + 1) c.args.order.now) fails) ∙ same);
    }

pub returns : goal.returns
returns c =
    let ended : drop c.loop-place.place-index c.args.order.now ≡ [] = drop_all c.loop-place.place-index c.args.order.now (omega (arith, c.loop-place-test.false)) in
    sym (found_none c.args.problem.now (places_of c.loop-place.kept)) ∙ (ap (λ (rest : List ℕ). found_from c.args.problem.now (places_of c.loop-place.kept) rest) (sym ended) ∙ c.loop-place.invariant.same)

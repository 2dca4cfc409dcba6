use Rattle.std.proofs.Common.{◌≡◌, ℕ, List, [], ◌∷◌, ◌++◌, ◌-◌, ◌+◌, ◌/◌, sym, subst}
use Rattle.pick_problem.specs.Trying.{places_from}
use Rattle.pick_problem.proofs.TryLaws.{set_place, clear_place}
use Rattle.pick_problem.proofs.trying.places_of.Goals as goal
use Rattle.pick_problem.proofs.trying.places_of.Goals.{then-bits-eq1+in_ok-push, else-bits-eq1}

pub loop-place-preserved : goal.loop-place-preserved
loop-place-preserved c =
    let all = places_from c.args.count 0 c.args.number in
    let place = c.loop-place.place in
    let bits = c.loop-place.bits in
    let found = c.loop-place.places.items in
    elim c.if-bits-eq1.branch [
      | then-bits-eq1+in_ok-push w ↦
          let e : c.if-bits-eq1.places.items ≡ found ++ place ∷ [] = cc (w.places-is, w.in_ok-push.ensures.items) in
          subst (λ (r : List ℕ). r ++ places_from (c.args.count - (place + 1)) (place + 1) (bits / 2) ≡ all) (sym e) (set_place c.args.count place bits found all c.loop-place-test.true w.if-bits-eq1.true c.loop-place.invariant)
      | else-bits-eq1 w ↦
          let e : c.if-bits-eq1.places.items ≡ found = cc (w.places-is) in
          subst (λ (r : List ℕ). r ++ places_from (c.args.count - (place + 1)) (place + 1) (bits / 2) ≡ all) (sym e) (clear_place c.args.count place bits found all c.loop-place-test.true w.if-bits-eq1.false c.loop-place.invariant)
    ]

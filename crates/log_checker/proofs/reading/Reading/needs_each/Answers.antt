use Rattle.std.proofs.Common.{ℕ, ◌≡◌, ◌+◌, ◌-◌, List, length, Some, arith, ap, ◌∙◌}
use Rattle.std.specs.Prelude.{slice_get}
use Rattle.std.proofs.lemmas.Bool.{lt-ltb, ltb-true}
use Rattle.pick_problem.specs.declared.item.Item.{Item}
use Rattle.pick_problem.specs.Pool.{item_at}
use Rattle.log_checker.proofs.MoveLaws.{rises}
use Rattle.log_checker.proofs.TestLaws.{last_below, needs_last}
use Rattle.log_checker.proofs.reading.Reading.needs_each.Goals as goal

pub item-item-requires : goal.item-item-requires
item-item-requires c =
    let last : Some c.in-Some.place.now ≡ slice_get c.args.self.now.places.items (length c.args.self.now.places.items - 1) =
    c.in-Some.ensures.value ∙ ap (λ (q : List ℕ). slice_get q (length q - 1)) c.as_slice.ensures.value in
    last_below (length c.args.claim.now.problem.items) c.args.self.now.places.items c.in-Some.place.now (rises c.args.claim.now.problem c.args.self.now c.requires) last

pub returns-in-Some : goal.returns-in-Some
returns-in-Some c =
    let p = c.args.claim.now.problem in
    let q : List ℕ = c.args.self.now.places.items in
    let last : Some c.in-Some.place.now ≡ slice_get q (length q - 1) = c.in-Some.ensures.value ∙ ap (λ (r : List ℕ). slice_get r (length r - 1)) c.as_slice.ensures.value in
    let item : c.item-item.result.value ≡ (item_at p.items c.in-Some.place.now).value = ap (λ (x : Item). x.value) c.item-item.ensures.item in
    let needs = needs_last p c.item-item.ensures.problem q c.in-Some.place.now (rises p c.args.self.now c.requires) last in (
      λ l. needs.0 (omega (arith, ltb-true c.args.self.now.value (c.from.result + c.from-in-Some.result) l, item, c.requires.value, c.from.ensures, c.from-in-Some.ensures, c.lo.ensures.lo)),
      λ h. lt-ltb c.args.self.now.value (c.from.result + c.from-in-Some.result) (omega (arith, needs.1 h, item, c.requires.value, c.from.ensures, c.from-in-Some.ensures, c.lo.ensures.lo)),
    )

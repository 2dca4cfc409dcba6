use Rattle.std.proofs.Common.{ℕ, ◌≡◌, ◌-◌, ◌<◌, arith, true, length, Some}
use Rattle.std.specs.Prelude.{slice_get}
use Rattle.std.proofs.lemmas.Bool.{lt-ltb, ltb-true}
use Rattle.std.proofs.lemmas.Grind.{common_steps}
use Rattle.wide_check.proofs.TestLaws.{avoids_before, last_is_chosen, twin_next}
use Rattle.wide_check.proofs.reading.Reading.is_behind_twin.Goals as goal

pub returns-then-not-ends_with : goal.returns-then-not-ends_with
returns-then-not-ends_with c =
    let t : ℕ = c.args.self.now.next in
    let q = c.args.self.now.places.items in
    let some : 0 < t = omega arith in
    let below : t < length c.args.claim.now.problem.items = omega (arith, c.count.ensures.count) in
    let other : slice_get q (length q - 1) ≡ Some (t - 1) → ⊥ = λ e. let chosen = c.ends_with.ensures.1 e in grind (arith, common_steps, chosen, c.if-not-ends_with.true) in
    let twin = twin_next c.args.claim.now.problem t c.run_end.result some below c.run_end.ensures.end in (
      λ l. (some, below, avoids_before t q some c.requires.rising other, twin.0 (ltb-true t c.run_end.result l)),
      λ h. lt-ltb t c.run_end.result (twin.1 h.3),
    )

pub returns-else-not-ends_with : goal.returns-else-not-ends_with
returns-else-not-ends_with c = (
  λ l. absurd (let chosen : c.ends_with.result ≡ true = c.if-not-ends_with.false in grind (arith, common_steps, chosen, l)),
  λ h. absurd (last_is_chosen c.args.self.now.next c.args.self.now.places.items (c.ends_with.ensures.0 c.if-not-ends_with.false) h.2),
)

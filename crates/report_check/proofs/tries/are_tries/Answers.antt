use Rattle.std.specs.Prelude.{ℕ, List, ◌≡◌, ◌+◌, ◌==◌, filter, length}
use Rattle.std.proofs.Common.{arith, ap, refl, ◌∙◌}
use Rattle.closing_log.specs.Log.{PlainSection}
use Rattle.report_check.proofs.FittingLaws.{left_iff, never_true}
use Rattle.report_check.proofs.TriesLaws.{tries_at, tries_counted, tries_halt, tries_next, tries_over}
use Rattle.report_check.proofs.tries.are_tries.Goals as goal

abbrev counted : List ℕ → ℕ
counted bytes = length (filter (λ (b : ℕ). b == 73) bytes)

pub returns-in-None : goal.returns-in-None
returns-in-None c =
    let own : c.tries_in.result ≡ tries_at c.section-item.result = c.tries_in.ensures ∙ tries_counted c.deref.result.now ∙ ap counted (c.deref.ensures.value ∙ ap (λ (s : PlainSection). s.letters) c.section.view_is) in
    never_true (tries_halt c.args.tries c.loop-section.left c.tries_in.result c.args.sections.now c.loop-section.section-index c.section-item.result c.loop-section-test.true c.section-item.is c.loop-section.invariant own c.in-None.ensures)

pub loop-section-preserved : goal.loop-section-preserved
loop-section-preserved c =
    let own : c.tries_in.result ≡ tries_at c.section-item.result = c.tries_in.ensures ∙ tries_counted c.deref.result.now ∙ ap counted (c.deref.ensures.value ∙ ap (λ (s : PlainSection). s.letters) c.section.view_is) in
    let sum : c.in-Some.rest + c.tries_in.result ≡ c.loop-section.left = omega (arith, c.in-Some.ensures) in
    tries_next c.args.tries c.loop-section.left c.in-Some.rest c.tries_in.result c.args.sections.now c.loop-section.section-index c.section-item.result c.loop-section-test.true c.section-item.is c.loop-section.invariant own sum

pub returns : goal.returns
returns c = left_iff c.loop-section.left _ refl (tries_over c.args.tries c.loop-section.left c.args.sections.now c.loop-section.section-index c.loop-section-test.false c.loop-section.invariant)

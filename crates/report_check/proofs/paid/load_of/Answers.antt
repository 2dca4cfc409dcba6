use Rattle.std.specs.Prelude.{option_copied}
use Rattle.std.proofs.Common.{sym, ap, ◌∙◌}
use Rattle.fund_steps.specs.Listed.{burden_in, presets_in}
use Rattle.fund_steps.specs.Plan.{PlainPlan}
use Rattle.fund_steps.specs.Terms.{load_of}
use Rattle.report_check.proofs.EvenLaws.{given_load, row_load, row_roomy}
use Rattle.report_check.proofs.paid.load_of.Goals as goal

pub returns-then-number-eq0 : goal.returns-then-number-eq0
returns-then-number-eq0 c =
    given_load c.args.funding.now c.args.number c.load.result c.if-number-eq0.true
    (c.load.ensures.value ∙ ap (λ (q : PlainPlan). load_of q.request q.change (presets_in q) (burden_in q)) c.funds.ensures) c.load.ensures.fit

pub load_at-requires : goal.load_at-requires
load_at-requires c =
    record { roomy = row_roomy c.args.funding.now c.args.number c.in-Some.row.now c.keeps_rules.ensures (sym c.requires ∙ ap option_copied c.in-Some.is) }

pub returns-in_ok-load-in-Some : goal.returns-in_ok-load-in-Some
returns-in_ok-load-in-Some c =
    row_load c.args.funding.now c.args.number c.in-Some.row.now c.in_ok-load-in-Some.load (sym c.requires ∙ ap option_copied c.in-Some.is)
    c.in_ok-load-in-Some.ensures.value c.in_ok-load-in-Some.ensures.fits c.in_ok-load-in-Some.ensures.paid

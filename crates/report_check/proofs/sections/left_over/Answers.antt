use Rattle.report_check.proofs.FittingLaws.{fit_done, fit_halt, fit_next}
use Rattle.report_check.proofs.sections.left_over.Goals as goal

pub returns-in_default : goal.returns-in_default
returns-in_default c =
    fit_halt c.args.steps.now c.fitting.step-index c.step-item.result c.args.sections.now c.fitting.rest.now c.fitting-test.true c.step-item.is c.fitting.invariant c.in_default.ensures

pub fitting-preserved : goal.fitting-preserved
fitting-preserved c =
    fit_next c.args.steps.now c.fitting.step-index c.step-item.result c.args.sections.now c.fitting.rest.now c.in-Some.next.now c.fitting-test.true c.step-item.is c.fitting.invariant c.in-Some.ensures

pub returns : goal.returns
returns c = fit_done c.args.steps.now c.fitting.step-index c.args.sections.now c.fitting.rest.now c.fitting-test.false c.fitting.invariant

use Rattle.report_check.proofs.CheckedLaws.{checked_halt, checked_most, checked_next, checked_over}
use Rattle.report_check.proofs.checked.check_all.Goals as goal

pub refusal-requires : goal.refusal-requires
refusal-requires c = checked_most c.args.steps.now c.args.sections.now c.checking.step-index c.checking.rest.now 1_000 c.requires.few c.checking.invariant

pub returns-in-Err-clause-refused : goal.returns-in-Err-clause-refused
returns-in-Err-clause-refused c =
    checked_halt c.args.steps.now c.args.sections.now c.checking.step-index c.step-item.result c.checking.rest.now c.in-Err.why c.refusal.result c.checking-test.true c.step-item.is c.checking.invariant c.in-Err.ensures.refused c.refusal.ensures.memory c.refusal.ensures.log

pub checking-preserved : goal.checking-preserved
checking-preserved c =
    checked_next c.args.steps.now c.args.sections.now c.checking.step-index c.step-item.result c.checking.rest.now c.in-Ok.next.now c.checking-test.true c.step-item.is c.checking.invariant c.in-Ok.ensures.checked

pub returns-clause-proved : goal.returns-clause-proved
returns-clause-proved c = checked_over c.args.steps.now c.args.sections.now c.checking.step-index c.checking.rest.now c.checking-test.false c.requires.fit c.checking.invariant

use Rattle.std.proofs.lemmas.Result.{err_from_is_err_and}
use Rattle.report_check.proofs.VouchedLaws.{accepted_vouches}
use Rattle.command_check.proofs.StopLaws.{fault_stops}
use Rattle.command_check.proofs.judging.judge.Goals as goal

pub returns-in_err-judge-clause-stop : goal.returns-in_err-judge-clause-stop
returns-in_err-judge-clause-stop c =
    let p = err_from_is_err_and c.from_residual.result c.from_residual.ensures.1 in
    rw (p.1, p.2) (fault_stops c.args.examiner.now c.args.pair.now.report c.args.pair.now.log.items c.in_err-judge.field-0.0 (rw c.deref.ensures.value at c.in_err-judge.ensures.fault))

pub returns-clause-vouches : goal.returns-clause-vouches
returns-clause-vouches c =
    accepted_vouches c.args.examiner.now c.args.pair.now.report c.args.pair.now.log.items c.keeps_rules.ensures.plan c.keeps_rules.ensures.steps (rw c.deref.ensures.value at c.in_ok-judge.ensures.accepted)

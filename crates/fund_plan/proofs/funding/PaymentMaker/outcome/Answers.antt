use Rattle.std.proofs.Common.{subst, sym}
use Rattle.fund_steps.specs.Plan.{IsPlan}
use Rattle.fund_plan.specs.Answer.{ArePayments, HasSelection}
use Rattle.fund_plan.proofs.OutcomeLaws.{end_done}
use Rattle.fund_plan.proofs.funding.PaymentMaker.outcome.Goals as goal

pub returns-clause-pays : goal.returns-clause-pays
returns-clause-pays c =
    let p = c.args.self.now in
    subst (ArePayments p) (sym c.in_ok-outcome.ensures) (end_done p c.args.end.now (subst IsPlan c.self.view_is c.keeps_rules.ensures) c.requires).payments

pub returns-clause-fits : goal.returns-clause-fits
returns-clause-fits c =
    let p = c.args.self.now in
    subst (HasSelection p.request) (sym c.in_ok-outcome.ensures) (end_done p c.args.end.now (subst IsPlan c.self.view_is c.keeps_rules.ensures) c.requires).selection

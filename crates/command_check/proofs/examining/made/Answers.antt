use Rattle.std.proofs.Common.{◌≡◌, ◌∙◌, ap, subst}
use Rattle.std.proofs.lemmas.Result.{err_from_is_err_and}
use Rattle.fund_steps.specs.Plan.{IsPlan, PlainPlan}
use Rattle.wallet_text.specs.PlainWallet.{PlainWallet}
use Rattle.command_inputs.proofs.PlanLaws.{plan_stops_at, same_plan}
use Rattle.command_inputs.proofs.ReplaceLaws.{replaces_paid}
use Rattle.command_inputs.specs.Outcome.{plan_of}
use Rattle.command_inputs.specs.Replacing.{PaysTheBurden}
use Rattle.command_check.proofs.examining.made.Goals as goal

pub returns-in_err-examiner-clause-stop : goal.returns-in_err-examiner-clause-stop
returns-in_err-examiner-clause-stop c =
    let p = err_from_is_err_and c.from_residual-in_err-examiner.result c.from_residual-in_err-examiner.ensures.1 in
    let x = c.in_ok-candidates.ensures in
    rw (p.1, p.2) (plan_stops_at c.args.held c.args.request _ _ _ c.in_err-examiner.field-0.0 (ap (λ (w : PlainWallet). w.change) c.wallet.view_is) x.candidates x.bump c.in_err-examiner.ensures.fault)

pub returns-clause-made : goal.returns-clause-made
returns-clause-made c =
    let x = c.in_ok-candidates.ensures in
    c.in_ok-examiner.ensures.made ∙ same_plan c.args.held c.args.request _ _ _ (ap (λ (w : PlainWallet). w.change) c.wallet.view_is) x.candidates x.bump

pub returns-clause-replaces : goal.returns-clause-replaces
returns-clause-replaces c = λ f pays.
    let x = c.in_ok-candidates.ensures in
    let is : c.in_ok-examiner.examiner ≡ plan_of c.args.held c.args.request = c.in_ok-examiner.ensures.made ∙ same_plan c.args.held c.args.request _ _ _ (ap (λ (w : PlainWallet). w.change) c.wallet.view_is) x.candidates x.bump in
    replaces_paid c.args.held c.args.request f c.requires.held c.keeps_rules.ensures c.requires.taken (subst IsPlan is c.keeps_rules-2.ensures.plan) (subst (λ (p : PlainPlan). PaysTheBurden p f) is pays)

use Rattle.std.proofs.Common.{◌≡◌, Result, Ok, Err, ap}
use Rattle.std.proofs.lemmas.Result.{err_from_is_err_and}
use Rattle.command_end.specs.Names.{plain_sources}
use Rattle.command_inputs.specs.Names.{plain_payment}
use Rattle.command_inputs.specs.declared.refusal.Stop.{Stop as FundStop}
use Rattle.command_resume.proofs.GoingLaws.{plan_stopped}
use Rattle.command_resume.proofs.resuming.prepare.Goals as goal

same_stop : {T : Type 0} (a b : FundStop) → ◌≡◌ {A = Result T FundStop} (Err a) (Err b) → a ≡ b
same_stop a b e = cc

ok_is_no_error : {T E : Type 0} (a : T) (b : E) → ◌≡◌ {A = Result T E} (Ok a) (Err b) → ⊥
ok_is_no_error a b e = cc

pub returns-in_err-plan-clause-stop : goal.returns-in_err-plan-clause-stop
returns-in_err-plan-clause-stop g c =
    let p = err_from_is_err_and c.from_residual-in_err-plan.result c.from_residual-in_err-plan.ensures.1 in
    let i = c.in_ok-inputs.inputs in
    rw (p.1, p.2) (plan_stopped _ (plain_sources c.args.sources.now) (plain_payment c.args.payment.now) i.held i.request (g.H.Shelf.view c.args.shelf.now) c.in_ok-inputs.ensures.held (g.H.Shelf.view c.read_inputs_with_digest.new.shelf) c.in_err-plan.field-0.0 c.in_err-plan.ensures.stop)

pub returns-clause-ready : goal.returns-clause-ready
returns-clause-ready g c = record {
  asked = c.in_ok-inputs.ensures.held;
  planned = record { is = c.in_ok-plan.ensures.plan.plan; rules = c.keeps_rules.ensures; steps = c.keeps_steps.ensures };
  named = c.in_ok-inputs.ensures.digest;
}

-- ---- failed reads

pub returns-in_err-inputs-clause-all_read : goal.returns-in_err-inputs-clause-all_read
returns-in_err-inputs-clause-all_read g c =
    let p = err_from_is_err_and c.from_residual.result c.from_residual.ensures.1 in
    rw (p.1, p.2) (λ none. c.in_err-inputs.ensures.all_read (λ file e. none file (ap (λ (x : FundStop). Err x) (same_stop _ _ e))))

pub returns-in_err-plan-clause-all_read : goal.returns-in_err-plan-clause-all_read
returns-in_err-plan-clause-all_read g c = λ none. c.in_ok-inputs.ensures.all_read (λ file e. ok_is_no_error _ _ e)

pub returns-clause-all_read : goal.returns-clause-all_read
returns-clause-all_read g c = λ none. c.in_ok-inputs.ensures.all_read (λ file e. ok_is_no_error _ _ e)

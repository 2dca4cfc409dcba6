-- What a turn leaves of a job.
use Rattle.std.specs.Prelude.{◌≡◌, Option, Some, IfSome, Result, Ok, Err, OnErr, OnOk}
use Rattle.std.proofs.Common.{sym, ap, ◌∙◌, subst}
use Rattle.fund_plan.specs.Answer.{ArePayments, HasSelection}
use Rattle.fund_plan.specs.declared.outcome.Outcome.{Outcome}
use Rattle.fund_steps.specs.Plan.{PlainPlan}
use Rattle.desk_machine.specs.Rules.{IsAnswered, IsJob}
use Rattle.desk_machine.specs.State.{Job}
use Rattle.wallet_text.specs.declared.wallet.Watch.{Watch}

-- the answer of a turn is a payment of its plan, if it is one
pub answered_now : (new : Job) (p : PlainPlan) (o : Outcome) → new.state.plan ≡ p → new.answer ≡ Some o → ArePayments p o → HasSelection p.request o → IsAnswered new
answered_now new p o plan answer pays fits = record {
  pays = subst (λ (x : Option Outcome). IfSome x (ArePayments new.state.plan)) (sym answer) (subst (λ (q : PlainPlan). ArePayments q o) (sym plan) pays);
  fits = subst (λ (x : Option Outcome). IfSome x (HasSelection new.state.plan.request)) (sym answer) (subst (λ (q : PlainPlan). HasSelection q.request o) (sym plan) fits);
}

pub job_still : (change : Watch) (old new : Job) → new.state.plan ≡ old.state.plan → IsAnswered new → IsJob change old → IsJob change new
job_still change old new plan answered h = record { answered = answered; change_is = ap (λ (p : PlainPlan). p.change) plan ∙ h.change_is }

-- ---- what is said of an answer alone, or of being out of memory

pub on_ok : {A E : Type 0} (r : Result A E) (P Q : Type 0) → (P → Q) → OnOk r P → OnOk r Q
on_ok (Ok a) P Q f h = f h
on_ok (Err e) P Q f h = h

pub on_err : {A E : Type 0} (r : Result A E) (P Q : Type 0) → (P → Q) → OnErr r P → OnErr r Q
on_err (Ok a) P Q f h = h
on_err (Err e) P Q f h = f h

pub on_any_err : {A E : Type 0} (r : Result A E) (P : Type 0) → P → OnErr r P
on_any_err (Ok a) P h = tt
on_any_err (Err e) P h = h

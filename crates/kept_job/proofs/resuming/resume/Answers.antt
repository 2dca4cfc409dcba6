use Rattle.std.proofs.Common.{◌∙◌, ap, refl}
use Rattle.std.proofs.lemmas.Result.{err_from_is_err_and}
use Rattle.fund_plan.specs.State.{PlanState, moved}
use Rattle.kept_job.proofs.LoadLaws.{found_at, has_resumed, left_alike, left_checked, unrestored}
use Rattle.kept_job.proofs.resuming.resume.Goals as goal
use Rattle.kept_job.proofs.resuming.resume.Goals.{then-is_settled+in_ok-verify, else-is_settled}

pub returns-clause-gone : goal.returns-clause-gone
returns-clause-gone g c =
    has_resumed _ _ _ _ _ c.in_ok-saved.field-0 _ _ c.in_ok-saved.ensures.loaded c.in_ok-saved.ensures.counted c.in_ok-saved.ensures.can c.in_ok-restore.ensures.accepts
    (c.in_ok-outcome.ensures.moved ∙ ap (λ (x : PlanState). moved x c.args.budget) c.in_ok-restore.ensures.stands)
    c.in_ok-outcome.ensures.told
    (elim c.if-is_settled.branch [
      | then-is_settled+in_ok-verify w ↦ (λ settled. w.in_ok-verify.ensures.accepted)
      | else-is_settled w ↦ (λ settled. absurd (w.if-is_settled.ensures settled))
    ])
    c.in_ok-saved.ensures.read

pub returns-in_err-restore-clause-fault : goal.returns-in_err-restore-clause-fault
returns-in_err-restore-clause-fault g c =
    let p = err_from_is_err_and c.from_residual-in_err-restore.result c.from_residual-in_err-restore.ensures.1 in
    rw (p.1, p.2) (λ told. unrestored _ _ _ _ _ _ _ (c.in_ok-saved.ensures.loaded told) _ c.in_err-restore.ensures.refuses)

pub returns-in_err-verify-clause-fault : goal.returns-in_err-verify-clause-fault
returns-in_err-verify-clause-fault g c =
    let p = err_from_is_err_and c.from_residual-in_err-verify.result c.from_residual-in_err-verify.ensures.1 in
    rw (p.1, p.2)
    (λ told.
    found_at _ _ _ _ _ _ _ (c.in_ok-saved.ensures.loaded told) _ _ _ c.in_ok-restore.ensures.accepts
    (c.in_ok-outcome.ensures.moved ∙ ap (λ (x : PlanState). moved x c.args.budget) c.in_ok-restore.ensures.stands)
    c.in_ok-outcome.ensures.told
    c.if-is_settled.ensures
    c.in_err-verify.ensures.refused)

pub returns-in_err-saved-clause-stays : goal.returns-in_err-saved-clause-stays
returns-in_err-saved-clause-stays g c =
    let p = err_from_is_err_and c.from_residual.result c.from_residual.ensures.1 in
    rw (p.1, p.2) (left_alike _ _ _ refl)

pub returns-in_err-restore-clause-stays : goal.returns-in_err-restore-clause-stays
returns-in_err-restore-clause-stays g c =
    let p = err_from_is_err_and c.from_residual-in_err-restore.result c.from_residual-in_err-restore.ensures.1 in
    rw (p.1, p.2) (left_alike _ _ _ c.in_err-restore.ensures.same)

pub returns-in_err-verify-clause-stays : goal.returns-in_err-verify-clause-stays
returns-in_err-verify-clause-stays g c =
    let p = err_from_is_err_and c.from_residual-in_err-verify.result c.from_residual-in_err-verify.ensures.1 in
    rw (p.1, p.2) (left_checked _ _ _ _ _ c.in_err-verify.ensures.refused)

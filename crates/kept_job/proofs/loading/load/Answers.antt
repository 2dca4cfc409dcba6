use Rattle.std.proofs.Common.{ℕ, List, subst, sym, ap}
use Rattle.std.proofs.lemmas.Result.{err_from_is_err_and}
use Rattle.closing_log.specs.LogText.{IsLogText}
use Rattle.closing_log.specs.Gives.{IsLogTextFault}
use Rattle.search_keep.specs.SavedText.{PlainSaved}
use Rattle.kept_job.specs.Jobs.{IsLoaded, IsOfLog}
use Rattle.kept_job.specs.Loading.{IsOfOther}
use Rattle.kept_job.specs.Saving.{PlainBehind}
use Rattle.kept_job.proofs.LoadLaws.{fault_after, not_due, not_joined, not_read, not_same, not_saved, parts_after}
use Rattle.kept_job.proofs.loading.load.Goals as goal

pub returns-clause-loaded : goal.returns-clause-loaded
returns-clause-loaded g c = λ told.
    subst (λ (b : PlainBehind). IsLoaded c.args.now.now ((g.K.Keeper.view c.args.keeper.now).jobs c.args.job.now) c.in_ok-saved.saved c.in_ok-log.log b.bytes) (sym c.of-behind.ensures)
    (record {
      due = record { has = c.in_ok-saved.ensures.saved told; due = c.in_ok-check_due.ensures.due };
      parts = parts_after _ _ c.args.job.now _ _ _ (c.in_ok-saved.ensures.same told) (ap (λ (s : PlainSaved). s.parts) c.saved.view_is) (c.in_ok-bytes.ensures.parts told);
      digest = subst (IsOfLog c.in_ok-saved.saved) (c.in_ok-digest.ensures _ c.in_ok-bytes.ensures.hashed) c.in_ok-check_log.ensures.same;
      text = subst (λ (xs : List ℕ). IsLogText xs c.in_ok-log.log) c.deref.ensures.value c.in_ok-log.ensures.found;
    })

pub returns-in_err-saved-clause-fault : goal.returns-in_err-saved-clause-fault
returns-in_err-saved-clause-fault g c =
    let p = err_from_is_err_and c.from_residual.result c.from_residual.ensures.1 in
    rw (p.1, p.2) (λ told. not_saved _ _ _ (c.in_err-saved.ensures.fault told))

pub returns-in_err-check_due-clause-fault : goal.returns-in_err-check_due-clause-fault
returns-in_err-check_due-clause-fault g c =
    let p = err_from_is_err_and c.from_residual-in_err-check_due.result c.from_residual-in_err-check_due.ensures.1 in
    rw (p.1, p.2) (λ told. not_due _ _ _ _ (c.in_ok-saved.ensures.saved told) c.in_err-check_due.ensures.fault)

pub returns-in_err-bytes-clause-fault : goal.returns-in_err-bytes-clause-fault
returns-in_err-bytes-clause-fault g c =
    let p = err_from_is_err_and c.from_residual-in_err-bytes.result c.from_residual-in_err-bytes.ensures.1 in
    rw (p.1, p.2)
    (λ told.
    not_joined _ _ c.in_ok-saved.saved _ (record { has = c.in_ok-saved.ensures.saved told; due = c.in_ok-check_due.ensures.due })
    (fault_after _ _ c.args.job.now _ _ _ (c.in_ok-saved.ensures.same told) (ap (λ (s : PlainSaved). s.parts) c.saved.view_is) (c.in_err-bytes.ensures.fault told)))

pub returns-in_err-check_log-clause-fault : goal.returns-in_err-check_log-clause-fault
returns-in_err-check_log-clause-fault g c =
    let p = err_from_is_err_and c.from_residual-in_err-check_log.result c.from_residual-in_err-check_log.ensures.1 in
    rw (p.1, p.2)
    (λ told.
    not_same _ _ c.in_ok-saved.saved c.in_ok-bytes.field-0.bytes.items _ (record { has = c.in_ok-saved.ensures.saved told; due = c.in_ok-check_due.ensures.due })
    (parts_after _ _ c.args.job.now _ _ _ (c.in_ok-saved.ensures.same told) (ap (λ (s : PlainSaved). s.parts) c.saved.view_is) (c.in_ok-bytes.ensures.parts told))
    (subst (λ (digest : List ℕ). IsOfOther c.in_ok-saved.saved digest c.in_err-check_log.field-0.0) (c.in_ok-digest.ensures _ c.in_ok-bytes.ensures.hashed) c.in_err-check_log.ensures.fault))

pub returns-in_err-log-clause-fault : goal.returns-in_err-log-clause-fault
returns-in_err-log-clause-fault g c =
    let p = err_from_is_err_and c.from_residual-in_err-log.result c.from_residual-in_err-log.ensures.1 in
    rw (p.1, p.2)
    (λ told.
    not_read _ _ c.in_ok-saved.saved c.in_ok-bytes.field-0.bytes.items _ (record { has = c.in_ok-saved.ensures.saved told; due = c.in_ok-check_due.ensures.due })
    (parts_after _ _ c.args.job.now _ _ _ (c.in_ok-saved.ensures.same told) (ap (λ (s : PlainSaved). s.parts) c.saved.view_is) (c.in_ok-bytes.ensures.parts told))
    (subst (IsOfLog c.in_ok-saved.saved) (c.in_ok-digest.ensures _ c.in_ok-bytes.ensures.hashed) c.in_ok-check_log.ensures.same)
    (subst (λ (xs : List ℕ). IsLogTextFault xs c.in_err-log.field-0.0) c.deref.ensures.value c.in_err-log.ensures.fault))

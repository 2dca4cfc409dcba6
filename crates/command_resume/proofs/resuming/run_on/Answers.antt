use Rattle.std.proofs.Common.{◌≡◌, Result, Err, ap, refl}
use Rattle.std.proofs.lemmas.Result.{err_from_is_err_and}
use Rattle.request_text.specs.PlainRequest.{PlainRequest}
use Rattle.kept_job.specs.declared.fault.KeptFault.{KeptFault}
use Rattle.kept_job.specs.declared.resuming.Resumed.{Resumed}
use Rattle.command_resume.proofs.GoingLaws.{has_ended, refused_on, run_on}
use Rattle.command_inputs.specs.declared.funding.Ending.{Ending}
use Rattle.command_resume.specs.declared.resuming.LoadedJob.{LoadedJob}
use Rattle.command_resume.proofs.LeavingLaws.{can_end, concluded_on}
use Rattle.command_resume.specs.Runs.{Run}
use Rattle.command_resume.proofs.resuming.run_on.Goals as goal

same_fault : (a b : KeptFault) → ◌≡◌ {A = Result (Ending LoadedJob) KeptFault} (Err a) (Err b) → a ≡ b
same_fault a b e = cc

same_error : (a b : KeptFault) → ◌≡◌ {A = Result Resumed KeptFault} (Err a) (Err b) → a ≡ b
same_error a b e = cc

pub returns-in_err-resumed-clause-fault : goal.returns-in_err-resumed-clause-fault
returns-in_err-resumed-clause-fault g c =
    let p = err_from_is_err_and c.from_residual.result c.from_residual.ensures.1 in
    rw (p.1, p.2)
    (refused_on _ c.args.ready.plan.plan c.args.ready.digest _ c.request.inside.tries c.args.ready.request.tries c.in_err-resumed.field-0.0 (ap (λ (r : PlainRequest). r.tries) c.request.view_is)
    c.in_err-resumed.ensures.fault)

pub returns-in_err-resumed-clause-cause : goal.returns-in_err-resumed-clause-cause
returns-in_err-resumed-clause-cause g c =
    let p = err_from_is_err_and c.from_residual.result c.from_residual.ensures.1 in
    rw (p.1, p.2) (λ e. c.in_err-resumed.ensures.cause (ap (λ (x : KeptFault). Err x) (same_fault _ _ e)))

pub returns-in_err-resumed-clause-unfailed : goal.returns-in_err-resumed-clause-unfailed
returns-in_err-resumed-clause-unfailed g c =
    let p = err_from_is_err_and c.from_residual.result c.from_residual.ensures.1 in
    rw (p.1, p.2) (λ other. c.in_err-resumed.ensures.unfailed (λ e. other (ap (λ (x : KeptFault). Err x) (same_error _ _ e))))

pub returns-in_err-ending-clause-fault : goal.returns-in_err-ending-clause-fault
returns-in_err-ending-clause-fault g c =
    let p = err_from_is_err_and c.from_residual-in_err-ending.result c.from_residual-in_err-ending.ensures.1 in
    rw (p.1, p.2) (λ t. tt)

pub ends-requires : goal.ends-requires
ends-requires g c =
    let e = c.in_ok-resumed.ensures in
    record {
      held = c.requires.held;
      can =
          can_end c.args.ready.held c.args.ready.request (record { plan = c.resume.new.plan; digest = c.args.ready.digest; resumed = c.in_ok-resumed.resumed }) c.requires.held c.keeps_rules.ensures
          (run_on _ c.args.ready c.requires.plan _ c.request.inside.tries (ap (λ (r : PlainRequest). r.tries) c.request.view_is)
          (record { plan = c.resume.new.plan; digest = c.args.ready.digest; resumed = c.in_ok-resumed.resumed }) refl e.gone e.pays e.fits);
    }

pub returns-clause-ends : goal.returns-clause-ends
returns-clause-ends g c =
    let e = c.in_ok-resumed.ensures in
    let run : Run = record { plan = c.resume.new.plan; digest = c.args.ready.digest; resumed = c.in_ok-resumed.resumed } in
    let tries = ap (λ (r : PlainRequest). r.tries) c.request.view_is in
    has_ended _ c.args.ready c.requires.plan _ c.request.inside.tries tries run refl e.gone e.pays c.in_ok-ending.ending
    (concluded_on c.args.ready.held c.args.ready.request run _ c.in_ok-ending.ending refl refl c.requires.held c.keeps_rules.ensures c.requires.taken
    (run_on _ c.args.ready c.requires.plan _ c.request.inside.tries tries run refl e.gone e.pays e.fits) c.in_ok-ending.ensures)

use Rattle.std.proofs.Common.{◌≡◌, Result, Err, ap}
use Rattle.std.proofs.lemmas.Result.{err_from_is_err_and}
use Rattle.kept_job.specs.declared.fault.KeptFault.{KeptFault}
use Rattle.command_end.specs.Names.{plain_sources}
use Rattle.command_inputs.specs.Names.{plain_payment}
use Rattle.command_resume.proofs.GoingLaws.{is_ended, stopped_on}
use Rattle.command_inputs.specs.declared.funding.Ending.{Ending}
use Rattle.command_resume.specs.declared.resuming.LoadedJob.{LoadedJob}
use Rattle.command_resume.specs.declared.stop.Stop.TheVariants as stops
use Rattle.command_resume.proofs.resuming.go_on.Goals as goal

same_fault : (a b : KeptFault) → ◌≡◌ {A = Result (Ending LoadedJob) KeptFault} (Err a) (Err b) → a ≡ b
same_fault a b e = cc

pub returns-in_err-ready-clause-stop : goal.returns-in_err-ready-clause-stop
returns-in_err-ready-clause-stop g c =
    let p = err_from_is_err_and c.from_residual.result c.from_residual.ensures.1 in
    rw (p.1, p.2) c.in_err-ready.ensures.stop

pub returns-in_err-ending-clause-unfailed : goal.returns-in_err-ending-clause-unfailed
returns-in_err-ending-clause-unfailed g c =
    let p = err_from_is_err_and c.from_residual-in_err-ending.result c.from_residual-in_err-ending.ensures.1 in
    rw (p.1, p.2) (λ other. c.in_err-ending.ensures.unfailed (λ e. other (ap (λ (x : KeptFault). Err (stops.Kept x)) (same_fault _ _ e))))

pub returns-in_err-ending-clause-stop : goal.returns-in_err-ending-clause-stop
returns-in_err-ending-clause-stop g c =
    let p = err_from_is_err_and c.from_residual-in_err-ending.result c.from_residual-in_err-ending.ensures.1 in
    rw (p.1, p.2) (stopped_on _ (plain_sources c.args.sources.now) (plain_payment c.args.payment.now) (g.H.Shelf.view c.args.shelf.now) c.in_ok-ready.ready c.in_ok-ready.ensures.ready _ c.args.job.now (g.K.Keeper.view c.args.keeper.now) (g.K.Keeper.view c.run_on.new.keeper)
    c.in_err-ending.field-0.0 (λ e. c.in_err-ending.ensures.cause (ap (λ (x : KeptFault). Err x) e)) c.in_err-ending.ensures.fault)

pub returns-clause-ends : goal.returns-clause-ends
returns-clause-ends g c =
    is_ended _ (plain_sources c.args.sources.now) (plain_payment c.args.payment.now) (g.H.Shelf.view c.args.shelf.now) c.in_ok-ready.ready c.in_ok-ready.ensures.ready _ c.args.job.now (g.K.Keeper.view c.args.keeper.now) (g.K.Keeper.view c.run_on.new.keeper)
    c.in_ok-ending.ending c.in_ok-ending.ensures.ends

pub returns-in_err-ready-clause-none_behind : goal.returns-in_err-ready-clause-none_behind
returns-in_err-ready-clause-none_behind g c = c.prepare.ensures.none_behind

pub returns-in_err-ending-clause-none_behind : goal.returns-in_err-ending-clause-none_behind
returns-in_err-ending-clause-none_behind g c = c.prepare.ensures.none_behind

pub returns-clause-none_behind : goal.returns-clause-none_behind
returns-clause-none_behind g c = c.prepare.ensures.none_behind

pub returns-in_err-ready-clause-all_read : goal.returns-in_err-ready-clause-all_read
returns-in_err-ready-clause-all_read g c =
    let p = err_from_is_err_and c.from_residual.result c.from_residual.ensures.1 in
    rw (p.1, p.2) (λ none. c.in_err-ready.ensures.all_read (λ file e. none file cc))

pub returns-in_err-ending-clause-all_read : goal.returns-in_err-ending-clause-all_read
returns-in_err-ending-clause-all_read g c = λ none. c.in_ok-ready.ensures.all_read (λ file e. cc)

pub returns-clause-all_read : goal.returns-clause-all_read
returns-clause-all_read g c = λ none. c.in_ok-ready.ensures.all_read (λ file e. cc)

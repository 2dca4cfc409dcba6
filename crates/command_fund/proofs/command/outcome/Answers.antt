use Rattle.std.proofs.Common.{Ok, Err}
use Rattle.std.proofs.lemmas.Result.{err_from_is_err_and}
use Rattle.command_end.specs.Names.{plain_sources}
use Rattle.command_inputs.specs.Names.{plain_payment}
use Rattle.command_inputs.proofs.PlanLaws.{if_ends, if_stops}
use Rattle.command_fund.proofs.command.outcome.Goals as goal

pub returns-clause-ends : goal.returns-clause-ends
returns-clause-ends g c =
    let i = c.in_ok-inputs.inputs in
    if_ends _ (g.H.Shelf.view c.args.shelf.now).files (plain_sources c.args.sources.now) (plain_payment c.args.payment.now) i.held i.request (Ok c.in_ok-ending.ending) c.in_ok-inputs.ensures.held c.in_ok-ending.ensures.ends

pub returns-in_err-ending-clause-stop : goal.returns-in_err-ending-clause-stop
returns-in_err-ending-clause-stop g c =
    let p = err_from_is_err_and c.from_residual-in_err-ending.result c.from_residual-in_err-ending.ensures.1 in
    let i = c.in_ok-inputs.inputs in
    rw (p.1, p.2) (if_stops _ (plain_sources c.args.sources.now) (plain_payment c.args.payment.now) i.held i.request (g.H.Shelf.view c.args.shelf.now) (g.H.Shelf.view c.read_inputs_for.new.shelf) (Err c.in_err-ending.field-0.0) c.in_ok-inputs.ensures.held c.in_err-ending.ensures.stop)

-- ---- failed reads

pub returns-in_err-inputs-clause-all_read : goal.returns-in_err-inputs-clause-all_read
returns-in_err-inputs-clause-all_read g c =
    let p = err_from_is_err_and c.from_residual.result c.from_residual.ensures.1 in
    rw (p.1, p.2) (λ none. c.in_err-inputs.ensures.all_read (λ file e. none file cc))

pub returns-in_err-ending-clause-all_read : goal.returns-in_err-ending-clause-all_read
returns-in_err-ending-clause-all_read g c = λ none. c.in_ok-inputs.ensures.all_read (λ file e. cc)

pub returns-clause-all_read : goal.returns-clause-all_read
returns-clause-all_read g c = λ none. c.in_ok-inputs.ensures.all_read (λ file e. cc)

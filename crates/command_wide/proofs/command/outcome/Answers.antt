use Rattle.std.proofs.lemmas.Result.{err_from_is_err_and}
use Rattle.command_end.specs.Names.{plain_sources}
use Rattle.command_inputs.specs.Names.{plain_payment}
use Rattle.command_wide.proofs.EndedLaws.{held_ends}
use Rattle.command_wide.proofs.StopLaws.{held_stops}
use Rattle.command_wide.proofs.command.outcome.Goals as goal

pub returns-clause-ends : goal.returns-clause-ends
returns-clause-ends g c =
    held_ends _ (g.H.Shelf.view c.args.shelf.now).files (plain_sources c.args.sources.now) (plain_payment c.args.payment.now) c.in_ok-held.held c.in_ok-held.request c.in_ok-ending.ending c.in_ok-held.ensures.held c.in_ok-ending.ensures.ends

pub returns-in_err-ending-clause-stop : goal.returns-in_err-ending-clause-stop
returns-in_err-ending-clause-stop g c =
    let p = err_from_is_err_and c.from_residual-in_err-ending.result c.from_residual-in_err-ending.ensures.1 in
    rw (p.1, p.2) (held_stops _ (plain_sources c.args.sources.now) (plain_payment c.args.payment.now) c.in_ok-held.held c.in_ok-held.request (g.H.Shelf.view c.args.shelf.now) (g.H.Shelf.view c.read_inputs.new.shelf) c.in_err-ending.field-0.0 c.in_ok-held.ensures.held c.in_err-ending.ensures.stop)

pub returns-in_err-ending-clause-all_read : goal.returns-in_err-ending-clause-all_read
returns-in_err-ending-clause-all_read g c = λ none. c.in_ok-held.ensures.all_read (λ file e. cc)

pub returns-clause-all_read : goal.returns-clause-all_read
returns-clause-all_read g c = λ none. c.in_ok-held.ensures.all_read (λ file e. cc)

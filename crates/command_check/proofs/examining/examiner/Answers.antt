use Rattle.std.proofs.lemmas.Result.{err_from_is_err_and}
use Rattle.command_end.specs.Names.{plain_sources}
use Rattle.command_inputs.specs.Names.{plain_payment}
use Rattle.command_check.proofs.MadeLaws.{if_made, if_not_made}
use Rattle.command_check.proofs.examining.examiner.Goals as goal

pub returns-clause-plan : goal.returns-clause-plan
returns-clause-plan g c =
    let i = c.in_ok-held.field-0 in
    if_made _ (g.H.Shelf.view c.args.shelf.now).files (plain_sources c.args.sources.now) (plain_payment c.args.payment.now) i.held i.request c.made.result c.in_ok-held.ensures.held c.made.ensures.made c.made.ensures.rules c.made.ensures.replaces

pub returns-clause-stop : goal.returns-clause-stop
returns-clause-stop g c =
    let i = c.in_ok-held.field-0 in
    if_not_made _ (plain_sources c.args.sources.now) (plain_payment c.args.payment.now) i.held i.request (g.H.Shelf.view c.args.shelf.now) (g.H.Shelf.view c.read_inputs.new.shelf) c.made.result c.in_ok-held.ensures.held c.made.ensures.stop

pub returns-in_err-held-clause-all_read : goal.returns-in_err-held-clause-all_read
returns-in_err-held-clause-all_read g c =
    let p = err_from_is_err_and c.from_residual.result c.from_residual.ensures.1 in
    rw (p.1, p.2) (λ none. c.in_err-held.ensures.all_read (λ file e. none file cc))

pub returns-clause-all_read : goal.returns-clause-all_read
returns-clause-all_read g c = λ none. c.in_ok-held.ensures.all_read (λ file e. cc)

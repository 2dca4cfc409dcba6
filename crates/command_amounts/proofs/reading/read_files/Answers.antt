use Rattle.std.proofs.Common.{◌≡◌, ◌∙◌, Result, Err, ap}
use Rattle.std.proofs.lemmas.Result.{err_from_is_err_and}
use Rattle.fund_files.proofs.FrameLaws.{only_reads_on}
use Rattle.fund_files.specs.declared.refusal.File.TheVariants.{Wallet, Blocks, Request}
use Rattle.fund_files.specs.declared.stop.Stop.{Stop as FileStop}
use Rattle.command_end.specs.Names.{plain_sources}
use Rattle.command_inputs.specs.Names.{plain_payment}
use Rattle.command_inputs.proofs.InputLaws.{all_asked, chain_asked, none_behind}
use Rattle.command_inputs.specs.Stops.{lifted}
use Rattle.command_amounts.proofs.FileLaws.{are_held, asked_stops, chain_stops}
use Rattle.command_amounts.proofs.reading.read_files.Goals as goal

same_stop : {T : Type 0} (a b : FileStop) → ◌≡◌ {A = Result T FileStop} (Err a) (Err b) → a ≡ b
same_stop a b e = cc

pub returns-in_err-held-clause-stop : goal.returns-in_err-held-clause-stop
returns-in_err-held-clause-stop g c =
    let p = err_from_is_err_and c.from_residual.result c.from_residual.ensures.1 in
    rw (p.1, p.2) (chain_stops _ (plain_sources c.args.sources.now) (plain_payment c.args.payment.now) (g.H.Shelf.view c.args.shelf.now) (g.H.Shelf.view c.read_chain.new.shelf) c.in_err-held.field-0.0 c.in_err-held.ensures.stop)

pub returns-in_err-request-clause-stop : goal.returns-in_err-request-clause-stop
returns-in_err-request-clause-stop g c =
    let p = err_from_is_err_and c.from_residual-in_err-request.result c.from_residual-in_err-request.ensures.1 in
    rw (p.1, p.2) (asked_stops _ (plain_sources c.args.sources.now) (plain_payment c.args.payment.now) c.in_ok-held.held (g.H.Shelf.view c.args.shelf.now) (g.H.Shelf.view c.read_chain.new.shelf) (g.H.Shelf.view c.read_asked.new.shelf) c.in_err-request.field-0.0
    c.in_ok-held.ensures.held c.read_chain.ensures.frame c.in_err-request.ensures.stop)

pub returns-in_err-request-clause-frame : goal.returns-in_err-request-clause-frame
returns-in_err-request-clause-frame g c = only_reads_on _ (g.H.Shelf.view c.args.shelf.now) (g.H.Shelf.view c.read_chain.new.shelf) (g.H.Shelf.view c.read_asked.new.shelf) c.read_chain.ensures.frame c.read_asked.ensures.frame

pub returns-clause-frame : goal.returns-clause-frame
returns-clause-frame g c = only_reads_on _ (g.H.Shelf.view c.args.shelf.now) (g.H.Shelf.view c.read_chain.new.shelf) (g.H.Shelf.view c.read_asked.new.shelf) c.read_chain.ensures.frame c.read_asked.ensures.frame

pub returns-in_err-held-clause-asked : goal.returns-in_err-held-clause-asked
returns-in_err-held-clause-asked g c = chain_asked _ (plain_sources c.args.sources.now) (plain_payment c.args.payment.now) (g.H.Shelf.view c.args.shelf.now) (g.H.Shelf.view c.read_chain.new.shelf) c.read_chain.ensures.asked

pub returns-in_err-request-clause-asked : goal.returns-in_err-request-clause-asked
returns-in_err-request-clause-asked g c = all_asked _ (plain_sources c.args.sources.now) (plain_payment c.args.payment.now) (g.H.Shelf.view c.args.shelf.now) (g.H.Shelf.view c.read_chain.new.shelf) (g.H.Shelf.view c.read_asked.new.shelf) c.read_chain.ensures.asked c.read_asked.ensures.asked_for

pub returns-clause-asked : goal.returns-clause-asked
returns-clause-asked g c = all_asked _ (plain_sources c.args.sources.now) (plain_payment c.args.payment.now) (g.H.Shelf.view c.args.shelf.now) (g.H.Shelf.view c.read_chain.new.shelf) (g.H.Shelf.view c.read_asked.new.shelf) c.read_chain.ensures.asked c.read_asked.ensures.asked_for

pub returns-in_err-held-clause-none_behind : goal.returns-in_err-held-clause-none_behind
returns-in_err-held-clause-none_behind g c = λ t. record { wallet_alone = c.read_chain.ensures.refused_alone t; chain_alone = λ none. c.read_chain.ensures.asked t }

pub returns-in_err-request-clause-none_behind : goal.returns-in_err-request-clause-none_behind
returns-in_err-request-clause-none_behind g c = λ t. none_behind (plain_sources c.args.sources.now) c.in_ok-held.held.wallet c.in_ok-held.ensures.held.held.blocks (g.H.Shelf.view c.args.shelf.now) (g.H.Shelf.view c.read_asked.new.shelf) (c.in_ok-held.ensures.held.chain t)

pub returns-clause-none_behind : goal.returns-clause-none_behind
returns-clause-none_behind g c = λ t. none_behind (plain_sources c.args.sources.now) c.in_ok-held.held.wallet c.in_ok-held.ensures.held.held.blocks (g.H.Shelf.view c.args.shelf.now) (g.H.Shelf.view c.read_asked.new.shelf) (c.in_ok-held.ensures.held.chain t)

-- ---- failed reads

pub returns-in_err-held-clause-all_read : goal.returns-in_err-held-clause-all_read
returns-in_err-held-clause-all_read g c =
    let p = err_from_is_err_and c.from_residual.result c.from_residual.ensures.1 in
    rw (p.1, p.2) (λ none. c.in_err-held.ensures.unfailed (λ e. none Wallet (ap (λ (x : FileStop). Err (lifted x)) (same_stop _ _ e))) (λ e. none Blocks (ap (λ (x : FileStop). Err (lifted x)) (same_stop _ _ e))))

pub returns-in_err-request-clause-all_read : goal.returns-in_err-request-clause-all_read
returns-in_err-request-clause-all_read g c =
    let p = err_from_is_err_and c.from_residual-in_err-request.result c.from_residual-in_err-request.ensures.1 in
    rw (p.1, p.2) (λ none. c.in_err-request.ensures.unfailed (λ e. none Request (ap (λ (x : FileStop). Err (lifted x)) (same_stop _ _ e))) ∙ c.in_ok-held.ensures.unfailed (λ e. cc) (λ e. cc))

pub returns-clause-all_read : goal.returns-clause-all_read
returns-clause-all_read g c = λ none. c.in_ok-request.ensures.unfailed (λ e. cc) ∙ c.in_ok-held.ensures.unfailed (λ e. cc) (λ e. cc)

-- ---- the inputs

pub returns-clause-held : goal.returns-clause-held
returns-clause-held g c = are_held _ (g.H.Shelf.view c.args.shelf.now).files (g.H.Shelf.view c.read_chain.new.shelf).files (plain_sources c.args.sources.now) (plain_payment c.args.payment.now) c.in_ok-held.held c.in_ok-request.request
    c.in_ok-held.ensures.held c.read_chain.ensures.frame.same c.in_ok-request.ensures.asked

use Rattle.std.proofs.Common.{◌∙◌, ap}
use Rattle.std.proofs.lemmas.Result.{err_from_is_err_and}
use Rattle.request_text.specs.PlainRequest.{PlainRequest}
use Rattle.fund_files.specs.declared.chain.Chain.{Chain}
use Rattle.command_inputs.specs.Outcome.{candidates_in}
use Rattle.command_wide.proofs.EndedLaws.{fault_is, run_is}
use Rattle.command_wide.proofs.ending.search.Goals as goal

pub returns-clause-run : goal.returns-clause-run
returns-clause-run c =
    let coins = c.in_ok-candidates.ensures.coins ∙ ap (λ (q : PlainRequest). candidates_in c.args.held.now q.rate) c.request.view_is in
    let own = ap (λ (k : Chain). k.wallet.change) c.held.view_is in
    let e = c.in_ok-run.ensures in
    run_is c.args.held.now c.args.request.now _ c.in_ok-candidates.candidates.items c.in_ok-run.run' c.requires.wide own coins e.run e.rules e.steps e.pays e.fits

pub returns-in_err-run-clause-stop : goal.returns-in_err-run-clause-stop
returns-in_err-run-clause-stop c =
    let coins = c.in_ok-candidates.ensures.coins ∙ ap (λ (q : PlainRequest). candidates_in c.args.held.now q.rate) c.request.view_is in
    let own = ap (λ (k : Chain). k.wallet.change) c.held.view_is in
    let p = err_from_is_err_and c.from_residual-in_err-run.result c.from_residual-in_err-run.ensures.1 in
    rw (p.1, p.2) (fault_is c.args.held.now c.args.request.now _ c.in_ok-candidates.candidates.items c.in_err-run.field-0.0 c.requires.wide own coins c.in_err-run.ensures.fault)

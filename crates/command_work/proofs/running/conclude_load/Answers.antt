use Rattle.std.proofs.Common.{[], ◌∙◌, ap, refl, sym}
use Rattle.std.proofs.lemmas.Result.{err_from_is_err_and}
use Rattle.wallet_text.specs.PlainWallet.{PlainWallet}
use Rattle.request_text.specs.PlainRequest.{PlainRequest}
use Rattle.fund_files.specs.Chain.{chain_from}
use Rattle.command_inputs.specs.Outcome.{bump_fault_in, terms_for}
use Rattle.command_work.proofs.RunLaws.{hold_stops, if_ends, if_stops}
use Rattle.command_work.proofs.running.conclude_load.Goals as goal

pub conclude-requires-clause-terms : goal.conclude-requires-clause-terms
conclude-requires-clause-terms c = sym (ap (λ (r : PlainRequest). terms_for c.in_ok-held.held r) c.in_ok-wallet.ensures.request)

pub conclude-requires-clause-taken : goal.conclude-requires-clause-taken
conclude-requires-clause-taken c = ap (λ (r : PlainRequest). bump_fault_in c.in_ok-held.held r) c.in_ok-wallet.ensures.request

pub returns-in_err-held-clause-stop : goal.returns-in_err-held-clause-stop
returns-in_err-held-clause-stop c =
    let p = err_from_is_err_and c.from_residual-in_err-held.result c.from_residual-in_err-held.ensures.1 in
    let l = c.in_ok-wallet.ensures in
    rw (p.1, p.2) (hold_stops c.args.number c.args.count _ c.in_err-held.field-0.0 c.requires.most l.distinct l.wallet c.in_err-held.ensures.stop)

pub returns-clause-ends : goal.returns-clause-ends
returns-clause-ends c =
    let l = c.in_ok-wallet.ensures in
    if_ends c.args.number c.args.count c.in_ok-held.held _ c.conclude.result (c.in_ok-held.ensures.value ∙ ap (λ (w : PlainWallet). chain_from w []) l.wallet) l.request c.conclude.ensures.ends

pub returns-clause-stop : goal.returns-clause-stop
returns-clause-stop c =
    let l = c.in_ok-wallet.ensures in
    if_stops c.args.number c.args.count c.in_ok-held.held _ c.conclude.result c.requires.some c.requires.most l.distinct (c.in_ok-held.ensures.value ∙ ap (λ (w : PlainWallet). chain_from w []) l.wallet) l.request c.conclude.ensures.stop

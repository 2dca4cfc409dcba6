use Rattle.std.proofs.Common.{ap, subst, sym, List}
use Rattle.std.proofs.lemmas.Result.{err_from_is_err_and}
use Rattle.coin_candidates.specs.declared.candidate.Candidate.{Candidate}
use Rattle.fund_files.specs.declared.chain.Chain.{Chain}
use Rattle.command_amounts.specs.Coins.{AreCoins}
use Rattle.command_share.proofs.RunLaws.{rows_fault, run_is}
use Rattle.command_share.proofs.StopLaws.{coins_stop}
use Rattle.command_share.proofs.ending.search.Goals as goal

pub returns-in_err-candidates-clause-stop : goal.returns-in_err-candidates-clause-stop
returns-in_err-candidates-clause-stop c =
    let p = err_from_is_err_and c.from_residual.result c.from_residual.ensures.1 in
    rw (p.1, p.2) (coins_stop c.args.held.now c.args.request.now c.in_err-candidates.field-0.0 c.in_err-candidates.ensures.fault)

pub returns-clause-run : goal.returns-clause-run
returns-clause-run c =
    let a = c.args in
    let own = ap (λ (k : Chain). k.wallet.change) c.held.view_is in
    let coins = subst (λ (l : List Candidate). AreCoins a.held.now a.request.now l) (sym c.deref.ensures.value) c.in_ok-candidates.ensures.coins in
    let e = c.in_ok-run.ensures in
    run_is a.held.now a.request.now _ c.deref.result.now c.in_ok-run.run' own coins e.value e.tries e.means

pub returns-in_err-run-clause-stop : goal.returns-in_err-run-clause-stop
returns-in_err-run-clause-stop c =
    let a = c.args in
    let own = ap (λ (k : Chain). k.wallet.change) c.held.view_is in
    let coins = subst (λ (l : List Candidate). AreCoins a.held.now a.request.now l) (sym c.deref.ensures.value) c.in_ok-candidates.ensures.coins in
    let p = err_from_is_err_and c.from_residual-in_err-run.result c.from_residual-in_err-run.ensures.1 in
    rw (p.1, p.2) (rows_fault a.held.now a.request.now _ c.deref.result.now c.in_err-run.field-0.0 own coins c.in_err-run.ensures.fault)

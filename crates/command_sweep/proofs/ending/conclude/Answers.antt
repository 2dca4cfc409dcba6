use Rattle.std.proofs.Common.{◌∙◌, ◌≤◌, List, subst, sym}
use Rattle.std.proofs.lemmas.Result.{err_from_is_err_and}
use Rattle.coin_candidates.specs.declared.candidate.Candidate.{Candidate}
use Rattle.fee_sharing.specs.Sweep.{IsSweepFault}
use Rattle.fund_steps.specs.Amounts.{value_of}
use Rattle.command_amounts.specs.Coins.{AreCoins}
use Rattle.command_sweep.proofs.PayLaws.{can_end}
use Rattle.command_sweep.proofs.StopLaws.{coins_stop, sweep_stops}
use Rattle.command_sweep.specs.Stops.{StopsSweep}
use Rattle.command_sweep.specs.declared.stop.Stop.{Stop}
use Rattle.command_sweep.proofs.ending.conclude.Goals as goal

pub returns-in_err-candidates-clause-stop : goal.returns-in_err-candidates-clause-stop
returns-in_err-candidates-clause-stop c =
    let e = err_from_is_err_and c.from_residual.result c.from_residual.ensures.1 in
    rw (e.1, e.2) (coins_stop c.args.held.now c.args.request.now c.in_err-candidates.field-0.0 c.in_err-candidates.ensures.fault)

pub ends-requires-clause-can : goal.ends-requires-clause-can
ends-requires-clause-can c =
    let k = c.args.held.now in
    let r = c.args.request.now in
    let e = c.in-Ok.ensures in
    let coins = subst (λ (l : List Candidate). AreCoins k r l) (sym c.deref.ensures.value) c.in_ok-candidates.ensures.coins in
    can_end k r c.deref.result.now c.in-Ok.swept c.keeps_rules.ensures c.requires.taken.one coins e.swept e.pays e.few e.light

pub returns-clause-stop : goal.returns-clause-stop
returns-clause-stop c =
    let k = c.args.held.now in
    let r = c.args.request.now in
    let coins = c.in_ok-candidates.ensures.coins in
    let worth = subst (λ (l : List Candidate). value_of l ≤ 2_100_000_000_000_000) coins.are coins.worth in
    let many = subst (λ (l : List Candidate). IsSweepFault r l c.in-Err.fault) (c.deref.ensures.value ∙ coins.are) c.in-Err.ensures.many in
    subst (λ (stop : Stop). StopsSweep k r stop) (sym c.stop_for.ensures) (sweep_stops k r c.in-Err.fault worth many)

use Rattle.std.proofs.Common.{◌∙◌, ap, arith, subst, sym}
use Rattle.coin_candidates.specs.Candidates.{AreCandidates}
use Rattle.coin_candidates.specs.declared.candidate.Candidate.{Candidate}
use Rattle.fund_steps.proofs.SumLaws.{value_within}
use Rattle.fund_steps.specs.Amounts.{value_of}
use Rattle.request_text.specs.PlainRequest.{PlainRequest}
use Rattle.command_inputs.specs.Outcome.{candidates_in}
use Rattle.command_amounts.proofs.CoinLaws.{are_coins}
use Rattle.command_amounts.proofs.coins.coins_for.Goals as goal

pub total-sum-requires : goal.total-sum-requires
total-sum-requires c = value_within c.deref.result.now (subst AreCandidates (sym c.deref.ensures.value) c.in_ok-coins.ensures.fit)

pub returns-clause-coins : goal.returns-clause-coins
returns-clause-coins c =
    let are = c.in_ok-coins.ensures.coins ∙ ap (λ (q : PlainRequest). candidates_in c.args.held.now q.rate) c.request.view_is in
    let sum = ap value_of c.deref.ensures.value in
    are_coins c.args.held.now c.args.request.now c.in_ok-coins.coins.items are c.requires c.keeps_rules-2.ensures c.in_ok-coins.ensures.fit (omega (arith, c.if-sum-from.false, c.from.ensures, c.total-sum.ensures, sum))

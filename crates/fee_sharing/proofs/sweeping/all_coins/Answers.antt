use Rattle.std.proofs.Common.{◌∙◌, ap, List, subst, sym}
use Rattle.coin_candidates.specs.declared.candidate.Candidate.{Candidate}
use Rattle.output_groups.specs.PlainPool.{PlainPool}
use Rattle.fund_steps.specs.Amounts.{AreWithin}
use Rattle.fund_steps.specs.Selection.{in_order}
use Rattle.fee_sharing.proofs.SweepLaws.{coins_in, few_alone, pool_is, swept_fit}
use Rattle.fee_sharing.proofs.sweeping.all_coins.Goals as goal

pub returns-in_ok-coins-in-Ok-2-clause-coins : goal.returns-in_ok-coins-in-Ok-2-clause-coins
returns-in_ok-coins-in-Ok-2-clause-coins c =
    let pool = pool_is c.args.request.now _ c.last_row-row.result.now c.args.candidates.now c.request.view_is c.last_row-row.ensures.row in
    let groups = c.deref.ensures.value ∙ ap (λ (p : PlainPool). p.groups) (c.pool-in-Ok.view_is ∙ c.in-Ok.ensures.value ∙ pool) in
    c.in_ok-coins-in-Ok-2.ensures ∙ ap in_order (c.in_ok-coins-in-Ok.ensures ∙ ap (λ (l : List (List Candidate)). coins_in l) groups)

pub returns-in_ok-coins-in-Ok-2-clause-within : goal.returns-in_ok-coins-in-Ok-2-clause-within
returns-in_ok-coins-in-Ok-2-clause-within c =
    let pool = pool_is c.args.request.now _ c.last_row-row.result.now c.args.candidates.now c.request.view_is c.last_row-row.ensures.row in
    let groups = c.deref.ensures.value ∙ ap (λ (p : PlainPool). p.groups) (c.pool-in-Ok.view_is ∙ c.in-Ok.ensures.value ∙ pool) in
    subst AreWithin (sym (c.in_ok-coins-in-Ok-2.ensures ∙ ap in_order (c.in_ok-coins-in-Ok.ensures ∙ ap (λ (l : List (List Candidate)). coins_in l) groups))) (swept_fit c.args.request.now c.args.candidates.now c.requires.candidates c.requires.worth)

pub returns-in_ok-coins-in-Ok-2-clause-few : goal.returns-in_ok-coins-in-Ok-2-clause-few
returns-in_ok-coins-in-Ok-2-clause-few c = few_alone c.args.request.now _ c.last_row-row.result.now c.args.candidates.now c.request.view_is c.last_row-row.ensures.row c.in-Ok.ensures.few

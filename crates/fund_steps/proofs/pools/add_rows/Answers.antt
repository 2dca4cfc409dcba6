use Rattle.std.proofs.Common.{◌≡◌, ◌∙◌, ap}
use Rattle.std.proofs.lemmas.List.Elements.{All-more}
use Rattle.output_groups.specs.Ladder.{ladder_of}
use Rattle.request_text.specs.PlainRequest.{PlainRequest}
use Rattle.fund_steps.proofs.MakingLaws.{rows_more}
use Rattle.fund_steps.specs.Making.{groups_for, steps_for}
use Rattle.fund_steps.proofs.RowLaws.{KeepsFew, all_roomy, first_many, row_few, row_made, row_many}
use Rattle.fund_steps.proofs.pools.add_rows.Goals as goal

pub returns-in-Some-clause-first : goal.returns-in-Some-clause-first
returns-in-Some-clause-first c = λ p same rest.
    let a = c.args in
    let rows = c.ladder-rows.ensures.rows ∙ ap (λ (q : PlainRequest). ladder_of q.zero_conf q.include_unsafe) c.request.view_is in
    let made : c.in_ok-formed.formed ≡ groups_for a.request.now a.coins.now = c.in_ok-formed.ensures ∙ ap (λ (q : PlainRequest). groups_for q a.coins.now) c.request.view_is in
    let kept = row_many a.request.now a.coins.now _ c.in_ok-formed.formed c.in-Some.groups made (rw c.in-Some.is at c.in_ok-groups.ensures.many) in
    first_many p a.request.now a.coins.now c.ladder-rows.result.now c.loop-row.row-index c.in-Some.groups _ same rest rows c.loop-row-test.true c.loop-row.invariant.few kept.0 kept.1

pub loop-row-preserved : goal.loop-row-preserved
loop-row-preserved c =
    let a = c.args in
    let kept = c.loop-row.invariant in
    let none = c.in_default.is in
    let made : c.in_ok-formed.formed ≡ groups_for a.request.now a.coins.now = c.in_ok-formed.ensures ∙ ap (λ (q : PlainRequest). groups_for q a.coins.now) c.request.view_is in
    record {
      few = All-more (KeepsFew a.request.now a.coins.now) c.ladder-rows.result.now c.loop-row.row-index _ c.loop-row-test.true kept.few (row_few a.request.now a.coins.now _ c.in_ok-formed.formed made (c.in_ok-groups.ensures.few none));
      made =
          rows_more (steps_for a.request.now a.load.now a.coins.now a.turns.now) _ _ _ c.ladder-rows.result.now c.loop-row.row-index _ c.loop-row-test.true kept.made
          (row_made a.request.now a.load.now a.coins.now a.turns.now _ c.in_ok-formed.formed c.rates-rates.result _ _ made c.rates-rates.ensures.value (c.in_ok-groups.ensures.steps none));
      fine = λ old. c.in_ok-groups.ensures.fine (kept.fine old);
    }

pub returns-clause-none : goal.returns-clause-none
returns-clause-none c = λ p same rest none.
    let rows = c.ladder-rows.ensures.rows ∙ ap (λ (q : PlainRequest). ladder_of q.zero_conf q.include_unsafe) c.request.view_is in
    all_roomy p c.args.request.now c.args.coins.now c.ladder-rows.result.now c.loop-row.row-index same rest rows c.loop-row-test.false c.loop-row.invariant.few

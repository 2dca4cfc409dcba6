use Rattle.std.specs.Prelude.{◌≡◌, option_to_list, true, false, []}
use Rattle.std.proofs.Common.{sym, ap, ◌∙◌}
use Rattle.search_run.specs.Found.{taken}
use Rattle.search_run.specs.Run.{ends}
use Rattle.report_check.specs.LogAnswer.{HasAnswer}
use Rattle.report_check.proofs.TellingLaws.{fit_next, taken_ok, told_here, told_next}
use Rattle.report_check.proofs.log_answer.answer.Goals as goal

pub returns-then-ends_with : goal.returns-then-ends_with
returns-then-ends_with c =
    let new = c.put.new.found.items in
    let x = c.step-item.result in
    let ended : ends x new ≡ true = ap (ends x) (sym c.deref.ensures.value) ∙ (sym c.ends_with.ensures ∙ c.if-ends_with.true) in
    taken_ok c.taken_of.result c.deref-then-ends_with.result.now (HasAnswer c.args.seed c.args.steps.now c.args.sections.now []) c.taken_of.ensures
    (λ o k. told_here c.args.seed c.args.steps.now c.args.sections.now c.telling.step-index x c.telling.rest.now c.in_ok-more.next.now c.telling.found.items new (option_to_list c.in_ok-more.more) o
    c.telling-test.true c.step-item.is c.telling.invariant.tells c.in_ok-more.ensures c.in_ok-put.ensures ended (k ∙ ap taken c.deref-then-ends_with.ensures.value))

pub telling-preserved : goal.telling-preserved
telling-preserved c =
    let new = c.put.new.found.items in
    let x = c.step-item.result in
    let going : ends x new ≡ false = ap (ends x) (sym c.deref.ensures.value) ∙ (sym c.ends_with.ensures ∙ c.if-ends_with.false) in
    record {
      fit = fit_next c.args.seed c.args.steps.now c.telling.step-index x c.telling.rest.now c.in_ok-more.next.now (option_to_list c.in_ok-more.more) c.telling-test.true c.step-item.is c.telling.invariant.fit c.in_ok-more.ensures;
      tells = told_next c.args.seed c.args.steps.now c.args.sections.now c.telling.step-index x c.telling.rest.now c.in_ok-more.next.now c.telling.found.items new (option_to_list c.in_ok-more.more)
          c.telling-test.true c.step-item.is c.telling.invariant.tells c.in_ok-more.ensures c.in_ok-put.ensures going;
    }

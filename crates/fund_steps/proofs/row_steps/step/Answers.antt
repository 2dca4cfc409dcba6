use Rattle.std.proofs.Common.{◌≡◌, ◌∙◌, ap, List}
use Rattle.fund_steps.proofs.MakingLaws.{step_fits}
use Rattle.fund_steps.specs.Searches.{problem_by}
use Rattle.pick_problem.specs.declared.item.Item.{Item}
use Rattle.fund_steps.proofs.row_steps.step.Goals as goal

pub new-requires : goal.new-requires
new-requires c =
    let a = c.args in
    let items = a.seen.now.items.value.items in
    let sizes = a.seen.now.sizes.value.items in
    let one : c.in_ok-items.items.value.items ≡ items = ap (λ v. v.items) c.in_ok-items.ensures.cases in
    let is : c.problem-problem.result ≡ problem_by a.terms.now items a.turn.now.stage = c.problem-problem.ensures.value ∙ ap (λ (l : List Item). problem_by a.terms.now l a.turn.now.stage) one in
    let same : c.in_ok-sizes.sizes.value.items ≡ sizes = ap (λ v. v.items) c.in_ok-sizes.ensures.cases in
    step_fits a.terms.now a.row.now.number items sizes a.turn.now c.problem-problem.result c.ending-ending.result c.in_ok-sizes.sizes.value.items c.requires.terms c.requires.seen c.requires.stage c.problem-problem.ensures.problem is c.ending-ending.ensures.value same

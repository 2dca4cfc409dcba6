use Rattle.std.proofs.Common.{arith, inr, ◌∙◌}
use Rattle.report_check.proofs.FittingLaws.{front_few, front_most, last_wrong, none_left, rest_few, some_fit, some_left, some_wrong}
use Rattle.report_check.proofs.sections.are_some.Goals as goal

pub before-index-requires-clause-some : goal.before-index-requires-clause-some
before-index-requires-clause-some c = rest_few c.args.steps.now c.args.sections.now c.left_over-rest.result.now c.left_over-rest.ensures

pub before-index-requires-clause-few : goal.before-index-requires-clause-few
before-index-requires-clause-few c = front_most c.args.steps.now c.args.sections.now c.left_over-rest.result.now 1_000 c.requires c.left_over-rest.ensures

pub returns-then-index-most-clause-wrong : goal.returns-then-index-most-clause-wrong
returns-then-index-most-clause-wrong c =
    inr (last_wrong c.args.steps.now c.args.sections.now c.left_over-rest.result.now c.before-index.result c.left_over-rest.ensures c.before-index.ensures.count (c.if-index-most.true ∙ c.count-most.ensures) (omega arith))

pub returns-then-is_empty-clause-right : goal.returns-then-is_empty-clause-right
returns-then-is_empty-clause-right c =
    let none = none_left _ c.is_empty.result c.is_empty.ensures c.if-is_empty.true in
    let few = front_few c.args.steps.now c.args.sections.now c.left_over-rest.result.now c.before-index.result c.left_over-rest.ensures c.before-index.ensures.count in
    some_fit c.args.steps.now c.args.sections.now c.left_over-rest.result.now c.left_over-rest.ensures none
    (omega (arith, none, few, c.before-index.ensures.count, c.if-index-most.false, c.count-most.ensures))

pub returns-clause-wrong : goal.returns-clause-wrong
returns-clause-wrong c =
    let some = some_left _ c.is_empty.result c.is_empty.ensures c.if-is_empty.false in
    let few = front_few c.args.steps.now c.args.sections.now c.left_over-rest.result.now c.before-index.result c.left_over-rest.ensures c.before-index.ensures.count in
    inr (some_wrong c.args.steps.now c.args.sections.now c.left_over-rest.result.now c.before-index.result c.left_over-rest.ensures c.before-index.ensures.count some
    (omega (arith, few, c.if-index-most.false, c.count-most.ensures)))

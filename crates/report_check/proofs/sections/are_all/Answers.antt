use Rattle.report_check.proofs.FittingLaws.{all_done, all_undone, front_most, rest_few}
use Rattle.report_check.proofs.sections.are_all.Goals as goal

pub returns-then-are_done-clause-right : goal.returns-then-are_done-clause-right
returns-then-are_done-clause-right c =
    all_done c.args.steps.now c.args.sections.now c.left_over-rest.result.now c.count-most.result c.are_done.result c.left_over-rest.ensures c.count-most.ensures c.are_done.ensures c.if-are_done.true

pub before-index-requires-clause-some : goal.before-index-requires-clause-some
before-index-requires-clause-some c = rest_few c.args.steps.now c.args.sections.now c.left_over-rest.result.now c.left_over-rest.ensures

pub before-index-requires-clause-few : goal.before-index-requires-clause-few
before-index-requires-clause-few c = front_most c.args.steps.now c.args.sections.now c.left_over-rest.result.now 1_000 c.requires c.left_over-rest.ensures

pub returns-clause-wrong : goal.returns-clause-wrong
returns-clause-wrong c =
    all_undone c.args.steps.now c.args.sections.now c.left_over-rest.result.now c.count-most.result c.before-index.result c.are_done.result c.left_over-rest.ensures c.count-most.ensures c.are_done.ensures c.if-are_done.false c.before-index.ensures.count

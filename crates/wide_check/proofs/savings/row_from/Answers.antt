use Rattle.std.proofs.Common.{ap, List}
use Rattle.pick_problem.specs.declared.item.Item.{Item}
use Rattle.pick_problem.specs.Pool.{item_at}
use Rattle.wide_check.proofs.SavingLaws.{row_fits, row_sum}
use Rattle.wide_check.proofs.savings.row_from.Goals as goal

pub overflow_add-result : goal.overflow_add-result
overflow_add-result c =
    row_fits c.args.problem.now c.items-items.ensures.problem c.args.t c.requires.below _ c.from.result c.args.behind
    (ap (λ (xs : List Item). item_at xs c.args.t) c.items-items.ensures.items) c.from.ensures c.requires.behind

pub returns-then-cost-lt0 : goal.returns-then-cost-lt0
returns-then-cost-lt0 c =
    row_sum c.args.problem.now c.items-items.ensures.problem c.args.t c.requires.below _ c.from.result c.args.behind
    (ap (λ (xs : List Item). item_at xs c.args.t) c.items-items.ensures.items) c.from.ensures c.requires.behind c.if-cost-lt0.true

use Rattle.std.proofs.Common.{arith}
use Rattle.pick_problem.proofs.TailLaws.{later_small}
use Rattle.wide_search.proofs.cases.is_short.Goals as goal

pub overflow_add-result : goal.overflow_add-result
overflow_add-result c =
    let later = later_small c.args.prepared.now c.later_value.ensures.problem.problem c.behind.result in
    omega (arith, c.requires.small.small_value, c.later_value.ensures.later, later)

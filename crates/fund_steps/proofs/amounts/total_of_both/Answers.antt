use Rattle.std.proofs.Common.{arith}
use Rattle.fund_steps.proofs.SumLaws.{value_most, value_within, worth_both}
use Rattle.fund_steps.proofs.amounts.total_of_both.Goals as goal

pub total-requires : goal.total-requires
total-requires c = value_within c.args.presets.now c.requires.presets

pub total-requires-2 : goal.total-requires-2
total-requires-2 c = value_within c.args.candidates.now c.requires.candidates

pub overflow_add-result : goal.overflow_add-result
overflow_add-result c = omega (arith, value_most c.args.presets.now c.requires.presets, value_most c.args.candidates.now c.requires.candidates, c.total.ensures, c.total-2.ensures)

pub returns : goal.returns
returns c = omega (arith, c.total.ensures, c.total-2.ensures, worth_both c.args.presets.now c.args.candidates.now)

use Rattle.std.proofs.Common.{arith}
use Rattle.settle_check.proofs.WeightLaws.{legacy_weight, segregated_weight}
use Rattle.settle_check.proofs.weights.true_weight.Goals as goal

pub returns-then-segwit : goal.returns-then-segwit
returns-then-segwit c =
    segregated_weight c.args.segwit c.args.input.now c.saturating_add-then-segwit.result c.if-segwit.true
    (omega (arith, c.script_size.ensures, c.saturating_add.ensures, c.saturating_mul-bare.ensures, c.witness_size.ensures, c.saturating_add-then-segwit.ensures))

pub returns-else-segwit : goal.returns-else-segwit
returns-else-segwit c = legacy_weight c.args.segwit c.args.input.now c.saturating_mul-bare.result c.if-segwit.false (omega (arith, c.script_size.ensures, c.saturating_add.ensures, c.saturating_mul-bare.ensures))

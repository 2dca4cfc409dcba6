use Rattle.std.proofs.Common.{arith}
use Rattle.walk_engine.proofs.WayLaws.{cut_by_reason, cut_by_short}
use Rattle.walk_engine.proofs.transitions.cut_reason.Goals as goal

pub returns-then-value_behind-from : goal.returns-then-value_behind-from
returns-then-value_behind-from c =
    cut_by_short c.args.prepared.now c.args.stack.now c.args.t c.args.reason c.requires.stack.gap (omega
    (arith, c.value_behind.ensures, c.from.ensures))

pub returns-else-value_behind-from : goal.returns-else-value_behind-from
returns-else-value_behind-from c =
    cut_by_reason c.args.prepared.now c.args.stack.now c.args.t c.args.reason c.requires.stack.gap (omega
    (arith, c.value_behind.ensures, c.from.ensures))

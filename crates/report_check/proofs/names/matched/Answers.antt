use Rattle.std.proofs.Common.{rules}
use Rattle.report_check.proofs.SliceLaws.{opened}
use Rattle.report_check.proofs.names.matched.Goals as goal

pub returns-then-eq : goal.returns-then-eq
returns-then-eq c =
    (c.coin-item.result, opened c.args.coins.now c.coin-item.result c.in-len1-up.len_at_least c.coin-item.is, search rules)

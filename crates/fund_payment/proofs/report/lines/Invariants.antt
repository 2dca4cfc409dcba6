use Rattle.std.proofs.Common.{◌≡◌, map, take}
use Rattle.fund_payment.specs.Report.{line_of}
use Rattle.fund_payment.proofs.report.lines.Given as goal

abbrev pub invariant-loop-coin : goal.invariant-loop-coin
invariant-loop-coin l = l.lines.items ≡ map line_of (take l.coin-index l.coins)

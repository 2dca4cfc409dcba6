use Rattle.std.proofs.Common.{◌≤◌}
use Rattle.fund_base.proofs.Decimals.{SoFar}
use Rattle.fund_report.proofs.wide.digits_of.Given as goal

abbrev pub invariant-loop-digit : goal.invariant-loop-digit
invariant-loop-digit l = SoFar l.text l.digit-index l.number × (l.number ≤ l.most)

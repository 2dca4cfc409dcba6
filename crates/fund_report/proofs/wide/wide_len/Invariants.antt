use Rattle.std.proofs.Common.{◌≡◌, [], take, drop}
use Rattle.closing_log.specs.Reading.{digits_at}
use Rattle.fund_report.proofs.wide.wide_len.Given as goal

abbrev pub invariant-loop-i : goal.invariant-loop-i
invariant-loop-i l = digits_at l.most (take l.i l.bytes) (drop l.i l.bytes) ≡ digits_at l.most [] l.bytes

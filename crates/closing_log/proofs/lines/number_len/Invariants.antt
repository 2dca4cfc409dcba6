use Rattle.std.proofs.Common.{◌≡◌, [], take, drop}
use Rattle.closing_log.specs.Reading.{digits_at}
use Rattle.closing_log.proofs.lines.number_len.Given as goal

abbrev pub invariant-loop-i : goal.invariant-loop-i
invariant-loop-i l = digits_at l.most (take l.i l.bytes) (drop l.i l.bytes) ≡ digits_at l.most [] l.bytes

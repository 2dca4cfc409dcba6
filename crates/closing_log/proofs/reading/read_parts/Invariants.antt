use Rattle.std.proofs.Common.{◌≡◌, ◌-◌, length}
use Rattle.closing_log.specs.Reading.{body_at, log_at}
use Rattle.closing_log.proofs.reading.read_parts.Given as goal

abbrev pub invariant-loop : goal.invariant-loop
invariant-loop l = body_at (length l.initial.rest - l.counter) l.closed.items l.rest ≡ log_at l.bytes

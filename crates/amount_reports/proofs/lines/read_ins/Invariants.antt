use Rattle.std.proofs.Common.{◌≡◌, ◌-◌, [], length}
use Rattle.amount_reports.specs.Reading.{in_at, rows_from}
use Rattle.amount_reports.proofs.lines.read_ins.Given as goal

abbrev pub invariant-loop : goal.invariant-loop
invariant-loop l = rows_from 105 (λ place. in_at) (length l.bytes - l.counter) l.coins.items l.rest ≡ rows_from 105 (λ place. in_at) (length l.bytes) [] l.bytes

use Rattle.std.proofs.Common.{◌≡◌, ◌-◌, [], length}
use Rattle.amount_reports.specs.Reading.{pay_at, rows_from}
use Rattle.amount_reports.proofs.shared.read_pays.Given as goal

abbrev pub invariant-loop : goal.invariant-loop
invariant-loop l = rows_from 112 pay_at (length l.bytes - l.counter) l.amounts.items l.rest ≡ rows_from 112 pay_at (length l.bytes) [] l.bytes

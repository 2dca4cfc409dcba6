use Rattle.std.proofs.Common.{◌≡◌, ◌-◌, [], length}
use Rattle.fund_report.specs.Reading.{coins_from}
use Rattle.fund_report.proofs.lines.read_coins.Given as goal

abbrev pub invariant-loop : goal.invariant-loop
invariant-loop l = coins_from (length l.bytes - l.counter) l.coins.items l.rest ≡ coins_from (length l.bytes) [] l.bytes

use Rattle.std.proofs.Common.{◌≡◌, ◌-◌, [], length}
use Rattle.closing_log.specs.Reading.{places_from}
use Rattle.closing_log.proofs.lines.read_places.Given as goal

abbrev pub invariant-loop : goal.invariant-loop
invariant-loop l = places_from (length l.bytes - l.counter) l.places.items l.rest ≡ places_from (length l.bytes) [] l.bytes

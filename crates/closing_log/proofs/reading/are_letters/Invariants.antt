use Rattle.std.proofs.Common.{◌≡◌, take}
use Rattle.std.specs.List.{list_all}
use Rattle.closing_log.specs.Reading.{is_letter}
use Rattle.closing_log.proofs.reading.are_letters.Given as goal

abbrev pub invariant-loop-byte : goal.invariant-loop-byte
invariant-loop-byte l = l.all ≡ list_all is_letter (take l.byte-index l.bytes)

use Rattle.std.proofs.Common.{◌≡◌, ℕ, ◌<◌, get_or, true}
use Rattle.closing_log.specs.Reading.{is_letter}
use Rattle.closing_log.proofs.reading.single_letters_len.Given as goal

abbrev pub invariant-loop-i : goal.invariant-loop-i
invariant-loop-i l = (k : ℕ) → k < l.i → is_letter (get_or l.bytes k 0) ≡ true

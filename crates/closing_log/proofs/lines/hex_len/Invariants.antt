use Rattle.std.proofs.Common.{◌≡◌, ℕ, ◌<◌, get_or, true}
use Rattle.hex.specs.Hex.{is_hex_digit}
use Rattle.closing_log.proofs.lines.hex_len.Given as goal

abbrev pub invariant-loop-i : goal.invariant-loop-i
invariant-loop-i l = (k : ℕ) → k < l.i → is_hex_digit (get_or l.bytes k 0) ≡ true

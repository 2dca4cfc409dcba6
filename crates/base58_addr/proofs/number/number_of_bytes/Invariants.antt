use Rattle.std.proofs.Common.{◌≡◌, ◌<◌, ◌*◌, ◌^◌, take}
use Rattle.std.specs.Int.Digits.{number_from_digits}
use Rattle.base58_addr.specs.Rebasing.{joined}
use Rattle.base58_addr.proofs.number.number_of_bytes.Given as goal

abbrev pub invariant-loop-byte : goal.invariant-loop-byte
invariant-loop-byte l = record {
  value : joined l.number.high l.number.low ≡ number_from_digits 256 (take l.byte-index l.bytes);
  bound : joined l.number.high l.number.low < 2 ^ (8 * l.byte-index);
  low : l.number.low < 2 ^ 96;
}

use Rattle.std.proofs.Common.{◌≡◌, ◌<◌, ◌^◌, map, take}
use Rattle.std.specs.Int.Digits.{number_from_digits}
use Rattle.base58_addr.specs.Base58.{value_of}
use Rattle.base58_addr.specs.Rebasing.{joined}
use Rattle.base58_addr.proofs.number.number_of_letters.Given as goal

abbrev pub invariant-loop-c : goal.invariant-loop-c
invariant-loop-c l = record {
  value : joined l.number.high l.number.low ≡ number_from_digits 58 (map value_of (take l.c-index l.text));
  high : l.number.high < 2 ^ 104;
  low : l.number.low < 2 ^ 96;
}

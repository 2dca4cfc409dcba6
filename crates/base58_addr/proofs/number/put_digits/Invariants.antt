use Rattle.std.proofs.Common.{◌≡◌, ◌<◌, ◌-◌, ◌^◌, drop, length}
use Rattle.std.specs.Int.Digits.{number_from_digits_after, AllBelowBase}
use Rattle.base58_addr.specs.Rebasing.{joined}
use Rattle.base58_addr.proofs.number.put_digits.Given as goal

abbrev pub invariant-loop-i : goal.invariant-loop-i
invariant-loop-i l = record {
  value : number_from_digits_after l.base (joined l.left.high l.left.low) (drop (length l.room - l.i) l.room) ≡ joined l.fn.number.high l.fn.number.low;
  below : AllBelowBase l.base (drop (length l.room - l.i) l.room);
  low : l.left.low < 2 ^ 96;
}

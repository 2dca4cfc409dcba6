use Rattle.std.proofs.Common.{◌≡◌, map, take}
use Rattle.segwit_addr.specs.Bech32.{value_of}
use Rattle.segwit_addr.proofs.decoding.put_values.Given as goal

abbrev pub invariant-loop-i : goal.invariant-loop-i
invariant-loop-i l = take l.i l.room ≡ map value_of (take l.i l.letters)

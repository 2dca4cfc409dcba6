use Rattle.std.proofs.Common.{◌≡◌, ◌++◌, ◌*◌, map}
use Rattle.std.specs.List.{range_with_len}
use Rattle.segwit_addr.specs.Regrouping.{eight_bits}
use Rattle.segwit_addr.proofs.program.push_bytes.Given as goal

abbrev pub invariant-loop-i : goal.invariant-loop-i
invariant-loop-i l = l.bytes.items ≡ l.initial.bytes.items ++ map (λ i. eight_bits l.values (8 * i)) (range_with_len 0 l.i)

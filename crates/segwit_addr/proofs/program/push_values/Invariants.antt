use Rattle.std.proofs.Common.{◌≡◌, ◌++◌, ◌*◌, map}
use Rattle.std.specs.List.{range_with_len}
use Rattle.segwit_addr.specs.Regrouping.{five_bits}
use Rattle.segwit_addr.proofs.program.push_values.Given as goal

abbrev pub invariant-loop-i : goal.invariant-loop-i
invariant-loop-i l = l.values.items ≡ l.initial.values.items ++ map (λ i. five_bits l.bytes (5 * i)) (range_with_len 0 l.i)

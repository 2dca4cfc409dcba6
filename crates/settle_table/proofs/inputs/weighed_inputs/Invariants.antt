use Rattle.std.proofs.Common.{◌≡◌, take}
use Rattle.std.specs.Prelude.{map}
use Rattle.std.specs.List.{zip}
use Rattle.settle_table.specs.Weighed.{weighed_of}
use Rattle.settle_table.proofs.inputs.weighed_inputs.Given as goal

abbrev pub invariant-loop-i : goal.invariant-loop-i
invariant-loop-i l = l.found.items ≡ map (weighed_of l.segwit) (take l.i (zip l.inputs l.declared))

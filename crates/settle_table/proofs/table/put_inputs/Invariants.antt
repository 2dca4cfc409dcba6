use Rattle.std.proofs.Common.{◌≡◌, ◌++◌, take, string_bytes}
use Rattle.std.specs.List.{flat_map}
use Rattle.settle_table.specs.Table.{weighs_line}
use Rattle.settle_table.proofs.table.put_inputs.Given as goal

abbrev pub invariant-loop-input : goal.invariant-loop-input
invariant-loop-input l = string_bytes l.text ≡ string_bytes l.initial.text ++ flat_map weighs_line (take l.input-index l.inputs)

use Rattle.std.proofs.Common.{◌≡◌, ◌++◌, take}
use Rattle.std.specs.List.{flat_map, zip}
use Rattle.psbt_codec.specs.Psbt.{map_text, input_fields}
use Rattle.psbt_codec.proofs.field_writing.write_inputs.Given as goal

abbrev pub invariant-loop-index : goal.invariant-loop-index
invariant-loop-index l = l.out.items ≡ l.fn.out.items ++ flat_map (λ k. map_text (input_fields k)) (take l.index (zip l.inputs l.spent))

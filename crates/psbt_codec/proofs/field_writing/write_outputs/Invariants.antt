use Rattle.std.proofs.Common.{◌≡◌, ◌++◌, take}
use Rattle.std.specs.List.{flat_map}
use Rattle.psbt_codec.specs.Psbt.{map_text, output_fields}
use Rattle.psbt_codec.proofs.field_writing.write_outputs.Given as goal

abbrev pub invariant-loop-output : goal.invariant-loop-output
invariant-loop-output l = l.out.items ≡ l.fn.out.items ++ flat_map (λ o. map_text (output_fields o)) (take l.output-index l.outputs)

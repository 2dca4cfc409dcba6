use Rattle.std.proofs.Common.{◌≡◌, ◌++◌, take}
use Rattle.std.specs.List.{flat_map}
use Rattle.psbt_codec.specs.Psbt.{map_text, input_map}
use Rattle.psbt_codec.proofs.writing.write_inputs.Given as goal

abbrev pub invariant-loop-known : goal.invariant-loop-known
invariant-loop-known l = l.out.items ≡ l.fn.out.items ++ flat_map (λ s. map_text (input_map s)) (take l.known-index l.spent)

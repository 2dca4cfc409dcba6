use Rattle.std.proofs.Common.{◌≡◌, ◌++◌, take, All}
use Rattle.std.specs.List.{flat_map}
use Rattle.psbt_codec.specs.Psbt.{pair_text}
use Rattle.psbt_keys.specs.Pairs.{HasLengths}
use Rattle.psbt_keys.proofs.pairs.write_pairs.Given as goal

abbrev pub invariant-loop-pair : goal.invariant-loop-pair
invariant-loop-pair l = (l.out.items ≡ l.fn.out.items ++ flat_map pair_text (take l.pair-index l.pairs)) × All HasLengths (take l.pair-index l.pairs)

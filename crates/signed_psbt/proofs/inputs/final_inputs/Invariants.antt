use Rattle.std.proofs.Common.{◌≡◌, ◌++◌, ℕ, List, length, All}
use Rattle.std.specs.List.{flat_map}
use Rattle.psbt_codec.specs.Psbt.{Pair, map_text}
use Rattle.signed_psbt.specs.Maps.{ArePairs}
use Rattle.signed_psbt.proofs.InputLaws.{MadeSoFar}
use Rattle.signed_psbt.proofs.inputs.final_inputs.Given as goal

abbrev pub invariant-making : goal.invariant-making
invariant-making l = (maps : List (List Pair)) (behind : List ℕ) → All ArePairs maps → length maps ≡ length l.inputs → l.fn.cursor.rest ≡ flat_map map_text maps ++ behind → MadeSoFar l.inputs maps behind l.i l.made.items l.cursor.rest

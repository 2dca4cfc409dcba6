use Rattle.std.proofs.Common.{◌≡◌, ◌++◌, ℕ, List, length, All}
use Rattle.std.specs.Prelude.{AllPairs}
use Rattle.std.specs.List.{flat_map}
use Rattle.psbt_codec.specs.Psbt.{HaveOtherKeys, Pair, map_text}
use Rattle.signed_psbt.specs.Maps.{ArePairs}
use Rattle.psbt_keys.specs.Origins.{input_dues}
use Rattle.psbt_keys.proofs.MapsLaws.{AddedSoFar}
use Rattle.psbt_keys.proofs.adding.add_inputs.Given as goal

abbrev pub invariant-adding : goal.invariant-adding
invariant-adding l = (maps : List (List Pair)) (behind : List ℕ) → All ArePairs maps → All (AllPairs HaveOtherKeys) maps → length l.inputs ≡ length maps → length l.spent ≡ length maps → l.fn.cursor.rest ≡ flat_map map_text maps ++ behind
    → AddedSoFar (input_dues l.keys l.inputs l.spent) maps l.fn.out.items behind l.i l.out.items l.cursor.rest

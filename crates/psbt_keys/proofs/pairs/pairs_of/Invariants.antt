use Rattle.std.proofs.Common.{◌≡◌, ◌++◌, ℕ, List, length}
use Rattle.psbt_codec.specs.Psbt.{Pair, map_text}
use Rattle.signed_psbt.specs.Maps.{ArePairs}
use Rattle.psbt_keys.proofs.ReadLaws.{ReadSoFar}
use Rattle.psbt_keys.proofs.pairs.pairs_of.Given as goal

abbrev pub invariant-reading : goal.invariant-reading
invariant-reading l = (pairs : List Pair) (behind : List ℕ) → ArePairs pairs → l.fn.cursor.rest ≡ map_text pairs ++ behind → ReadSoFar pairs behind l.pairs.items l.cursor.rest

abbrev pub decreases-reading : goal.decreases-reading
decreases-reading l = length l.cursor.rest

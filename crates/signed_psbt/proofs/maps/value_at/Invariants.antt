use Rattle.std.proofs.Common.{◌≡◌, ◌++◌, ℕ, List, length}
use Rattle.std.specs.Prelude.{option_copied}
use Rattle.psbt_codec.specs.Psbt.{Pair, map_text}
use Rattle.signed_psbt.specs.Maps.{ArePairs}
use Rattle.signed_psbt.proofs.MapLaws.{Looked}
use Rattle.signed_psbt.proofs.maps.value_at.Given as goal

abbrev pub invariant-looking : goal.invariant-looking
invariant-looking l = (pairs : List Pair) (behind : List ℕ) → ArePairs pairs → l.fn.cursor.rest ≡ map_text pairs ++ behind → Looked l.kind pairs behind (option_copied l.found) l.cursor.rest

abbrev pub decreases-looking : goal.decreases-looking
decreases-looking l = length l.cursor.rest

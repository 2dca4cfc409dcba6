-- Pairs of a map.
use Rattle.std.specs.Prelude.{ℕ, List, ◌∷◌, slice_index}
use Rattle.psbt_codec.specs.Psbt.{IsString, Pair}

-- a pair whose key is a type of one byte and the bytes that the type asks for
abbrev pub pair_of_type : ℕ → List ℕ → List ℕ → Pair
pair_of_type kind key_data value = record { key = kind ∷ key_data; value = value }

-- the type of such a pair
abbrev pub type_of : Pair → ℕ
type_of p = slice_index p.key 0

-- a key and a value whose lengths fit
abbrev pub HasLengths : Pair → Type 0
HasLengths p = IsString p.key × IsString p.value

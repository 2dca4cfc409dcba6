-- Pairs that bytes are known to spell.
use Rattle.std.specs.Prelude.{ℕ, ◌≡◌, ◌≢◌, List, [], ◌∷◌, All, Option, Some, None, bytes_eq, if◌then◌else◌}
use Rattle.std.specs.Borrow.{Bor}
use Rattle.psbt_codec.specs.Psbt.{Pair, IsString}

-- a pair whose key isn't empty, and whose lengths fit
pub record IsPlain (p : Pair) : Type 0 where
  pub some : p.key ≢ []
  pub key : IsString p.key
  pub value : IsString p.value

abbrev pub ArePairs : List Pair → Type 0
ArePairs pairs = All IsPlain pairs

-- a key and a value that are those of the pair
abbrev pub Tells : Option (Bor (List ℕ) × Bor (List ℕ)) → Pair → Type 0
Tells None p = ⊥
Tells (Some x) p = (x.0.now ≡ p.key) × (x.1.now ≡ p.value)

-- what was found before, or else the value where its key is the type
abbrev pub first_of : ℕ → Option (List ℕ) → (key value : List ℕ) → Option (List ℕ)
first_of kind (Some found) key value = Some found
first_of kind None key value = if bytes_eq key (kind ∷ []) then Some value else None

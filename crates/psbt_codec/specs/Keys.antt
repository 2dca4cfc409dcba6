-- The keys of pairs, kept in order beside them.
use Rattle.std.specs.Prelude.{ℕ, ◌≡◌, Bool, List}
use Rattle.std.specs.Borrow.{Bor}
use Rattle.std.specs.BTreeSet.{BTreeSet, contains_by}
use Rattle.std.specs.Cmp.Lexicographic.{slice_cmp}
use Rattle.std.specs.Ordering.{nat_cmp}
use Rattle.psbt_codec.specs.Psbt.{Pair}
use Rattle.psbt_codec.specs.Reading.{has_key}

-- a key of the set is these bytes
abbrev pub is_among : List ℕ → BTreeSet (Bor (List ℕ)) → Bool
is_among key keys = contains_by (λ (k : Bor (List ℕ)). slice_cmp nat_cmp key k.now) keys

-- the set has the keys of the pairs and no other
abbrev pub AreKeysOf : List Pair → BTreeSet (Bor (List ℕ)) → Type 0
AreKeysOf pairs keys = (key : List ℕ) → is_among key keys ≡ has_key key pairs

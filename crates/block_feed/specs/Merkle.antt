-- The Merkle tree of a block, level by level (Bitcoin's developer reference, 'Merkle Trees').
use Rattle.std.specs.Prelude.{ℕ, zero, suc, ◌≡◌, ◌+◌, ◌*◌, ◌<◌, Bool, false, ◌||◌, List, [], ◌∷◌, ◌++◌, length, slice_index_or, nat_lt, bytes_eq, if◌then◌else◌}
use Rattle.sha2.specs.Sha256.{sha256}

-- the digest by which Bitcoin names blocks and transactions: SHA-256 of SHA-256
abbrev pub double_sha256 : List ℕ → List ℕ
double_sha256 bytes = sha256 (sha256 bytes)

-- the hash above two hashes of a level
unfoldable pub hash_above : List ℕ → List ℕ → List ℕ
hash_above left right = double_sha256 (left ++ right)

-- the level above: the hash above each hash at an even place and the next; an odd level repeats its last hash
abbrev pub level_above : List (List ℕ) → List (List ℕ)
level_above [] = []
level_above (last ∷ []) = hash_above last last ∷ []
level_above (left ∷ right ∷ hashes) = hash_above left right ∷ level_above hashes

-- the level so many steps above these hashes
abbrev pub level : ℕ → List (List ℕ) → List (List ℕ)
level zero hashes = hashes
level (suc steps) hashes = level steps (level_above hashes)

-- the root of these hashes: the one hash of the first level that has no two
pub record IsRoot (hashes : List (List ℕ)) (root : List ℕ) : Type 0 where
  pub steps : ℕ
  pub top : level steps hashes ≡ root ∷ []
  pub below : (lower : ℕ) → lower < steps → 1 < length (level lower hashes)

-- Some level of two or more hashes has equal hashes at an even place and the next. Other lists of
-- transactions then have the same root (CVE-2012-2459).
pub record IsMutated (hashes : List (List ℕ)) : Type 0 where
  pub steps : ℕ
  pub place : ℕ
  pub below : (lower : ℕ) → lower < steps → 1 < length (level lower hashes)
  pub there : 2 * place + 1 < length (level steps hashes)
  pub equal : slice_index_or (level steps hashes) (2 * place) [] ≡ slice_index_or (level steps hashes) (2 * place + 1) []

-- ---- the same, worked out

-- a level has equal hashes at an even place and the next
abbrev pub has_twins : List (List ℕ) → Bool
has_twins [] = false
has_twins (last ∷ []) = false
has_twins (left ∷ right ∷ hashes) = bytes_eq left right || has_twins hashes

-- the first hash, and 32 zero bytes where there is none
abbrev pub first_hash : List (List ℕ) → List ℕ
first_hash [] = 0 ∷ 0 ∷ 0 ∷ 0 ∷ 0 ∷ 0 ∷ 0 ∷ 0 ∷ 0 ∷ 0 ∷ 0 ∷ 0 ∷ 0 ∷ 0 ∷ 0 ∷ 0 ∷ 0 ∷ 0 ∷ 0 ∷ 0 ∷ 0 ∷ 0 ∷ 0 ∷ 0 ∷ 0 ∷ 0 ∷ 0 ∷ 0 ∷ 0 ∷ 0 ∷ 0 ∷ 0 ∷ []
first_hash (first ∷ hashes) = first

-- the root, at most so many levels above
unfoldable pub root_within : ℕ → List (List ℕ) → List ℕ
root_within zero hashes = first_hash hashes
root_within (suc steps) hashes = if nat_lt 1 (length hashes) then root_within steps (level_above hashes) else first_hash hashes

-- the root of these hashes; each level of two or more is longer than the one above
abbrev pub merkle_root : List (List ℕ) → List ℕ
merkle_root hashes = root_within (length hashes) hashes

-- some level, at most so many levels above, is mutated
unfoldable pub mutated_within : ℕ → List (List ℕ) → Bool
mutated_within zero hashes = false
mutated_within (suc steps) hashes = if nat_lt 1 (length hashes) then has_twins hashes || mutated_within steps (level_above hashes) else false

-- some level of these hashes is mutated
abbrev pub is_mutated : List (List ℕ) → Bool
is_mutated hashes = mutated_within (length hashes) hashes

-- A whole block file.
use Rattle.std.specs.Prelude.{ℕ, ◌≡◌, List, [], ◌∷◌, All}
use Rattle.block_feed.specs.Block.{ChainBlock, Begins}

-- nothing, or zero bytes alone
abbrev pub IsTail : List ℕ → Type 0
IsTail bytes = All (λ b. b ≡ 0) bytes

-- The bytes are the records of these blocks in order, the first linked to this hash and height and each
-- other to the one before it, and then zero bytes or nothing.
abbrev pub IsBlockFile : List ℕ → ℕ → List ChainBlock → List ℕ → Type 0
IsBlockFile hash height [] bytes = IsTail bytes
IsBlockFile hash height (block ∷ blocks) bytes = (rest : List ℕ) × Begins hash height block bytes rest × IsBlockFile block.hash block.height blocks rest

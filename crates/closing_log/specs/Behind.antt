-- What a writer keeps that passes over the first bytes.
use Rattle.std.specs.Prelude.{ℕ, ◌≡◌, ◌-◌, List, [], ◌∷◌, length, drop}

-- A list stands for a place and the bytes that were taken: those behind the place were kept, and so many are still
-- to be passed over.
abbrev pub KeepsBehind : List ℕ → ℕ → List ℕ → Type 0
KeepsBehind kept left [] = ⊥
KeepsBehind kept left (from ∷ taken) = (kept ≡ drop from taken) × (left ≡ from - length taken)

-- Where bytes leave the texts of a grammar; `Means text x` says that a text of the grammar means x.
use Rattle.std.specs.Prelude.{ℕ, ◌≡◌, ◌≤◌, ◌<◌, ◌+◌, List, [], ◌∷◌, ◌++◌, length, take}

-- some text of the grammar begins with these bytes
pub record Begins {X : Type 0} (Means : List ℕ → X → Type 0) (front : List ℕ) : Type 0 where
  pub more : List ℕ
  pub value : X
  pub means : Means (front ++ more) value

-- The place is the first byte at which no text of the grammar goes on as the bytes do, or their length where they
-- end too early: some text begins with the bytes before the place, none with those up to and with it, and the
-- whole is no text.
pub record IsFirstFault {X : Type 0} (Means : List ℕ → X → Type 0) (bytes : List ℕ) (place : ℕ) : Type 0 where
  pub within : place ≤ length bytes
  pub begins : Begins Means (take place bytes)
  pub never : place < length bytes → Begins Means (take (place + 1) bytes) → ⊥
  pub whole : (x : X) → Means bytes x → ⊥

-- the same by what is left where reading stops
abbrev pub NoneGoesOn : {X : Type 0} → (List ℕ → X → Type 0) → List ℕ → List ℕ → Type 0
NoneGoesOn Means front [] = Unit {0}
NoneGoesOn Means front (b ∷ rest) = Begins Means (front ++ b ∷ []) → ⊥

pub record StopsAt {X : Type 0} (Means : List ℕ → X → Type 0) (bytes stop : List ℕ) : Type 0 where
  pub front : List ℕ
  pub parts : bytes ≡ front ++ stop
  pub begins : Begins Means front
  pub never : NoneGoesOn Means front stop

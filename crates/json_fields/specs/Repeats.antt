-- Which entry of a list comes again first.
use Rattle.std.specs.Prelude.{ℕ, ◌≡◌, ◌≢◌, List, ◌∷◌, ◌++◌, length, AllPairs, Contains}

-- the entry at this place stands before it too, and of those before it no two are the same
pub record IsFirstRepeat {X : Type 0} (entries : List X) (place : ℕ) : Type 0 where
  pub front : List X
  pub again : X
  pub back : List X
  pub parts : entries ≡ front ++ again ∷ back
  pub place_is : place ≡ length front
  pub stood : Contains front again
  pub distinct : AllPairs (λ (a b : X). a ≢ b) front

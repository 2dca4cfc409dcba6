-- Coins that are looked up by their outpoints.
use Rattle.std.specs.Prelude.{ℕ, ◌≡◌, ◌≢◌, ◌⊎◌, List, ◌∷◌, ◌++◌, slice_get, All, Contains, Option, Some, None}
use Rattle.std.specs.Map.{lookup}
use Rattle.fund_base.specs.Outpoints.{same_outpoint}
use Rattle.coin_candidates.specs.declared.candidate.Candidate.{Candidate}
use Rattle.fund_base.specs.declared.outpoint.OutPoint.{OutPoint}
use Rattle.output_groups.specs.Ladder.{Meets}
use Rattle.output_groups.specs.declared.rows.Row.{Row}
use Rattle.tx_codec.specs.declared.tx.TxIn.{TxIn}

-- none of the coins is at an outpoint
abbrev pub NoneAt : List Candidate → OutPoint → Type 0
NoneAt coins point = (c : Candidate) → Contains coins c → c.coin ≢ point

-- one of the coins at an outpoint, or that there is none
abbrev pub IsCoinAt : List Candidate → OutPoint → Option Candidate → Type 0
IsCoinAt coins point (Some c) = Contains coins c × (c.coin ≡ point)
IsCoinAt coins point None = NoneAt coins point

-- where one of the coins at an outpoint stands, or that there is none
abbrev pub IsPlaceAt : List Candidate → OutPoint → Option ℕ → Type 0
IsPlaceAt coins point (Some i) = (c : Candidate) × (slice_get coins i ≡ Some c) × (c.coin ≡ point)
IsPlaceAt coins point None = NoneAt coins point

-- the entries of a map say this of every outpoint
abbrev pub ArePlaces : List Candidate → List (OutPoint × ℕ) → Type 0
ArePlaces coins entries = (point : OutPoint) → IsPlaceAt coins point (lookup (same_outpoint point) entries)

-- a coin is a preset, or one of the others that meets the row, where there is one
abbrev pub MayTake : List Candidate → List Candidate → Option Row → Candidate → Type 0
MayTake presets rest row c = Contains presets c ⊎ (Contains rest c × ((r : Row) × (row ≡ Some r) × Meets r c))

-- such a coin at the outpoint that an input spends
abbrev pub Takes : List Candidate → List Candidate → Option Row → TxIn → Candidate → Type 0
Takes presets rest row i c = MayTake presets rest row c × (c.coin ≡ i.prev)

-- there is one
abbrev pub CanTake : List Candidate → List Candidate → Option Row → TxIn → Type 0
CanTake presets rest row i = (c : Candidate) × Takes presets rest row i c

-- such a coin at an outpoint, or that there is none
abbrev pub IsTakenAt : List Candidate → List Candidate → Option Row → OutPoint → Option Candidate → Type 0
IsTakenAt presets rest row point (Some c) = MayTake presets rest row c × (c.coin ≡ point)
IsTakenAt presets rest row point None = (c : Candidate) → MayTake presets rest row c → c.coin ≢ point

-- the first of the inputs at whose outpoint there is none
pub record IsFirstUntaken (presets rest : List Candidate) (row : Option Row) (inputs : List TxIn) (point : OutPoint) : Type 0 where
  pub front : List TxIn
  pub input : TxIn
  pub back : List TxIn
  pub parts : inputs ≡ front ++ input ∷ back
  pub before : All (CanTake presets rest row) front
  pub point_is : input.prev ≡ point
  pub none : (c : Candidate) → MayTake presets rest row c → c.coin ≢ point

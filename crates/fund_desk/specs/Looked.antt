-- Which coins of a payment can't be spent any more, by what they are looked up in.
use Rattle.std.specs.Prelude.{ℕ, ◌≡◌, ◌||◌, not, false, List, Bool, Option, Some, None, find, if◌then◌else◌}
use Rattle.std.specs.Map.{lookup}
use Rattle.std.specs.Option.{option_map_or}
use Rattle.indexmap.specs.IndexSet.{contains}
use Rattle.fund_base.specs.Outpoints.{same_outpoint}
use Rattle.coin_candidates.specs.declared.candidate.Candidate.{Candidate}
use Rattle.fund_base.specs.declared.outpoint.OutPoint.{OutPoint}
use Rattle.fund_steps.specs.Plan.{may_be_listed}
use Rattle.request_text.specs.PlainRequest.{PlainRequest}
use Rattle.desk_machine.specs.State.{Payment, has_point, is_reserved}
use Rattle.desk_machine.specs.Taken.{meets_row, same_coin}
use Rattle.fund_desk.specs.declared.taken.Look.{Look}

-- the coin is at this outpoint
abbrev pub is_at : OutPoint → Candidate → Bool
is_at o c = same_outpoint o c.coin

-- what stands at a coin's outpoint, if it is that coin
abbrev pub same_as : Candidate → Option Candidate → Option Candidate
same_as c None = None
same_as c (Some there) = if same_coin c there then Some there else None

-- it is looked up in the coins that these payments spend, in the outpoints that are listed, and in the coins that may be
-- spent now
pub record IsLookOf (committed : List Payment) (points : List OutPoint) (now : List Candidate) (look : Look) : Type 0 where
  pub reserved : (o : OutPoint) → contains same_outpoint look.reserved o ≡ is_reserved committed o
  pub listed : (o : OutPoint) → contains same_outpoint look.listed o ≡ has_point points o
  pub coins : (o : OutPoint) → lookup (same_outpoint o) look.coins.entries ≡ find (is_at o) now

-- a coin that may be spent now is good for a payment of this row
abbrev pub good_in : Look → PlainRequest → ℕ → Candidate → Bool
good_in look r number c = if contains same_outpoint look.listed c.coin then may_be_listed r c else meets_row r number c

-- the coin can't be spent by a payment of this row any more
abbrev pub taken_in : Look → PlainRequest → ℕ → Candidate → Bool
taken_in look r number c =
    contains same_outpoint look.reserved c.coin || not (option_map_or (good_in look r number) (same_as c (lookup (same_outpoint c.coin) look.coins.entries)) false)

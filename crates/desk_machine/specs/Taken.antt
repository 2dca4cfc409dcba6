-- Which coins of a payment can't be spent any more when it is committed.
use Rattle.std.specs.Prelude.{ℕ, ◌==◌, ◌&&◌, ◌||◌, not, false, List, Bool, Option, bytes_eq, find, if◌then◌else◌}
use Rattle.std.specs.List.{list_any}
use Rattle.std.specs.Option.{option_map_or}
use Rattle.fund_base.specs.Outpoints.{same_outpoint}
use Rattle.coin_candidates.specs.declared.candidate.Candidate.{Candidate}
use Rattle.fund_steps.specs.Plan.{may_be_listed}
use Rattle.output_groups.specs.Ladder.{ladder_of, reaches}
use Rattle.output_groups.specs.declared.rows.Row.{Row}
use Rattle.request_text.specs.PlainRequest.{PlainRequest}
use Rattle.desk_machine.specs.State.{Payment, has_point, is_reserved}

-- both are the same output, of the same value, weight and script
abbrev pub same_coin : Candidate → Candidate → Bool
same_coin a b = same_outpoint a.coin b.coin && ((a.value == b.value) && ((a.weight == b.weight) && bytes_eq a.script b.script))

-- the row has this number, and the coin meets it
abbrev pub meets_numbered : ℕ → Candidate → Row → Bool
meets_numbered number c row = (row.number == number) && reaches row c.mine c.safe c.depth c.ancestors c.descendants

-- the row of this number is one of the request's, and the coin meets it
abbrev pub meets_row : PlainRequest → ℕ → Candidate → Bool
meets_row r number c = list_any (meets_numbered number c) (ladder_of r.zero_conf r.include_unsafe)

-- A coin that may be spent now is good for a payment of this row: one that the request lists is safe, unless the request
-- takes unsafe ones; another meets the row.
abbrev pub is_good : PlainRequest → ℕ → Candidate → Bool
is_good r number c = if has_point r.coins c.coin then may_be_listed r c else meets_row r number c

-- the coin as it may be spent now, if it may
abbrev pub coin_now : List Candidate → Candidate → Option Candidate
coin_now now c = find (same_coin c) now

-- a committed payment spends the coin, or it may not be spent now, or it isn't good for the row any more
abbrev pub is_taken : List Payment → List Candidate → PlainRequest → ℕ → Candidate → Bool
is_taken committed now r number c = is_reserved committed c.coin || not (option_map_or (is_good r number) (coin_now now c) false)

-- the first such coin
abbrev pub first_taken : List Payment → List Candidate → PlainRequest → ℕ → List Candidate → Option Candidate
first_taken committed now r number coins = find (is_taken committed now r number) coins

-- Lines of a report beside coins, one after another.
use Rattle.std.specs.Prelude.{◌≡◌, ◌≢◌, List, [], ◌∷◌, Option, Some, None}
use Rattle.coin_candidates.specs.declared.candidate.Candidate.{Candidate}
use Rattle.fund_report.specs.declared.report.InLine.{InLine}
use Rattle.report_check.specs.Payment.{line_of}

-- the line isn't that of the first coin, or there is none
abbrev pub IsOtherLine : InLine → List Candidate → Type 0
IsOtherLine l [] = Unit {0}
IsOtherLine l (c ∷ cs) = l ≢ line_of c

-- what is left behind the first coin, whose line it is; or that isn't so
abbrev pub Matches : InLine → List Candidate → Option (List Candidate) → Type 0
Matches l coins (Some rest) = (c : Candidate) × (coins ≡ c ∷ rest) × (l ≡ line_of c)
Matches l coins None = IsOtherLine l coins

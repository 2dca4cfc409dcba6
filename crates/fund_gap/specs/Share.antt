-- What is missing where the recipients bear the fee.
use Rattle.std.specs.Prelude.{ℕ, ◌≡◌, ◌<◌, List, Option, Some, None}
use Rattle.coin_candidates.specs.declared.candidate.Candidate.{Candidate}
use Rattle.request_text.specs.PlainRequest.{PlainRequest}
use Rattle.fee_sharing.specs.RowShares.{KeepsWorth, least_worth, worth_pool}
use Rattle.fee_sharing.specs.Sweep.{last_row}
use Rattle.fund_gap.specs.Gap.{gap_from, reach_in}
use Rattle.fund_gap.specs.declared.gap.Gap.{Gap}

-- The coins of the last row of the ladder count with all that they are worth, and what the recipients are asked to get is needed.
abbrev pub share_gap : PlainRequest → List Candidate → Gap
share_gap r cs = gap_from (reach_in (worth_pool r (last_row r) cs)).value 0 (least_worth r)

-- it; none where the row keeps more than 10,000 groups
abbrev pub IsShareGap : PlainRequest → List Candidate → Option Gap → Type 0
IsShareGap r cs (Some gap) = gap ≡ share_gap r cs
IsShareGap r cs None = (n : ℕ) × KeepsWorth r (last_row r) cs n × (10_000 < n)

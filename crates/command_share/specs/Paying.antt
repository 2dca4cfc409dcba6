-- A payment whose recipients bear the fee, and what each of them is left with.
use Rattle.std.specs.Prelude.{ℕ, ◌+◌, nat_lt, List, [], ◌∷◌, suc, map, length, Option, Some, None, if◌then◌else◌}
use Rattle.coin_candidates.specs.declared.candidate.Candidate.{Candidate}
use Rattle.fee_rates.specs.Output.{dust_of}
use Rattle.fee_sharing.specs.Shares.{left_of, share_of}
use Rattle.output_groups.specs.declared.rows.Row.{Row}
use Rattle.request_text.specs.PlainRequest.{PlainRequest}
use Rattle.request_text.specs.declared.request.Recipient.{Recipient}
use Rattle.command_amounts.specs.Amounts.{amounts_of, with_amounts}

-- The coins of a row that are spent, the change, and what the recipients bear, in satoshi; and the declared weight of the
-- payment, in weight units.
pub record PlainPaying : Type 0 where
  pub row : Row
  pub coins : List Candidate
  pub change : Option ℕ
  pub borne : ℕ
  pub weight : ℕ

-- the dust threshold of each recipient's script, in satoshi (Bitcoin Core, `GetDustThreshold`)
abbrev pub dusts_of : PlainRequest → List ℕ
dusts_of r = map (λ (q : Recipient). dust_of q.script) r.recipients

-- what each recipient is left with that bears its share of a sum
abbrev pub amounts_left : PlainRequest → (borne : ℕ) → List ℕ
amounts_left r borne = left_of borne (amounts_of r)

-- the request with these amounts
abbrev pub shared_request : PlainRequest → (borne : ℕ) → PlainRequest
shared_request r borne = with_amounts r (amounts_left r borne)

-- the first amount from this place that is below its share and its dust threshold together, if one is
abbrev pub short_from : (borne count place : ℕ) → (amounts dusts : List ℕ) → Option ℕ
short_from borne count place [] dusts = None
short_from borne count place (a ∷ others) [] = None
short_from borne count place (a ∷ others) (d ∷ ds) = if nat_lt a (share_of borne count place + d) then Some place else short_from borne count (suc place) others ds

-- the first recipient that can't bear its share
abbrev pub short_in : PlainRequest → (borne : ℕ) → Option ℕ
short_in r borne = short_from borne (length (amounts_of r)) 0 (amounts_of r) (dusts_of r)

-- A payment of all coins to one recipient.
use Rattle.std.specs.Prelude.{ℕ, ℤ, pos, ◌≡◌, ◌≤◌, ◌<◌, ◌+◌, ◌-ℤ◌, ◌<ℤ◌, ◌⊎◌, All, Contains, false, true, List, [], length, min, sum_by, None, if◌then◌else◌}
use Rattle.std.specs.List.{flat_map}
use Rattle.coin_candidates.specs.declared.candidate.Candidate.{Candidate}
use Rattle.fee_rates.specs.Fee.{fee_of, vsize_of}
use Rattle.fee_rates.specs.Output.{output_size_of}
use Rattle.fee_rates.specs.Terms.{base_of}
use Rattle.fee_rates.specs.declared.terms.PaymentLoad.{PaymentLoad}
use Rattle.output_groups.specs.Ladder.{Meets, confirmed_row, pending_row, unsafe_row}
use Rattle.output_groups.specs.PlainPool.{PlainPool}
use Rattle.output_groups.specs.Pool.{CountsKept}
use Rattle.output_groups.specs.PoolOf.{pool_of}
use Rattle.output_groups.specs.declared.rows.Row.{Row}
use Rattle.request_text.specs.PlainRequest.{PlainRequest, paid_to}
use Rattle.request_text.specs.declared.request.Recipient.{Recipient}
use Rattle.fund_steps.specs.Amounts.{charges_of, prices_of, value_of}
use Rattle.fund_steps.specs.Selection.{AreSorted, in_order}
use Rattle.fund_plan.specs.Pays.{payment_weight}
use Rattle.fee_sharing.specs.declared.fault.SweepFault.{SweepFault}
use Rattle.fee_sharing.specs.declared.fault.SweepFault.TheVariants as fault
use Rattle.fee_sharing.specs.declared.swept.Swept.{Swept}
use Rattle.fee_sharing.specs.declared.swept.Swept.TheVariants as swept

-- the last row of the request's ladder: the laxest
abbrev pub last_row : PlainRequest → Row
last_row r = if r.zero_conf then (if r.include_unsafe then unsafe_row else pending_row 6 24 true) else confirmed_row 2 1

-- the pool of that row: each coin is a group by itself, and counts by what it brings beyond its input's fee and its price
abbrev pub sweep_pool : PlainRequest → List Candidate → PlainPool
sweep_pool r cs = pool_of false (last_row r) r.rate r.long_term cs

-- all coins of the pool, in the order of their outpoints
abbrev pub all_of : PlainPool → List Candidate
all_of pool = in_order (flat_map (λ (g : List Candidate). g) pool.groups)

abbrev pub swept_of : PlainRequest → List Candidate → List Candidate
swept_of r cs = all_of (sweep_pool r cs)

-- what a payment of these coins and without change is to carry
unfoldable pub sweep_load : PlainRequest → List Candidate → PaymentLoad
sweep_load r coins = record {
  paid = paid_to r.recipients;
  outputs = min (sum_by (λ (q : Recipient). output_size_of q.script) r.recipients) 1_000_000_000;
  count = min (length r.recipients) 1_000_000_000;
  coins = length coins;
  preset_effective = pos 0;
  preset_weight = 0;
  has_presets = false;
  burden = 0;
  change_size = 0;
  change_weight = 0;
  change_dust = 0;
}

-- its declared weight, in weight units: that of its base and of its inputs
abbrev pub sweep_weight : PlainRequest → List Candidate → ℕ
sweep_weight r coins = payment_weight (sweep_load r coins) coins None

-- What is left for the recipient: what the coins are worth less the fees of their inputs and their prices, less the fee of
-- the base. It may be below zero.
abbrev pub sweep_amount : PlainRequest → List Candidate → ℤ
sweep_amount r coins = (pos (value_of coins) -ℤ pos (charges_of r.rate coins)) -ℤ pos (fee_of r.rate (vsize_of (base_of (sweep_load r coins))))

-- What a sweep comes to. Short: there is no coin, or less is left than the request asks for. Paid: these are the coins, and
-- this is what is left, no less than that.
abbrev pub IsSwept : PlainRequest → List Candidate → Swept → Type 0
IsSwept r cs swept.Short = (swept_of r cs ≡ []) ⊎ (sweep_amount r (swept_of r cs) <ℤ pos (paid_to r.recipients))
IsSwept r cs (swept.Paid coins amount) =
    (coins.items ≡ swept_of r cs) × (0 < length coins.items) × (pos amount ≡ sweep_amount r coins.items) × (paid_to r.recipients ≤ amount)

-- How its coins and its money stand. They are candidates, each once, that meet the last row of the ladder. The payment
-- weighs at most 400,000 weight units. The coins pay for the amount, the fee of that weight at the rate, and their prices.
pub record PaysSwept (r : PlainRequest) (cs coins : List Candidate) (amount : ℕ) : Type 0 where
  pub held : All (Contains cs) coins
  pub meet : All (Meets (last_row r)) coins
  pub sorted : AreSorted coins
  pub light : sweep_weight r coins ≤ 400_000
  pub fee_covers : amount + fee_of r.rate (vsize_of (sweep_weight r coins)) + prices_of coins ≤ value_of coins

abbrev pub IsSweptBy : PlainRequest → List Candidate → Swept → Type 0
IsSweptBy r cs swept.Short = Unit {0}
IsSweptBy r cs (swept.Paid coins amount) = PaysSwept r cs coins.items amount

-- the last row of the ladder keeps so many coins
abbrev pub KeepsAlone : PlainRequest → List Candidate → ℕ → Type 0
KeepsAlone r cs n = CountsKept false (last_row r) r.rate cs n

-- Why nothing is swept: the row keeps more than 10,000 coins; or it doesn't, and all of them with the base weigh more than
-- 400,000 weight units.
abbrev pub IsSweepFault : PlainRequest → List Candidate → SweepFault → Type 0
IsSweepFault r cs (fault.TooMany n) = KeepsAlone r cs n × (10_000 < n)
IsSweepFault r cs (fault.TooHeavy weight) = (weight ≡ sweep_weight r (swept_of r cs)) × (400_000 < weight) × ((n : ℕ) → KeepsAlone r cs n → n ≤ 10_000)
IsSweepFault r cs fault.Memory = Unit {0}

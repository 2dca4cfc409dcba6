-- The most that listed coins pay, where no other coin is added.
use Rattle.std.specs.Prelude.{ℕ, ℤ, pos, ◌≡◌, ◌+◌, ◌-ℤ◌, ◌<ℤ◌, ◌⊎◌, List, map, IsSome, Option, Some, None}
use Rattle.coin_candidates.specs.declared.candidate.Candidate.{Candidate}
use Rattle.fee_rates.specs.Fee.{fee_of, vsize_of}
use Rattle.fee_rates.specs.Terms.{base_of}
use Rattle.request_text.specs.PlainRequest.{PlainRequest, paid_to}
use Rattle.request_text.specs.declared.request.Method.TheVariants.{Manual}
use Rattle.wallet_text.specs.declared.wallet.Watch.{Watch}
use Rattle.fund_steps.specs.Amounts.{charges_of, value_of}
use Rattle.fund_steps.specs.Faults.{fault_of}
use Rattle.fund_steps.specs.Listed.{presets_in}
use Rattle.fund_steps.specs.Plan.{IsPlan, PlainPlan}
use Rattle.fund_steps.specs.Terms.{load_of}
use Rattle.fund_plan.specs.Pays.{payment_of, recipient_output}
use Rattle.fund_plan.specs.Selection.{PlainFunded}

-- The fee of the payment without its inputs and without change, in satoshi: that of its base.
abbrev pub base_fee : PlainRequest → Watch → List Candidate → ℕ
base_fee r change coins = fee_of r.rate (vsize_of (base_of (load_of r change coins 0)))

-- What is left of coins for those who are paid, in satoshi: what they are worth, less the fees of their inputs and their prices, less the
-- fee of the base. It may be below zero.
abbrev pub max_amount : PlainRequest → Watch → List Candidate → ℤ
max_amount r change coins = (pos (value_of coins) -ℤ pos (charges_of r.rate coins)) -ℤ pos (base_fee r change coins)

-- the same of the coins that each payment of a plan spends
abbrev pub max_of : PlainPlan → ℤ
max_of p = max_amount p.request p.change (presets_in p)

-- exactly the listed coins are spent, and no payment is replaced
pub record IsListedAlone (p : PlainPlan) : Type 0 where
  pub method : p.request.method ≡ Manual
  pub bump : p.bump ≡ None

-- A payment that leaves nothing over. It spends the listed coins, and it has no change: its outputs are those of the recipients. What the
-- coins are worth goes to these, to the fees of the inputs and the prices of the coins, and to the fee of the base.
pub record PaysAll (p : PlainPlan) (f : PlainFunded) : Type 0 where
  pub coins : f.coins ≡ presets_in p
  pub change : f.change ≡ None
  pub outputs : (payment_of p.request p.change f).outputs ≡ map recipient_output p.request.recipients
  pub money : value_of f.coins ≡ paid_to p.request.recipients + base_fee p.request p.change f.coins + charges_of p.request.rate f.coins

-- a plan that replaces no payment
abbrev pub plan_with : PlainRequest → Watch → List Candidate → PlainPlan
plan_with r change candidates = record { request = r; change = change; candidates = candidates; bump = None }

-- The most that the listed coins of a plan pay; none where a payment is replaced, where no plan is made, or where nothing is left.
abbrev pub IsMaximum : PlainPlan → Option ℕ → Type 0
IsMaximum p (Some n) = (p.request.bump ≡ None) × IsPlan p × (pos n ≡ max_of p)
IsMaximum p None = IsSome p.request.bump ⊎ (IsSome (fault_of p) ⊎ (max_of p <ℤ pos 0))

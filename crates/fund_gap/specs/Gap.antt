-- What the coins of a plan bring toward a payment, what it needs, and what is missing.
use Rattle.std.specs.Prelude.{ℕ, ◌≡◌, ◌+◌, ◌-◌, ◌⊎◌, Bool, true, false, List, length, sum_by, IsSome, Option, Some, None, if◌then◌else◌}
use Rattle.coin_candidates.specs.declared.candidate.Candidate.{Candidate}
use Rattle.fee_rates.specs.Fee.{fee_of, vsize_of}
use Rattle.fee_rates.specs.Terms.{base_of}
use Rattle.fee_rates.specs.declared.terms.PaymentLoad.{PaymentLoad}
use Rattle.output_groups.specs.PlainPool.{PlainPool}
use Rattle.output_groups.specs.PoolOf.{pool_of}
use Rattle.output_groups.specs.declared.rows.Row.{Row}
use Rattle.pick_problem.specs.declared.item.Item.{Item}
use Rattle.request_text.specs.PlainRequest.{PlainRequest}
use Rattle.request_text.specs.declared.request.Method.{Method}
use Rattle.request_text.specs.declared.request.Method.TheVariants as methods
use Rattle.fund_steps.specs.Amounts.{charges_of, value_of}
use Rattle.fund_steps.specs.Basis.{Basis, basis_of, load_alone}
use Rattle.fund_steps.specs.Faults.{fault_of}
use Rattle.fund_steps.specs.Plan.{IsPlan, PlainPlan}
use Rattle.fund_steps.specs.Searches.{load_with}
use Rattle.fee_sharing.specs.Sweep.{last_row}
use Rattle.fund_gap.specs.declared.gap.Gap.{Gap}
use Rattle.fund_gap.specs.declared.reach.Reach.{Reach}

-- ---- the coins that may be added

-- what the groups of a pool bring together beyond their fees and prices, and how many coins they have
abbrev pub reach_in : PlainPool → Reach
reach_in pool = record { value = sum_by (λ (i : Item). i.value) pool.items; coins = sum_by (λ (g : List Candidate). length g) pool.groups }

-- those of the pool of a row
abbrev pub reach_of : Bool → Row → (rate long_term : ℕ) → List Candidate → Reach
reach_of group row rate long_term cs = reach_in (pool_of group row rate long_term cs)

abbrev pub is_manual : Method → Bool
is_manual methods.Manual = true
is_manual methods.Auto = false
is_manual methods.Changeless = false
is_manual methods.Weight = false
is_manual methods.Draw = false

abbrev pub no_reach : Reach
no_reach = record { value = 0; coins = 0 }

-- A method adds coins of the last row of the ladder, which takes all that the rows before it take; `manual` adds none.
abbrev pub reach_by : PlainRequest → List Candidate → Reach
reach_by r rest = if is_manual r.method then no_reach else reach_of r.group (last_row r) r.rate r.long_term rest

-- ---- what is missing

-- what coins of this worth bring beyond these charges, and what is missing of what is needed
abbrev pub gap_from : (worth charges needs : ℕ) → Gap
gap_from worth charges needs = record { brings = worth - charges; needs = needs; missing = needs + charges - worth }

-- what a payment needs beside the fees of its inputs: the recipients' amounts, the fee of its base, and the burden of a replacement
abbrev pub need_of : (rate : ℕ) → PaymentLoad → ℕ
need_of rate l = l.paid + fee_of rate (vsize_of (base_of l)) + l.burden

-- The presets are spent in any case: they count with their worth, and with the fees of their inputs and their prices. What may be added
-- counts with what it brings beyond these.
abbrev pub gap_by : Basis → Reach → Gap
gap_by b added = gap_from (value_of b.presets + added.value) (charges_of b.request.rate b.presets) (need_of b.request.rate (load_with (load_alone b) added.coins))

unfoldable pub gap_of : Basis → Gap
gap_of b = gap_by b (reach_by b.request b.rest)

-- what is missing of a plan; none where a payment is replaced, or no plan is made
abbrev pub IsGapOf : PlainPlan → Option Gap → Type 0
IsGapOf p (Some gap) = IsPlan p × (gap ≡ gap_of (basis_of p))
IsGapOf p None = IsSome p.request.bump ⊎ IsSome (fault_of p)

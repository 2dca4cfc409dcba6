-- What is missing of a plan, by what each call gave.
use Rattle.std.specs.Prelude.{ℕ, ◌≡◌, ◌+◌, ◌-◌, ◌≤◌, ◌<◌, All, IfErr, IfOk, OnOk, IsSome, List, length, sum, sum_by, Option, Some, None, Result, Ok, Err}
use Rattle.std.proofs.Common.{refl, sym, ap, subst, ◌∙◌, inl, inr, arith}
use Rattle.std.proofs.lemmas.List.Elements.{All-weaker}
use Rattle.coin_candidates.specs.declared.candidate.Candidate.{Candidate}
use Rattle.fee_rates.specs.declared.terms.PaymentLoad.{PaymentLoad}
use Rattle.fee_rates.specs.declared.terms.Rates.{Rates}
use Rattle.fund_base.specs.declared.memory.Memory.{Memory}
use Rattle.output_groups.specs.Ladder.{ladder_of, unsafe_row}
use Rattle.output_groups.specs.PlainGroups.{PlainGroups, pool_in}
use Rattle.output_groups.specs.Pool.{IsPoolFault}
use Rattle.output_groups.specs.declared.fault.PoolFault.{PoolFault}
use Rattle.output_groups.specs.declared.fault.PoolFault.TheVariants as pools
use Rattle.output_groups.specs.declared.rows.Row.{Row}
use Rattle.pick_problem.specs.Pool.{AreItems, IsItem}
use Rattle.pick_problem.specs.declared.item.Item.{Item}
use Rattle.fund_steps.proofs.FaultLaws.{fault_found}
use Rattle.fund_steps.proofs.MakingLaws.{total}
use Rattle.fund_steps.specs.Amounts.{charges_of, value_of}
use Rattle.fund_steps.specs.Basis.{Basis, basis_of, load_alone}
use Rattle.fund_steps.specs.Faults.{fault_of}
use Rattle.fund_steps.specs.Listed.{presets_in}
use Rattle.fund_steps.specs.Plan.{IsPlan, IsPlanFault, IsRoomy, PlainPlan, ladder_in}
use Rattle.fund_steps.specs.Searches.{load_with, sizes_of}
use Rattle.fund_steps.specs.Selection.{unlisted}
use Rattle.fund_steps.specs.Terms.{load_of, rates_of}
use Rattle.fund_steps.specs.declared.fault.PlanFault.{PlanFault}
use Rattle.fund_steps.specs.declared.fault.PlanFault.TheVariants as plans
use Rattle.fee_sharing.proofs.SweepLaws.{last_is, some_rows}
use Rattle.fee_sharing.specs.Sweep.{last_row}
use Rattle.fund_gap.specs.Gap.{IsGapOf, gap_by, gap_from, gap_of, need_of, reach_in}
use Rattle.fund_gap.specs.declared.gap.Gap.{Gap}
use Rattle.fund_gap.specs.declared.reach.Reach.{Reach}

-- ---- pools

pub values_fit : (items : List Item) → AreItems items → All (λ (i : Item). i.value ≤ 210_000_000_000_000_000) items
values_fit items fit = All-weaker IsItem (λ (i : Item). i.value ≤ 210_000_000_000_000_000) (λ i one. one.value.1) items fit.each

pub reach_is : (g : PlainGroups) (row : Row) (items : List Item) (sizes : List ℕ) (r : Reach) → items ≡ (pool_in g row).items → sizes ≡ sizes_of (pool_in g row).groups → r.value ≡ sum_by (λ (i : Item). i.value) items → r.coins ≡ sum sizes → r ≡ reach_in (pool_in g row)
reach_is g row items sizes r items_are sizes_are value coins =
    λ k. record {
      value = (value ∙ ap (sum_by (λ (i : Item). i.value)) items_are) k;
      coins = (coins ∙ ap (λ (l : List ℕ). sum l) sizes_are ∙ total (pool_in g row).groups) k;
    }

-- ---- figures

load_coins : (b : Basis) → (load_alone b).coins ≡ length b.presets
unfolding load_of
load_coins b = refl

pub gap_is : (p : PlainPlan) (added : Reach) (x : Rates) (l m : PaymentLoad) (presets : List Candidate) (worth charges needs coins : ℕ)
    → x ≡ rates_of p.request → l ≡ load_alone (basis_of p) → presets ≡ presets_in p → coins ≡ length presets + added.coins → m ≡ record l { coins = coins } → worth ≡ value_of presets + added.value → charges ≡ charges_of x.rate presets
    → needs ≡ need_of x.rate m → gap_from worth charges needs ≡ gap_by (basis_of p) added
gap_is p added x l m presets worth charges needs coins rates load same count more worth_is charges_is needs_is =
    let b = basis_of p in
    let coins_are : coins ≡ (load_alone b).coins + added.coins = count ∙ (λ k. length (same k) + added.coins) ∙ ap (λ (n : ℕ). n + added.coins) (sym (load_coins b)) in
    let loaded : m ≡ load_with (load_alone b) added.coins = more ∙ (λ k. record (load k) { coins = coins_are k }) in
    λ k. gap_from ((worth_is ∙ (λ j. value_of (same j) + added.value)) k) ((charges_is ∙ (λ j. charges_of (rates j).rate (same j))) k) ((needs_is ∙ (λ j. need_of (rates j).rate (loaded j))) k)

-- ---- plans

roomy_last : (p : PlainPlan) → All (IsRoomy p) (ladder_in p) → IsRoomy p (last_row p.request)
roomy_last p all =
    let z = p.request.zero_conf in
    let u = p.request.include_unsafe in
    let some = some_rows z u in
    subst (IsRoomy p) (last_is z u unsafe_row) (all (length (ladder_of z u) - 1) unsafe_row (omega (arith, some)))

pub gap_made : (p funds : PlainPlan) (gap : Result Gap PoolFault) (r : Result (Option Gap) Memory) → funds ≡ p → IsPlan funds → IfOk gap (λ g. g ≡ gap_of (basis_of funds))
    → IfErr gap (IsPoolFault p.request.group (last_row p.request) p.request.rate (unlisted p.request.coins funds.candidates)) → IfOk gap (λ g. r ≡ Ok (Some g)) → ((n : ℕ) → gap ≡ Err (pools.TooMany n) → r ≡ Ok None) → (gap ≡ Err pools.Memory → OnOk r ⊥)
    → IfOk r (IsGapOf p)
gap_made p funds (Ok g) r same plan is fault some many short = subst (λ (x : Result (Option Gap) Memory). IfOk x (IsGapOf p)) (sym some) (subst IsPlan same plan, is ∙ ap (λ (q : PlainPlan). gap_of (basis_of q)) same)
gap_made p funds (Err (pools.TooMany n)) r same plan is fault some many short =
    let roomy = roomy_last p (subst IsPlan same plan).roomy in
    let kept = subst (λ (q : PlainPlan). IsPoolFault p.request.group (last_row p.request) p.request.rate (unlisted p.request.coins q.candidates) (pools.TooMany n)) same fault in
    let few : n ≤ 10_000 = roomy n kept.0 in
    absurd (omega (arith, few, kept.1))
gap_made p funds (Err pools.Memory) (Ok o) same plan is fault some many short = absurd (short refl)
gap_made p funds (Err pools.Memory) (Err e) same plan is fault some many short = tt

-- a plan that isn't made
pub refused_is : (p : PlainPlan) (fault : PlanFault) (r : Result (Option Gap) Memory) → IsPlanFault p fault → IfOk r (λ o. (o ≡ None) × (fault ≡ plans.Memory → ⊥)) → IfOk r (IsGapOf p)
refused_is p fault (Ok None) faulty told = inr (subst IsSome (sym (fault_found p fault faulty told.1)) refl)
refused_is p fault (Ok (Some g)) faulty told = let same = told.0 in absurd cc
refused_is p fault (Err e) faulty told = tt

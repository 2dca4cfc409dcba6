-- What is reckoned is the most that listed coins pay.
use Rattle.std.specs.Prelude.{ℕ, ℤ, pos, ◌≡◌, ◌≢◌, ◌-ℤ◌, ◌<ℤ◌, ◌≤ℤ◌, neg_ℤ, false, List, IfOk, IfSome, IsSome, is_some, Option, Some, None, Result, Ok, Err}
use Rattle.std.proofs.Common.{refl, sym, ap, subst, ◌∙◌, inl, inr, arith}
use Rattle.std.proofs.lemmas.Int.{to_z-of_z}
use mir.Syntax.{w128}
use mir.Val.{of_z, to_z}
use Rattle.coin_candidates.specs.declared.candidate.Candidate.{Candidate}
use Rattle.fee_rates.specs.Fee.{fee_of, vsize_of}
use Rattle.fee_rates.specs.Terms.{base_of}
use Rattle.fee_rates.specs.declared.terms.PaymentLoad.{PaymentLoad}
use Rattle.fee_rates.specs.declared.terms.Rates.{Rates}
use Rattle.fund_base.specs.declared.memory.Memory.{Memory}
use Rattle.fund_steps.proofs.FaultLaws.{fault_found}
use Rattle.fund_steps.specs.Amounts.{charges_of, value_of}
use Rattle.fund_steps.specs.Faults.{fault_of}
use Rattle.fund_steps.specs.Listed.{burden_in, presets_in}
use Rattle.fund_steps.specs.Plan.{IsPlan, IsPlanFault, PlainPlan}
use Rattle.fund_steps.specs.Terms.{load_of, rates_of}
use Rattle.fund_steps.specs.declared.fault.PlanFault.{PlanFault}
use Rattle.fund_steps.specs.declared.fault.PlanFault.TheVariants as plans
use Rattle.coin_maximum.specs.Maximum.{IsMaximum, max_of}
use Rattle.coin_maximum.proofs.MaximumLaws.{base_is}

-- an amount within its bounds is passed on as it is
pub passed_on : (z : ℤ) → neg_ℤ (pos 1_000_000_000_000_000_000_000_000) ≤ℤ z → z ≤ℤ pos 2_100_000_000_000_000 → to_z w128 (of_z w128 z) ≡ z
passed_on z low high = grind (arith, to_z-of_z)

-- a payment that is none's replacement
pub no_bump : (o : Option (List ℕ)) → is_some o ≡ false → o ≡ None
no_bump None it = refl
no_bump (Some x) it = absurd cc

-- by what each call gave
pub left_is : (p : PlainPlan) (x : Rates) (l : PaymentLoad) (base : ℕ) (coins : List Candidate) → x ≡ rates_of p.request → l ≡ load_of p.request p.change (presets_in p) (burden_in p) → base ≡ base_of l → coins ≡ presets_in p
    → ((pos (value_of coins) -ℤ pos (charges_of x.rate coins)) -ℤ pos (fee_of x.rate (vsize_of base))) ≡ max_of p
left_is p x l base coins rates load base_same coins_same =
    let left : Rates → ℕ → List Candidate → ℤ = λ x b cs. (pos (value_of cs) -ℤ pos (charges_of x.rate cs)) -ℤ pos (fee_of x.rate (vsize_of b)) in
    ap (λ (y : Rates). left y base coins) rates
    ∙ ap (λ (cs : List Candidate). left (rates_of p.request) base cs) coins_same
    ∙ ap (λ (b : ℕ). left (rates_of p.request) b (presets_in p)) (base_same ∙ ap (λ (y : PaymentLoad). base_of y) load)
    ∙ ap (λ (n : ℕ). (pos (value_of (presets_in p)) -ℤ pos (charges_of p.request.rate (presets_in p))) -ℤ pos n) (base_is p.request p.change (presets_in p) (burden_in p))

pub maximum_is : (p funds : PlainPlan) (z : ℤ) (o : Option ℕ) → p.request.bump ≡ None → funds ≡ p → IsPlan funds → z ≡ max_of funds → IfSome o (λ n. pos n ≡ z) → (o ≡ None → z <ℤ pos 0) → IsMaximum p o
maximum_is p funds z (Some n) bump same plan left some none = (bump, subst IsPlan same plan, some ∙ left ∙ ap (λ (q : PlainPlan). max_of q) same)
maximum_is p funds z None bump same plan left some none = inr (inr (subst (λ (x : ℤ). x <ℤ pos 0) (left ∙ ap (λ (q : PlainPlan). max_of q) same) (none refl)))

-- a plan that isn't made
pub refused_is : (p : PlainPlan) (fault : PlanFault) (r : Result (Option ℕ) Memory) → IsPlanFault p fault → IfOk r (λ o. (o ≡ None) × (fault ≢ plans.Memory)) → IfOk r (IsMaximum p)
refused_is p fault (Ok None) faulty told = inr (inl (subst IsSome (sym (fault_found p fault faulty told.1)) refl))
refused_is p fault (Ok (Some n)) faulty told = let same = told.0 in absurd cc
refused_is p fault (Err e) faulty told = tt

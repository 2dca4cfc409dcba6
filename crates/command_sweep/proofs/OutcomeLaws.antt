-- What the files mean is what they come to.
use Rattle.std.specs.Prelude.{ℕ, ℤ, pos, negsuc, ◌≡◌, ◌≤◌, ◌<◌, ◌<ℤ◌, ◌||◌, ◌==◌, nat_lt, Bool, true, false, List, [], length, Err}
use Rattle.std.proofs.Common.{refl, sym, ap, subst, ◌∙◌, inl, inr, arith}
use Rattle.std.proofs.lemmas.Int.{ints}
use Rattle.std.proofs.lemmas.Bool.{cases_Bool, cond-false, cond-true, eqb-true, le-ltb, lt-ltb}
use Rattle.block_feed.specs.Block.{ChainBlock}
use Rattle.coin_candidates.specs.declared.candidate.Candidate.{Candidate}
use Rattle.output_groups.proofs.CountLaws.{one_count}
use Rattle.output_groups.proofs.FormedLaws.{counts}
use Rattle.fee_sharing.specs.Sweep.{KeepsAlone, last_row, sweep_amount, sweep_weight, swept_of}
use Rattle.fund_steps.specs.Amounts.{value_of}
use Rattle.fund_steps.specs.declared.fault.PlanFault.{PlanFault}
use Rattle.fund_steps.specs.declared.fault.PlanFault.TheVariants as plans
use Rattle.request_text.specs.PlainRequest.{PlainRequest, paid_to}
use Rattle.wallet_text.specs.PlainWallet.{PlainWallet}
use Rattle.fund_files.specs.Cause.{FileCause}
use Rattle.fund_files.specs.Chain.{chain_from}
use Rattle.fund_files.specs.declared.chain.Chain.{Chain}
use Rattle.command_end.specs.Names.{Sources}
use Rattle.command_inputs.specs.Cause.{Cause, Files, Bump, Plan}
use Rattle.command_inputs.specs.Names.{Payment}
use Rattle.command_inputs.specs.Outcome.{none_report}
use Rattle.command_amounts.proofs.FileLaws.{all_held, meant_refused}
use Rattle.command_amounts.specs.Coins.{coins_for}
use Rattle.command_amounts.specs.Files.{held_in}
use Rattle.command_sweep.proofs.AskedLaws.{taken, untaken}
use Rattle.command_sweep.specs.Inputs.{AreInputs, CanSweep, IsMeant, IsNotSweep, IsTooHeavy, KeepsFromSweep}
use Rattle.command_sweep.specs.Outcome.{NoSelection, NotSweep, Refused, Swept, TooHeavy, by_amount, by_candidates, by_coins, by_files, by_test, kept_alone, outcome_of, sweep_report, swept}
use Rattle.command_sweep.specs.Results.{IsShort, SweepsAll}

-- ---- the files

pub inputs_due : (files : List ℕ → List ℕ) (s : Sources) (p : Payment) (w : PlainWallet) (blocks : List ChainBlock) (r : PlainRequest) → AreInputs files s p w blocks r → outcome_of files s p ≡ swept (chain_from w blocks) r
inputs_due files s p w blocks r h = ap by_files (all_held files s p w blocks r h.all) ∙ ap (by_test (chain_from w blocks) r) (taken r h.taken)

pub not_sweep_due : (files : List ℕ → List ℕ) (s : Sources) (p : Payment) → IsNotSweep files s p → outcome_of files s p ≡ NotSweep
not_sweep_due files s p h = ap by_files (all_held files s p h.wallet h.blocks h.asked h.all) ∙ ap (by_test (chain_from h.wallet h.blocks) h.asked) (untaken h.asked h.other)

pub files_refused : (files : List ℕ → List ℕ) (s : Sources) (p : Payment) (cause : FileCause) → held_in files s p ≡ Err cause → outcome_of files s p ≡ Refused (Files cause)
files_refused files s p cause is = ap by_files is

-- ---- what is due for a request

pos_less : (n m : ℕ) → pos n <ℤ pos m → n < m
pos_less n m less = grind (arith, ints, less)

module _ (k : Chain) (r : PlainRequest) where
  abbrev cs : List Candidate
  cs = coins_for k r

  abbrev coins : List Candidate
  coins = swept_of r cs

  kept_is : (n : ℕ) → KeepsAlone r cs n → n ≡ kept_alone r cs
  kept_is n keeps = one_count false (last_row r) r.rate cs n (kept_alone r cs) keeps (counts false (last_row r) r.rate cs)

  within_due : value_of cs ≤ 2_100_000_000_000_000 → swept k r ≡ by_candidates k r cs
  unfolding swept
  within_due within = cond-false (nat_lt 2_100_000_000_000_000 (value_of cs)) (Refused (Plan (plans.Total (value_of cs)))) (by_candidates k r cs) (le-ltb 2_100_000_000_000_000 (value_of cs) within)

  few_due : ((n : ℕ) → KeepsAlone r cs n → n ≤ 10_000) → by_candidates k r cs ≡ by_coins k r coins
  few_due few =
      cond-false (nat_lt 10_000 (kept_alone r cs)) (Refused (Plan (plans.TooMany (last_row r).number (kept_alone r cs)))) (by_coins k r coins)
      (le-ltb 10_000 (kept_alone r cs) (few (kept_alone r cs) (counts false (last_row r) r.rate cs)))

  light_due : sweep_weight r coins ≤ 400_000 → by_coins k r coins ≡ by_amount k r coins (sweep_amount r coins)
  light_due light = cond-false (nat_lt 400_000 (sweep_weight r coins)) (TooHeavy (sweep_weight r coins)) (by_amount k r coins (sweep_amount r coins)) (le-ltb 400_000 (sweep_weight r coins) light)

  pub total_due : (sum : ℕ) → sum ≡ value_of cs → 2_100_000_000_000_000 < sum → swept k r ≡ Refused (Plan (plans.Total sum))
  unfolding swept
  total_due sum is over =
      cond-true (nat_lt 2_100_000_000_000_000 (value_of cs)) (Refused (Plan (plans.Total (value_of cs)))) (by_candidates k r cs) (lt-ltb 2_100_000_000_000_000 (value_of cs) (subst (λ (n : ℕ). 2_100_000_000_000_000 < n) is over))
      ∙ ap (λ (n : ℕ). Refused (Plan (plans.Total n))) (sym is)

  pub many_due : (n : ℕ) → value_of cs ≤ 2_100_000_000_000_000 → KeepsAlone r cs n → 10_000 < n → swept k r ≡ Refused (Plan (plans.TooMany (last_row r).number n))
  many_due n within keeps many =
      within_due within
      ∙ (cond-true (nat_lt 10_000 (kept_alone r cs)) (Refused (Plan (plans.TooMany (last_row r).number (kept_alone r cs)))) (by_coins k r coins) (lt-ltb 10_000 (kept_alone r cs) (subst (λ (m : ℕ). 10_000 < m) (kept_is n keeps) many))
      ∙ ap (λ (m : ℕ). Refused (Plan (plans.TooMany (last_row r).number m))) (sym (kept_is n keeps)))

  pub heavy_due : (weight : ℕ) → IsTooHeavy k r weight → swept k r ≡ TooHeavy weight
  heavy_due weight h =
      within_due h.worth ∙ (few_due h.few
      ∙ (cond-true (nat_lt 400_000 (sweep_weight r coins)) (TooHeavy (sweep_weight r coins)) (by_amount k r coins (sweep_amount r coins)) (lt-ltb 400_000 (sweep_weight r coins) (subst (λ (n : ℕ). 400_000 < n) h.weight_is h.heavy))
      ∙ ap TooHeavy (sym h.weight_is)))

  can_due : CanSweep k r → swept k r ≡ by_amount k r coins (sweep_amount r coins)
  can_due h = within_due h.worth ∙ (few_due h.few ∙ light_due h.light)

  -- ---- short or paid

  or_right : (b : Bool) → (b || true) ≡ true
  or_right true = refl
  or_right false = refl

  none_by : (l : List Candidate) (z : ℤ) → l ≡ [] → by_amount k r l z ≡ NoSelection (none_report 0)
  none_by l (pos n) e =
      cond-true ((length l == 0) || nat_lt n (paid_to r.recipients)) (NoSelection (none_report 0)) (Swept (sweep_report k r l n)) (ap (λ (x : List Candidate). (length x == 0) || nat_lt n (paid_to r.recipients)) e)
  none_by l (negsuc n) e = refl

  less_by : (l : List Candidate) (z : ℤ) → z <ℤ pos (paid_to r.recipients) → by_amount k r l z ≡ NoSelection (none_report 0)
  less_by l (pos n) less =
      cond-true ((length l == 0) || nat_lt n (paid_to r.recipients)) (NoSelection (none_report 0)) (Swept (sweep_report k r l n))
      (ap (λ (b : Bool). (length l == 0) || b) (lt-ltb n (paid_to r.recipients) (pos_less n (paid_to r.recipients) less)) ∙ or_right (length l == 0))
  less_by l (negsuc n) less = refl

  pub short_due : CanSweep k r → IsShort k r → swept k r ≡ NoSelection (none_report 0)
  short_due can (inl e) = can_due can ∙ none_by coins (sweep_amount r coins) e
  short_due can (inr less) = can_due can ∙ less_by coins (sweep_amount r coins) less

  some_false : (l : List Candidate) → 0 < length l → (length l == 0) ≡ false
  some_false l some = elim (cases_Bool (length l == 0)) as (λ _. (length l == 0) ≡ false) [
    | inl is ↦ absurd (let z = eqb-true (length l) 0 is in omega (arith, z, some))
    | inr fails ↦ fails
  ]

  pub paid_due : CanSweep k r → (l : List Candidate) (amount : ℕ) → SweepsAll k r l amount → swept k r ≡ Swept (sweep_report k r l amount)
  paid_due can l amount h =
      can_due can
      ∙ (ap (λ (x : List Candidate). by_amount k r x (sweep_amount r x)) (sym h.coins_are)
      ∙ (ap (by_amount k r l) (sym h.amount_is)
      ∙ cond-false ((length l == 0) || nat_lt amount (paid_to r.recipients)) (NoSelection (none_report 0)) (Swept (sweep_report k r l amount))
      (ap (λ (b : Bool). b || nat_lt amount (paid_to r.recipients)) (some_false l h.some) ∙ le-ltb amount (paid_to r.recipients) h.enough)))

  pub fault_due : (fault : PlanFault) → KeepsFromSweep k r fault → swept k r ≡ Refused (Plan fault)
  fault_due (plans.Total sum) h = total_due sum h.0 h.1
  fault_due (plans.NotEligible point) h = absurd h
  fault_due (plans.TooMany number n) h = many_due n h.0 h.2 h.3 ∙ ap (λ (m : ℕ). Refused (Plan (plans.TooMany m n))) (sym h.1)
  fault_due plans.Memory h = absurd h

pub refusal_due : (files : List ℕ → List ℕ) (s : Sources) (p : Payment) (cause : Cause) → IsMeant files s p cause → outcome_of files s p ≡ Refused cause
refusal_due files s p (Files cause) h = files_refused files s p cause (meant_refused files s p cause h)
refusal_due files s p (Bump fault) h = absurd h
refusal_due files s p (Plan fault) h = inputs_due files s p h.0 h.1 h.2 h.3 ∙ fault_due (chain_from h.0 h.1) h.2 fault h.4

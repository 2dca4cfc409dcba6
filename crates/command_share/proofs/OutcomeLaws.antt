-- What the files mean is what they come to.
use Rattle.std.specs.Prelude.{ℕ, ◌≡◌, ◌≤◌, ◌<◌, nat_lt, List, Some, None, Err}
use Rattle.std.proofs.Common.{sym, ap, subst, ◌∙◌}
use Rattle.std.proofs.lemmas.Bool.{cond-false, cond-true, le-ltb, lt-ltb}
use Rattle.block_feed.specs.Block.{ChainBlock}
use Rattle.coin_candidates.specs.declared.candidate.Candidate.{Candidate}
use Rattle.fund_steps.specs.Amounts.{value_of}
use Rattle.fund_steps.specs.declared.fault.PlanFault.{PlanFault}
use Rattle.fund_steps.specs.declared.fault.PlanFault.TheVariants as plans
use Rattle.psbt_codec.specs.Fault.{shown}
use Rattle.request_text.specs.PlainRequest.{PlainRequest}
use Rattle.wallet_text.specs.PlainWallet.{PlainWallet}
use Rattle.fund_files.specs.Cause.{FileCause}
use Rattle.fund_files.specs.Chain.{chain_from}
use Rattle.fund_files.specs.declared.chain.Chain.{Chain}
use Rattle.command_end.specs.Names.{Sources}
use Rattle.command_inputs.specs.Cause.{Files, Plan}
use Rattle.command_inputs.specs.Names.{Payment}
use Rattle.command_amounts.proofs.FileLaws.{all_held}
use Rattle.command_amounts.specs.Coins.{coins_for}
use Rattle.command_amounts.specs.Files.{held_in}
use Rattle.command_share.proofs.AskedLaws.{taken, untaken}
use Rattle.command_share.specs.Inputs.{AreInputs, IsNotShare}
use Rattle.command_share.specs.Outcome.{NotShare, Refused, ShareDust, Shared, by_candidates, by_end, by_files, by_run, by_short, by_test, log_text, outcome_of, share_report, shared}
use Rattle.command_share.specs.Paying.{PlainPaying, short_in}
use Rattle.command_share.specs.Results.{ComeTo}
use Rattle.command_share.specs.Rows.{PlainRun, searched}
use Rattle.command_share.specs.declared.rows.RowsEnd.{RowsEnd}
use Rattle.command_share.specs.declared.rows.RowsEnd.TheVariants as ends

-- ---- the files

pub inputs_due : (files : List ℕ → List ℕ) (s : Sources) (p : Payment) (w : PlainWallet) (blocks : List ChainBlock) (r : PlainRequest) → AreInputs files s p w blocks r → outcome_of files s p ≡ shared (chain_from w blocks) r
inputs_due files s p w blocks r h = ap by_files (all_held files s p w blocks r h.all) ∙ ap (by_test (chain_from w blocks) r) (taken r h.taken)

pub not_share_due : (files : List ℕ → List ℕ) (s : Sources) (p : Payment) → IsNotShare files s p → outcome_of files s p ≡ NotShare
not_share_due files s p h = ap by_files (all_held files s p h.wallet h.blocks h.asked h.all) ∙ ap (by_test (chain_from h.wallet h.blocks) h.asked) (untaken h.asked h.other)

pub files_refused : (files : List ℕ → List ℕ) (s : Sources) (p : Payment) (cause : FileCause) → held_in files s p ≡ Err cause → outcome_of files s p ≡ Refused (Files cause)
files_refused files s p cause is = ap by_files is

-- ---- what is due for a request

module _ (k : Chain) (r : PlainRequest) where
  abbrev cs : List Candidate
  cs = coins_for k r

  within_due : value_of cs ≤ 2_100_000_000_000_000 → shared k r ≡ by_candidates k r cs
  unfolding shared
  within_due within = cond-false (nat_lt 2_100_000_000_000_000 (value_of cs)) (Refused (Plan (plans.Total (value_of cs)))) (by_candidates k r cs) (le-ltb 2_100_000_000_000_000 (value_of cs) within)

  pub total_due : (sum : ℕ) → sum ≡ value_of cs → 2_100_000_000_000_000 < sum → shared k r ≡ Refused (Plan (plans.Total sum))
  unfolding shared
  total_due sum is over =
      cond-true (nat_lt 2_100_000_000_000_000 (value_of cs)) (Refused (Plan (plans.Total (value_of cs)))) (by_candidates k r cs) (lt-ltb 2_100_000_000_000_000 (value_of cs) (subst (λ (n : ℕ). 2_100_000_000_000_000 < n) is over))
      ∙ ap (λ (n : ℕ). Refused (Plan (plans.Total n))) (sym is)

  pub fault_due : (fault : PlanFault) → value_of cs ≤ 2_100_000_000_000_000 → searched r k.wallet.change cs ≡ Err fault → shared k r ≡ Refused (Plan fault)
  fault_due fault within is = within_due within ∙ ap (by_run k r) is

  run_due : (run : PlainRun) → value_of cs ≤ 2_100_000_000_000_000 → ComeTo k r run → shared k r ≡ by_end k r run run.end
  run_due run within is = within_due within ∙ ap (by_run k r) is

  pub end_due : (run : PlainRun) (end : RowsEnd) → value_of cs ≤ 2_100_000_000_000_000 → ComeTo k r run → run.end ≡ end → shared k r ≡ by_end k r run end
  end_due run end within is e = run_due run within is ∙ ap (by_end k r run) e

  pub dust_due : (run : PlainRun) (f : PlainPaying) (place : ℕ) → value_of cs ≤ 2_100_000_000_000_000 → ComeTo k r run → run.end ≡ ends.Found f → short_in r f.borne ≡ Some place → shared k r ≡ ShareDust (shown place)
  dust_due run f place within is e short = end_due run (ends.Found f) within is e ∙ ap (by_short k r run f) short

  pub paid_due : (run : PlainRun) (f : PlainPaying) → value_of cs ≤ 2_100_000_000_000_000 → ComeTo k r run → run.end ≡ ends.Found f → short_in r f.borne ≡ None → shared k r ≡ Shared (share_report k r run.tries f) (log_text run.sections)
  paid_due run f within is e short = end_due run (ends.Found f) within is e ∙ ap (by_short k r run f) short

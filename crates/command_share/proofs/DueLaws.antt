-- What is due for each cause of a refusal, and for each end of the searches.
use Rattle.std.specs.Prelude.{ℕ, ◌≡◌, ◌≤◌, ◌<◌, ◌+◌, ◌-◌, ◌++◌, true, List, [], ◌∷◌, length, map, Err}
use Rattle.std.proofs.Common.{refl, sym, ap, subst, ◌∙◌, arith, inl, inr}
use Rattle.std.proofs.lemmas.List.{length-map}
use Rattle.block_feed.specs.Block.{ChainBlock}
use Rattle.closing_log.specs.Log.{PlainSection}
use Rattle.closing_log.specs.declared.log.Stage.TheVariants as stage
use Rattle.coin_candidates.specs.declared.candidate.Candidate.{Candidate}
use Rattle.output_groups.proofs.PlacedLaws.{few_kept}
use Rattle.output_groups.proofs.SortLaws.{is_pool}
use Rattle.output_groups.specs.Pool.{item_of}
use Rattle.output_groups.specs.declared.rows.Row.{Row}
use Rattle.pick_problem.proofs.TryStepLaws.{after_done, walk_pieces}
use Rattle.pick_problem.specs.Digest.{digest_of}
use Rattle.pick_problem.specs.Letters.{letters_of}
use Rattle.pick_problem.specs.Problem.{IsProblem, PlainProblem}
use Rattle.pick_problem.specs.Walk.{Walk, walk}
use Rattle.pick_problem.specs.declared.item.Item.{Item}
use Rattle.fee_sharing.specs.RowShares.{IsFinished, KeepsWorth, problem_in, unpriced, worth_pool}
use Rattle.fee_sharing.specs.Shares.{AllReach, AreLeft}
use Rattle.fund_steps.specs.Amounts.{value_of}
use Rattle.fund_steps.specs.declared.fault.PlanFault.{PlanFault}
use Rattle.fund_steps.specs.declared.fault.PlanFault.TheVariants as plans
use Rattle.request_text.specs.PlainRequest.{PlainRequest}
use Rattle.wallet_text.specs.PlainWallet.{PlainWallet}
use Rattle.wallet_text.specs.declared.wallet.Watch.{Watch}
use Rattle.fund_files.specs.Chain.{chain_from}
use Rattle.fund_files.specs.declared.chain.Chain.{Chain}
use Rattle.command_end.specs.Names.{Sources}
use Rattle.command_inputs.specs.Cause.{Cause, Files, Bump, Plan}
use Rattle.command_inputs.specs.Names.{Payment}
use Rattle.command_inputs.specs.Outcome.{none_report}
use Rattle.command_amounts.proofs.FileLaws.{meant_refused}
use Rattle.command_amounts.specs.Coins.{coins_for}
use Rattle.command_share.proofs.BearLaws.{dust_shown, none_short}
use Rattle.command_share.proofs.OutcomeLaws.{end_due, fault_due, files_refused, inputs_due, paid_due, total_due}
use Rattle.command_share.proofs.RowLaws.{crowded_row, none_row}
use Rattle.command_share.proofs.SearchLaws.{first_crowded, second_crowded}
use Rattle.command_share.specs.Inputs.{AreInputs, CantBear, IsCrowded, IsMeant, KeepsFromSharing}
use Rattle.command_share.specs.Outcome.{NoSelection, Refused, ShareDust, Shared, Unfinished, log_text, open_report, outcome_of, share_report, shared}
use Rattle.command_share.specs.Paying.{PlainPaying}
use Rattle.command_share.specs.Results.{IsNone, IsOpen, IsPaid}
use Rattle.command_share.specs.Rows.{HasNone, PlainRun, beginning, first_row, searched, second_row}
use Rattle.command_share.specs.declared.rows.RowsEnd.TheVariants as ends

-- ---- a search that ends with some tries

-- more tries leave it as it is
longer : (x : PlainProblem) (few more : ℕ) → few ≤ more → (walk x few).done ≡ true → walk x more ≡ walk x few
longer x few more le done =
    let all : few + (more - few) ≡ more = omega (arith, le) in
    ap (walk x) (sym all) ∙ (sym (walk_pieces x few (more - few)) ∙ after_done x (walk x few) (more - few) done)

finished_by : (x : PlainProblem) (row few more made : ℕ) (s : PlainSection) → few ≤ more → IsFinished x row few s made → IsFinished x row more s made
finished_by x row few more made s le fin =
    let same = sym (longer x few more le fin.done) in
    record {
      is = subst (λ (v : Walk). s ≡ record { row = row; stage = stage.LeanSmall; digest = digest_of x; letters = letters_of v.tokens; answer = v.best }) same fin.is;
      done = subst (λ (v : Walk). v.done ≡ true) same fin.done;
      tries_are = subst (λ (v : Walk). made ≡ v.tries) same fin.tries_are;
      fits = fin.fits;
      best = fin.best;
      accepted = fin.accepted;
    }

module _ (r : PlainRequest) (w : Watch) (cs : List Candidate) where
  -- a row that is searched keeps few groups
  few_groups : (row : Row) → IsProblem (problem_in r w row cs) → (n : ℕ) → KeepsWorth r row cs n → n ≤ 10_000
  few_groups row fits =
      let pool = worth_pool r row cs in
      let same : length pool.items ≡ length pool.groups = ap (λ (l : List Item). length l) (is_pool r.group row 0 r.long_term (map unpriced cs)).items_are ∙ length-map pool.groups (item_of 0 r.long_term) in
      few_kept r.group row 0 r.long_term (map unpriced cs) (omega (arith, fits.items.few, same))

  -- row 2 keeps too many, and row 1 has no selection
  second_many : (s : PlainSection) (number n : ℕ) → HasNone r w first_row cs s → number ≡ second_row.number → KeepsWorth r second_row cs n → 10_000 < n → searched r w cs ≡ Err (plans.TooMany number n)
  second_many s number n h own keeps many =
      let x = problem_in r w first_row cs in
      let fin : IsFinished x first_row.number (r.tries - beginning.tries) s h.search.tries = finished_by x first_row.number h.search.budget (r.tries - beginning.tries) h.search.tries s (omega (arith, h.search.within)) h.search.finished in
      let first : PlainRun = record { end = ends.Nothing; sections = beginning.sections ++ s ∷ []; tries = beginning.tries + h.search.tries } in
      let made = none_row r w first_row cs beginning s h.search.tries (beginning.sections ++ s ∷ []) (omega arith) (few_groups first_row h.search.finished.fits) fin h.none refl in
      (second_crowded r w cs (plans.TooMany number n) first made.0 refl made.1.0 (crowded_row r w second_row cs first) (own, keeps, many)).0

-- ---- on a chain

module _ (k : Chain) (r : PlainRequest) where
  crowded_due : (number n : ℕ) → IsCrowded k r number n → searched r k.wallet.change (coins_for k r) ≡ Err (plans.TooMany number n)
  crowded_due number n (inl h) = (first_crowded r k.wallet.change (coins_for k r) (plans.TooMany number n) (crowded_row r k.wallet.change first_row (coins_for k r) beginning) h).0
  crowded_due number n (inr h) = second_many r k.wallet.change (coins_for k r) h.1.0 number n h.1.1 h.0 h.2 h.3

  kept_due : (fault : PlanFault) → KeepsFromSharing k r fault → shared k r ≡ Refused (Plan fault)
  kept_due (plans.Total sum) h = total_due k r sum h.0 h.1
  kept_due (plans.NotEligible point) h = absurd h
  kept_due (plans.TooMany number n) h = fault_due k r (plans.TooMany number n) h.0 (crowded_due number n h.1)
  kept_due plans.Memory h = absurd h

  -- amounts that are left reach
  left_reach : (borne : ℕ) (amounts dusts left : List ℕ) → AreLeft borne amounts dusts left → AllReach borne amounts dusts
  left_reach borne amounts dusts left h place below short = omega (arith, short, h.each place below, h.dust place below)

  bears_due : (index : ℕ) → CantBear k r index → shared k r ≡ ShareDust index
  bears_due index h = dust_shown k r h.run h.paying index h.worth h.comes_to h.end_is h.short

  none_due : (run : PlainRun) → value_of (coins_for k r) ≤ 2_100_000_000_000_000 → IsNone k r run → shared k r ≡ NoSelection (none_report run.tries) (log_text run.sections)
  none_due run worth h = end_due k r run ends.Nothing worth h.comes_to h.end_is

  open_due : (run : PlainRun) (number : ℕ) → value_of (coins_for k r) ≤ 2_100_000_000_000_000 → IsOpen k r run number → shared k r ≡ Unfinished (open_report run.tries number)
  open_due run number worth h = end_due k r run (ends.Open number) worth h.comes_to h.end_is

  pays_due : (run : PlainRun) (f : PlainPaying) → value_of (coins_for k r) ≤ 2_100_000_000_000_000 → IsPaid k r run f → shared k r ≡ Shared (share_report k r run.tries f) (log_text run.sections)
  pays_due run f worth h = paid_due k r run f worth h.comes_to h.end_is (none_short r f.borne (left_reach f.borne _ _ _ h.shares))

-- ---- of files

pub refusal_due : (files : List ℕ → List ℕ) (s : Sources) (p : Payment) (cause : Cause) → IsMeant files s p cause → outcome_of files s p ≡ Refused cause
refusal_due files s p (Files cause) h = files_refused files s p cause (meant_refused files s p cause h)
refusal_due files s p (Bump fault) h = absurd h
refusal_due files s p (Plan fault) h = inputs_due files s p h.0 h.1 h.2 h.3 ∙ kept_due (chain_from h.0 h.1) h.2 fault h.4

module _ (files : List ℕ → List ℕ) (s : Sources) (p : Payment) (w : PlainWallet) (blocks : List ChainBlock) (r : PlainRequest) where
  pub share_dust_due : (index : ℕ) → AreInputs files s p w blocks r → CantBear (chain_from w blocks) r index → outcome_of files s p ≡ ShareDust index
  share_dust_due index has h = inputs_due files s p w blocks r has ∙ bears_due (chain_from w blocks) r index h

  pub not_shared_due : (run : PlainRun) → AreInputs files s p w blocks r → value_of (coins_for (chain_from w blocks) r) ≤ 2_100_000_000_000_000 → IsNone (chain_from w blocks) r run → outcome_of files s p ≡ NoSelection (none_report run.tries) (log_text run.sections)
  not_shared_due run has worth h = inputs_due files s p w blocks r has ∙ none_due (chain_from w blocks) r run worth h

  pub unfinished_due : (run : PlainRun) (number : ℕ) → AreInputs files s p w blocks r → value_of (coins_for (chain_from w blocks) r) ≤ 2_100_000_000_000_000 → IsOpen (chain_from w blocks) r run number → outcome_of files s p ≡ Unfinished (open_report run.tries number)
  unfinished_due run number has worth h = inputs_due files s p w blocks r has ∙ open_due (chain_from w blocks) r run number worth h

  pub shared_due : (run : PlainRun) (f : PlainPaying) → AreInputs files s p w blocks r → value_of (coins_for (chain_from w blocks) r) ≤ 2_100_000_000_000_000 → IsPaid (chain_from w blocks) r run f
      → outcome_of files s p ≡ Shared (share_report (chain_from w blocks) r run.tries f) (log_text run.sections)
  shared_due run f has worth h = inputs_due files s p w blocks r has ∙ pays_due (chain_from w blocks) r run f worth h

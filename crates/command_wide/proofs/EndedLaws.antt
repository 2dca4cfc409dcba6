-- How the request of a chain ends is how the files end.
use Rattle.std.specs.Prelude.{ℕ, ◌≡◌, List, Option, None, option_map}
use Rattle.std.proofs.Common.{sym, ap, subst, ◌∙◌}
use Rattle.block_feed.specs.Block.{ChainBlock}
use Rattle.coin_book.specs.Faults.{fault_of as book_fault}
use Rattle.coin_candidates.specs.declared.candidate.Candidate.{Candidate}
use Rattle.fund_plan.proofs.EligibleLaws.{payment_eligible}
use Rattle.fund_plan.specs.Answer.{IsPayment}
use Rattle.fund_plan.specs.Selection.{PlainFunded}
use Rattle.fund_plan.specs.Steps.{steps_of}
use Rattle.fund_report.specs.ReportText.{IsReportText}
use Rattle.fund_report.specs.declared.report.Report.TheVariants as kinds
use Rattle.fund_steps.specs.Plan.{IsPlan, IsPlanFault, PlainPlan}
use Rattle.fund_steps.specs.declared.fault.PlanFault.{PlanFault}
use Rattle.request_text.specs.PlainRequest.{PlainRequest}
use Rattle.search_run.specs.Step.{AreSteps}
use Rattle.wallet_text.specs.PlainWallet.{PlainWallet}
use Rattle.wallet_text.specs.WalletRules.{IsWallet}
use Rattle.wallet_text.specs.declared.wallet.Watch.{Watch}
use Rattle.fund_files.specs.Chain.{IsChain, chain_from}
use Rattle.fund_files.specs.declared.chain.Chain.{Chain}
use Rattle.fund_payment.specs.Report.{report_of}
use Rattle.command_end.specs.Names.{Sources}
use Rattle.command_inputs.proofs.PackageLaws.{pays_for_packages}
use Rattle.command_inputs.proofs.PlanLaws.{same_plan}
use Rattle.command_inputs.proofs.TermsLaws.{spent_made}
use Rattle.command_inputs.specs.Names.{Payment}
use Rattle.command_inputs.specs.Outcome.{bump_of, candidates_by, candidates_in, none_report, plan_of, terms_for}
use Rattle.fee_bump.specs.Bump.{terms_of}
use Rattle.wide_plan.proofs.ClaimLaws.{run_claims, run_left, run_none}
use Rattle.wide_plan.specs.Asked.{IsForWide}
use Rattle.wide_plan.specs.LogText.{text_of}
use Rattle.wide_plan.specs.Payments.{ArePayments, HasSelection}
use Rattle.wide_plan.specs.Run.{PlainWideRun, plan_from, run_of}
use Rattle.wide_plan.specs.declared.outcome.WideOutcome.{WideOutcome}
use Rattle.wide_plan.specs.declared.outcome.WideOutcome.TheVariants as answers
use Rattle.command_wide.proofs.OutcomeLaws.{due_is, inputs_due}
use Rattle.command_wide.proofs.StopLaws.{plan_stops}
use Rattle.command_wide.specs.Endings.{AreNoneTexts, ArePaidTexts, CanReport, IsConcluded, IsEndOf, IsEnded, IsRunOf}
use Rattle.command_wide.specs.Inputs.{AreAsked, AreInputs}
use Rattle.command_wide.specs.Outcome.{Funded, NoSelection, Unfinished, by_answer, open_report, outcome_of}
use Rattle.command_wide.specs.Results.{IsFunded, IsNotFunded, IsUnfinished}
use Rattle.command_wide.specs.Stops.{StopsPlan, fault_stop_of}
use Rattle.command_wide.specs.declared.ending.Ending.{Ending}
use Rattle.command_wide.specs.declared.ending.Ending.TheVariants as endings

-- ---- the plan

-- no payment is replaced
pub none_replaced : (k : Chain) (r : PlainRequest) → IsForWide r → (plan_of k r).bump ≡ None
none_replaced k r wide = ap (λ (o : Option (List ℕ)). option_map bump_of (option_map (λ (txid : List ℕ). terms_of k.wallet k.book k.tip.height r) o)) wide.bump

coins_all : (k : Chain) (r : PlainRequest) → IsForWide r → candidates_by k r.rate (terms_for k r) ≡ candidates_in k r.rate
coins_all k r wide = ap (λ (o : Option (List ℕ)). candidates_by k r.rate (option_map (λ (txid : List ℕ). terms_of k.wallet k.book k.tip.height r) o)) wide.bump

-- the plan that is searched is that of the request
pub plan_is : (k : Chain) (r : PlainRequest) (change : Watch) (coins : List Candidate) → IsForWide r → change ≡ k.wallet.change → coins ≡ candidates_in k r.rate → plan_from r change coins ≡ plan_of k r
plan_is k r change coins wide own all = same_plan k r change coins None own (all ∙ sym (coins_all k r wide)) (sym (none_replaced k r wide))

pub run_is : (k : Chain) (r : PlainRequest) (change : Watch) (coins : List Candidate) (run : PlainWideRun) → IsForWide r → change ≡ k.wallet.change → coins ≡ candidates_in k r.rate → run ≡ run_of (plan_from r change coins) → IsPlan (plan_from r change coins) → AreSteps (steps_of (plan_from r change coins))
    → ArePayments (plan_from r change coins) run.outcome → HasSelection (plan_from r change coins) run.outcome → IsRunOf k r run
run_is k r change coins run wide own all is rules steps pays fits =
    let e = plan_is k r change coins wide own all in
    record {
      is = is ∙ ap run_of e;
      rules = subst IsPlan e rules;
      steps = subst (λ (p : PlainPlan). AreSteps (steps_of p)) e steps;
      pays = subst (λ (p : PlainPlan). ArePayments p run.outcome) e pays;
      fits = subst (λ (p : PlainPlan). HasSelection p run.outcome) e fits;
    }

pub fault_is : (k : Chain) (r : PlainRequest) (change : Watch) (coins : List Candidate) (fault : PlanFault) → IsForWide r → change ≡ k.wallet.change → coins ≡ candidates_in k r.rate → IsPlanFault (plan_from r change coins) fault → StopsPlan k r (fault_stop_of fault)
fault_is k r change coins fault wide own all h = plan_stops k r fault (subst (λ (p : PlainPlan). IsPlanFault p fault) (plan_is k r change coins wide own all) h)

-- ---- what a report needs

pub can_report : (k : Chain) (r : PlainRequest) (run : PlainWideRun) → IsChain k → book_fault k.book ≡ None → IsRunOf k r run → CanReport k r run.outcome
can_report k r run held sound made = by run.outcome made.pays made.fits
  where
    by : (o : WideOutcome) → ArePayments (plan_of k r) o → HasSelection (plan_of k r) o → CanReport k r o
    by (answers.Funded f) pays fits = (fits, spent_made k r held sound f.coins pays.candidates)
    by answers.NoSelection pays fits = tt
    by (answers.Unfinished number) pays fits = tt

-- ---- the files

module _ (told : Type 0) (files : List ℕ → List ℕ) (s : Sources) (p : Payment) (w : PlainWallet) (blocks : List ChainBlock) (r : PlainRequest) (inputs : told → AreInputs files s p w blocks r) (wide : IsForWide r) (rules : IsWallet w) (run : PlainWideRun) (made : IsRunOf (chain_from w blocks) r run) where
  abbrev k : Chain
  k = chain_from w blocks

  outcome_is : (o : WideOutcome) → run.outcome ≡ o → (run_of (plan_of k r)).outcome ≡ o
  outcome_is o is = ap (λ (x : PlainWideRun). x.outcome) (sym made.is) ∙ is

  due : (o : WideOutcome) → run.outcome ≡ o → told → outcome_of files s p ≡ by_answer k r (run_of (plan_of k r)) o
  due o is t = inputs_due files s p w blocks r (inputs t) ∙ due_is k r o made.rules (outcome_is o is)

  open_on : (report : List ℕ) (number : ℕ) → run.outcome ≡ answers.Unfinished number → report ≡ open_report run.tries number → IsUnfinished told files s p report
  open_on report number is text =
      let same : report ≡ open_report (run_of (plan_of k r)).tries number = text ∙ ap (λ (x : PlainWideRun). open_report x.tries number) made.is in
      record {
        wallet = w;
        blocks = blocks;
        asked = r;
        number = number;
        inputs = inputs;
        plan = made.rules;
        steps = made.steps;
        outcome = outcome_is (answers.Unfinished number) is;
        left = run_left (plan_of k r) number made.steps wide (outcome_is (answers.Unfinished number) is);
        reports = same;
        comes_to = λ t. due (answers.Unfinished number) is t ∙ ap Unfinished (sym same);
      }

  none_on : (report log : List ℕ) → run.outcome ≡ answers.NoSelection → AreNoneTexts run report log → IsNotFunded told files s p report log
  none_on report log is texts =
      let same : report ≡ none_report (run_of (plan_of k r)).tries = texts.reports ∙ ap (λ (x : PlainWideRun). none_report x.tries) made.is in
      let logged : log ≡ text_of (run_of (plan_of k r)).sections = texts.logs ∙ ap (λ (x : PlainWideRun). text_of x.sections) made.is in
      record {
        wallet = w;
        blocks = blocks;
        asked = r;
        inputs = inputs;
        plan = made.rules;
        steps = made.steps;
        outcome = outcome_is answers.NoSelection is;
        none = run_none (plan_of k r) made.steps wide (none_replaced k r wide) (outcome_is answers.NoSelection is);
        reports = same;
        told = subst (λ (x : PlainWideRun). IsReportText report (kinds.NoSelection x.tries)) made.is texts.told;
        logs = logged;
        comes_to = λ t. due answers.NoSelection is t ∙ (ap (λ (x : List ℕ). NoSelection x (text_of (run_of (plan_of k r)).sections)) (sym same) ∙ ap (NoSelection report) (sym logged));
      }

  paid_on : (report log : List ℕ) (f : PlainFunded) → run.outcome ≡ answers.Funded f → ArePaidTexts k r run f report log → IsFunded told files s p report log
  paid_on report log f is texts =
      let plain = none_replaced k r wide in
      let pays : IsPayment (plan_of k r) f = subst (ArePayments (plan_of k r)) is made.pays in
      let same : report ≡ report_of k.book r k.wallet.change (run_of (plan_of k r)).tries f = texts.reports ∙ ap (λ (x : PlainWideRun). report_of k.book r k.wallet.change x.tries f) made.is in
      let logged : log ≡ text_of (run_of (plan_of k r)).sections = texts.logs ∙ ap (λ (x : PlainWideRun). text_of x.sections) made.is in
      record {
        wallet = w;
        blocks = blocks;
        asked = r;
        funded = f;
        inputs = inputs;
        plan = made.rules;
        steps = made.steps;
        outcome = outcome_is (answers.Funded f) is;
        pays = pays;
        eligible = payment_eligible (plan_of k r) f plain made.rules pays;
        packages = pays_for_packages k r f rules pays;
        claims = run_claims (plan_of k r) f made.steps wide (outcome_is (answers.Funded f) is);
        psbt = texts.psbt;
        shows = texts.shows;
        reports = same;
        logs = logged;
        comes_to = λ t. due (answers.Funded f) is t ∙ (ap (λ (x : List ℕ). Funded x (text_of (run_of (plan_of k r)).sections)) (sym same) ∙ ap (Funded report) (sym logged));
      }

  ended_on : (e : Ending) → IsEndOf k r run e → IsEnded told files s p e
  ended_on (endings.Unfinished report) h = open_on report.items h.0 h.1 h.2
  ended_on (endings.NoSelection texts) h = none_on texts.report.items texts.log.items h.0 h.1
  ended_on (endings.Funded texts) h = paid_on texts.report.items texts.log.items h.0 h.1 h.2

-- a request of a chain that was read
pub held_ends : (told : Type 0) (files : List ℕ → List ℕ) (s : Sources) (p : Payment) (k : Chain) (r : PlainRequest) (e : Ending) → AreAsked told files s p k r → IsConcluded k r e → IsEnded told files s p e
held_ends told files s p k r e h c =
    let at : IsConcluded (chain_from k.wallet h.held.blocks) r e = subst (λ (x : Chain). IsConcluded x r e) h.held.is c in
    ended_on told files s p k.wallet h.held.blocks r h.inputs h.wide h.held.rules at.run at.made e at.ends

-- What a payment from files wrote is accepted from the files.
use Rattle.std.specs.Prelude.{ℕ, ◌≡◌, ◌≤◌, min, true, List}
use Rattle.std.proofs.Common.{arith, refl, sym, subst}
use Rattle.block_feed.specs.Block.{ChainBlock}
use Rattle.closing_log.specs.LogText.{IsLogText}
use Rattle.coin_book.specs.History.{History}
use Rattle.fund_plan.specs.Answer.{IsPayment}
use Rattle.fund_plan.specs.Outcome.{beginning_of, log_at, most_tries, outcome_at, tries_at}
use Rattle.fund_plan.specs.Selection.{PlainFunded}
use Rattle.fund_plan.specs.Steps.{steps_of}
use Rattle.fund_plan.specs.declared.outcome.Outcome.TheVariants as answers
use Rattle.fund_report.specs.ReportText.{IsReportText}
use Rattle.fund_report.specs.declared.report.Report.{Report}
use Rattle.fund_report.specs.declared.report.Report.TheVariants as kinds
use Rattle.fund_steps.specs.Plan.{IsPlan, PlainPlan}
use Rattle.fund_files.specs.Chain.{chain_from, history_of}
use Rattle.fund_files.specs.Contents.{HasChain, HasRequest}
use Rattle.fund_payment.specs.Report.{psbt_of, report_of, reported}
use Rattle.fund_payment.specs.Shown.{ShowsCoins}
use Rattle.kept_job.proofs.SizeLaws.{log_short}
use Rattle.desk_laws.proofs.RequestLaws.{asked_is}
use Rattle.psbt_codec.specs.Psbt.{IsPsbt}
use Rattle.psbt_codec.specs.Text.{IsPsbtTextIn}
use Rattle.report_check.specs.Proved.{IsEndedText}
use Rattle.report_check.specs.Verdict.{HasLog, IsAccepted}
use Rattle.request_text.specs.PlainRequest.{IsRequest, PlainRequest}
use Rattle.search_run.specs.Step.{AreSteps}
use Rattle.search_run.proofs.RunLaws.{most_tries as tries_within}
use Rattle.wallet_text.specs.PlainWallet.{PlainWallet}
use Rattle.command_check.specs.Outcome.{Accepted, ComesTo}
use Rattle.command_check.specs.Evidence.{IsWithin}
use Rattle.command_end.specs.Names.{Sources}
use Rattle.command_inputs.specs.Outcome.{log_text_at, plan_of}
use Rattle.command_inputs.specs.Inputs.{AreInputs}
use Rattle.command_inputs.specs.Names.{Payment}
use Rattle.checked_runs.specs.Beside.{IsFunded, IsNotFunded, IsUnfinished, StandWithLog, StandsBeside, reported_of}
use Rattle.checked_runs.proofs.AnswerLaws.{funded_in_order, none_in_order}
use Rattle.checked_runs.proofs.FoundLaws.{can_be_told}
use Rattle.checked_runs.proofs.LengthLaws.{none_within, open_within}
use Rattle.checked_runs.proofs.TellLaws.{psbt_in_version, report_is_of, report_reads}

-- ---- the files

-- files that are as they were hold what they held
inputs_still : (files files' : List ℕ → List ℕ) (s : Sources) (p : Payment) (name report : List ℕ) (w : PlainWallet) (blocks : List ChainBlock) (r : PlainRequest) → StandsBeside files files' s p name report → AreInputs files s p w blocks r → AreInputs files' s p w blocks r
inputs_still files files' s p name report w blocks r h k = record {
  chain = subst (λ (f : List ℕ). HasChain f (files' s.blocks) w blocks) (sym h.wallet) (subst (λ (f : List ℕ). HasChain (files s.wallet) f w blocks) (sym h.blocks) k.chain);
  request = subst (λ (f : List ℕ). HasRequest f r) (sym h.request) k.request;
  taken = k.taken;
}

-- a report that is accepted beside them is what they come to
pub comes_to : (files files' : List ℕ → List ℕ) (s : Sources) (p : Payment) (name report : List ℕ) (w : PlainWallet) (blocks : List ChainBlock) (r : PlainRequest) (kind : Report) → StandsBeside files files' s p name report → IsWithin report → AreInputs files s p w blocks r
    → IsPlan (plan_of (chain_from w blocks) r) → IsReportText report kind → (HasLog kind → IsWithin (files' p.log)) → IsAccepted (plan_of (chain_from w blocks) r) kind (files' p.log) → ComesTo files' s p name (Accepted kind)
comes_to files files' s p name report w blocks r kind h short inputs plan form fits accepted = record {
  plan = plan_of (chain_from w blocks) r;
  judged = record {
    plan_is = record { wallet = w; blocks = blocks; asked = r; inputs = λ _. inputs_still files files' s p name report w blocks r h inputs; is = refl; rules = plan };
    found = record { fits = subst IsWithin (sym h.report_is) short; form = subst (λ (f : List ℕ). IsReportText f kind) (sym h.report_is) form };
    within = fits;
  };
  accepted = accepted;
}

-- ---- tries

pub few_tries : (p : PlainPlan) (n : ℕ) → tries_at p n ≤ 10_000_000
unfolding tries_at
few_tries p n = let most = tries_within p.request.seed (beginning_of p) (min n most_tries) in omega (arith, most)

-- ---- lengths

-- a log is short enough to be judged
log_within : (p : PlainPlan) (n : ℕ) (log : List ℕ) → AreSteps (steps_of p) → log ≡ log_text_at p n → IsWithin log
log_within p n log are is = subst IsWithin (sym is) (log_short p n are)

-- ---- a plan after so many tries

-- the report of a payment is accepted with the log
pub paid_accepted : (h : History) (p : PlainPlan) (n : ℕ) (g : PlainFunded) (log : List ℕ) → IsPlan p → AreSteps (steps_of p) → outcome_at p n ≡ answers.Funded g → IsPsbt (psbt_of h p.request p.change g) → ShowsCoins g.coins (psbt_of h p.request p.change g)
    → IsEndedText log (log_at p n) → IsWithin (report_of h p.request p.change (tries_at p n) g) → IsAccepted p (kinds.Funded (reported h p.request p.change (tries_at p n) g)) log
paid_accepted h p n g log plan are e psbt shows text fits =
    funded_in_order p n (reported h p.request p.change (tries_at p n) g) g log plan are e (report_is_of h p (tries_at p n) g psbt shows fits) refl text

pub paid_reads : (h : History) (p : PlainPlan) (n : ℕ) (g : PlainFunded) → IsPlan p → AreSteps (steps_of p) → outcome_at p n ≡ answers.Funded g → IsPayment p g → IsPsbt (psbt_of h p.request p.change g)
    → IsReportText (report_of h p.request p.change (tries_at p n) g) (kinds.Funded (reported h p.request p.change (tries_at p n) g))
paid_reads h p n g plan are e a psbt = report_reads h p (tries_at p n) g plan a (can_be_told p n g plan are e) psbt (few_tries p n)

-- ---- what is written of it

-- a wallet, blocks and a request whose plan came to this payment after so many tries, with its report and its log
pub record HasPaid (files : List ℕ → List ℕ) (s : Sources) (p : Payment) (n : ℕ) (g : PlainFunded) (report log : List ℕ) : Type 0 where
  pub wallet : PlainWallet
  pub blocks : List ChainBlock
  pub asked : PlainRequest
  pub inputs : AreInputs files s p wallet blocks asked
  pub plan : IsPlan (plan_of (chain_from wallet blocks) asked)
  pub steps : AreSteps (steps_of (plan_of (chain_from wallet blocks) asked))
  pub outcome : outcome_at (plan_of (chain_from wallet blocks) asked) n ≡ answers.Funded g
  pub pays : IsPayment (plan_of (chain_from wallet blocks) asked) g
  pub psbt : IsPsbt (psbt_of (history_of wallet blocks) asked wallet.change g)
  pub shows : ShowsCoins g.coins (psbt_of (history_of wallet blocks) asked wallet.change g)
  pub reports : report ≡ report_of (history_of wallet blocks) asked wallet.change (tries_at (plan_of (chain_from wallet blocks) asked) n) g
  pub logs : log ≡ log_text_at (plan_of (chain_from wallet blocks) asked) n
  pub reads : IsLogText log (log_at (plan_of (chain_from wallet blocks) asked) n)
  pub ended : (log_at (plan_of (chain_from wallet blocks) asked) n).ended ≡ true

-- what is reported of it
abbrev pub told_of : (files : List ℕ → List ℕ) (s : Sources) (p : Payment) (n : ℕ) (g : PlainFunded) (report log : List ℕ) → HasPaid files s p n g report log → Report
told_of files s p n g report log k = kinds.Funded (reported (history_of k.wallet k.blocks) k.asked k.wallet.change (tries_at (plan_of (chain_from k.wallet k.blocks) k.asked) n) g)

pub paid_checked : (files files' : List ℕ → List ℕ) (s : Sources) (p : Payment) (name report log : List ℕ) (n : ℕ) (g : PlainFunded) (k : HasPaid files s p n g report log) → IsWithin report → StandWithLog files files' s p name report log
    → ComesTo files' s p name (Accepted (told_of files s p n g report log k))
paid_checked files files' s p name report log n g k short h =
    let plan : PlainPlan = plan_of (chain_from k.wallet k.blocks) k.asked in
    let history : History = history_of k.wallet k.blocks in
    let told : Report = told_of files s p n g report log k in
    let accepted : IsAccepted plan told log = paid_accepted history plan n g log k.plan k.steps k.outcome k.psbt k.shows (k.reads, k.ended) (subst IsWithin k.reports short) in
    let form : IsReportText report told = subst (λ (f : List ℕ). IsReportText f told) (sym k.reports) (paid_reads history plan n g k.plan k.steps k.outcome k.pays k.psbt) in
    comes_to files files' s p name report k.wallet k.blocks k.asked told h.beside short k.inputs k.plan form (λ _. subst IsWithin (sym h.log_is) (log_within plan n log k.steps k.logs)) (subst (IsAccepted plan told) (sym h.log_is) accepted)

-- the same where nothing pays
pub record HasNone (files : List ℕ → List ℕ) (s : Sources) (p : Payment) (n : ℕ) (report log : List ℕ) : Type 0 where
  pub wallet : PlainWallet
  pub blocks : List ChainBlock
  pub asked : PlainRequest
  pub inputs : AreInputs files s p wallet blocks asked
  pub plan : IsPlan (plan_of (chain_from wallet blocks) asked)
  pub steps : AreSteps (steps_of (plan_of (chain_from wallet blocks) asked))
  pub outcome : outcome_at (plan_of (chain_from wallet blocks) asked) n ≡ answers.NoSelection
  pub told : IsReportText report (kinds.NoSelection (tries_at (plan_of (chain_from wallet blocks) asked) n))
  pub logs : log ≡ log_text_at (plan_of (chain_from wallet blocks) asked) n
  pub reads : IsLogText log (log_at (plan_of (chain_from wallet blocks) asked) n)
  pub ended : (log_at (plan_of (chain_from wallet blocks) asked) n).ended ≡ true

pub unpaid_checked : (files files' : List ℕ → List ℕ) (s : Sources) (p : Payment) (name report log : List ℕ) (n : ℕ) (k : HasNone files s p n report log) → StandWithLog files files' s p name report log
    → ComesTo files' s p name (Accepted (kinds.NoSelection (tries_at (plan_of (chain_from k.wallet k.blocks) k.asked) n)))
unpaid_checked files files' s p name report log n k h =
    let plan : PlainPlan = plan_of (chain_from k.wallet k.blocks) k.asked in
    let accepted : IsAccepted plan (kinds.NoSelection (tries_at plan n)) log = none_in_order plan n log k.plan k.steps k.outcome (k.reads, k.ended) in
    comes_to files files' s p name report k.wallet k.blocks k.asked (kinds.NoSelection (tries_at plan n)) h.beside (none_within report (tries_at plan n) k.told) k.inputs k.plan k.told
    (λ _. subst IsWithin (sym h.log_is) (log_within plan n log k.steps k.logs))
    (subst (IsAccepted plan (kinds.NoSelection (tries_at plan n))) (sym h.log_is) accepted)

-- ---- what a payment from files wrote

pub funded_reads : (files : List ℕ → List ℕ) (s : Sources) (p : Payment) (report log : List ℕ) (k : IsFunded files s p report log) → IsReportText report (kinds.Funded (reported_of files s p report log k))
funded_reads files s p report log k =
    subst (λ (f : List ℕ). IsReportText f (kinds.Funded (reported_of files s p report log k))) (sym k.reports)
    (paid_reads (history_of k.wallet k.blocks) (plan_of (chain_from k.wallet k.blocks) k.asked) k.asked.tries k.funded k.plan k.steps k.outcome k.pays k.psbt)

pub funded_signed : (files : List ℕ → List ℕ) (s : Sources) (p : Payment) (report log : List ℕ) (k : IsFunded files s p report log) → IsWithin report → IsPsbtTextIn k.asked.psbt (reported_of files s p report log k).text (psbt_of (history_of k.wallet k.blocks) k.asked k.wallet.change k.funded)
funded_signed files s p report log k short =
    let plan : PlainPlan = plan_of (chain_from k.wallet k.blocks) k.asked in
    let rules : IsRequest k.asked = asked_is (files p.request) k.asked (k.inputs tt).request.form in
    psbt_in_version (history_of k.wallet k.blocks) plan (tries_at plan k.asked.tries) k.funded rules.psbt k.psbt (subst IsWithin k.reports short)

pub funded_checked : (files files' : List ℕ → List ℕ) (s : Sources) (p : Payment) (name report log : List ℕ) (k : IsFunded files s p report log) → IsWithin report → StandWithLog files files' s p name report log
    → ComesTo files' s p name (Accepted (kinds.Funded (reported_of files s p report log k)))
funded_checked files files' s p name report log k short h =
    let paid : HasPaid files s p k.asked.tries k.funded report log = record {
      wallet = k.wallet;
      blocks = k.blocks;
      asked = k.asked;
      inputs = k.inputs tt;
      plan = k.plan;
      steps = k.steps;
      outcome = k.outcome;
      pays = k.pays;
      psbt = k.psbt;
      shows = k.shows;
      reports = k.reports;
      logs = k.logs;
      reads = k.reads;
      ended = k.ended;
    } in
    paid_checked files files' s p name report log k.asked.tries k.funded paid short h

pub none_checked : (files files' : List ℕ → List ℕ) (s : Sources) (p : Payment) (name report log : List ℕ) (k : IsNotFunded files s p report log) → StandWithLog files files' s p name report log
    → ComesTo files' s p name (Accepted (kinds.NoSelection (tries_at (plan_of (chain_from k.wallet k.blocks) k.asked) k.asked.tries)))
none_checked files files' s p name report log k h =
    let none : HasNone files s p k.asked.tries report log = record {
      wallet = k.wallet;
      blocks = k.blocks;
      asked = k.asked;
      inputs = k.inputs tt;
      plan = k.plan;
      steps = k.steps;
      outcome = k.outcome;
      told = k.told;
      logs = k.logs;
      reads = k.reads;
      ended = k.ended;
    } in
    unpaid_checked files files' s p name report log k.asked.tries none h

-- a run that goes on writes no log, and none is read
pub open_checked : (files files' : List ℕ → List ℕ) (s : Sources) (p : Payment) (name report : List ℕ) (k : IsUnfinished files s p report) → StandsBeside files files' s p name report
    → ComesTo files' s p name (Accepted (kinds.Unfinished (tries_at (plan_of (chain_from k.wallet k.blocks) k.asked) k.asked.tries) k.used_up.step.row k.used_up.step.stage))
open_checked files files' s p name report k h =
    let plan : PlainPlan = plan_of (chain_from k.wallet k.blocks) k.asked in
    comes_to files files' s p name report k.wallet k.blocks k.asked (kinds.Unfinished (tries_at plan k.asked.tries) k.used_up.step.row k.used_up.step.stage) h (open_within report (tries_at plan k.asked.tries) k.used_up.step.row k.used_up.step.stage k.told) (k.inputs tt) k.plan k.told (λ none. absurd none) tt

-- What a run wrote that went on from a job is accepted from the files.
use Rattle.std.specs.Prelude.{ℕ, ◌≡◌, ◌+◌, true, List, Option}
use Rattle.std.proofs.Common.{sym, ap, subst, ◌∙◌}
use Rattle.closing_log.specs.Log.{PlainLog}
use Rattle.closing_log.specs.declared.log.Stage.{Stage}
use Rattle.closing_log.specs.LogText as logs
use Rattle.closing_log.specs.LogText.{IsLogText}
use Rattle.fund_outside.specs.Kept.{KeptJob}
use Rattle.fund_plan.specs.Outcome.{tries_at}
use Rattle.fund_plan.specs.declared.outcome.Outcome.TheVariants as answers
use Rattle.fund_report.specs.ReportText.{IsReportText}
use Rattle.fund_report.specs.declared.report.Report.TheVariants as kinds
use Rattle.fund_steps.specs.Plan.{PlainPlan}
use Rattle.fund_files.specs.Chain.{chain_from, history_of}
use Rattle.fund_payment.specs.Report.{report_of}
use Rattle.kept_job.proofs.SameLaws.{goes_alike}
use Rattle.kept_job.specs.Continued.{HasContinued}
use Rattle.kept_job.specs.Kept.{IsAsAfter, IsKeptAt}
use Rattle.command_check.specs.Outcome.{Accepted, ComesTo}
use Rattle.command_check.specs.Evidence.{IsWithin}
use Rattle.command_end.specs.Names.{Sources}
use Rattle.command_inputs.specs.Digest.{digest_in}
use Rattle.command_inputs.specs.Outcome.{plan_of}
use Rattle.command_inputs.specs.Names.{Payment}
use Rattle.checked_runs.specs.Beside.{StandWithLog, StandsBeside}
use Rattle.checked_runs.proofs.CommandLaws.{HasNone, HasPaid, comes_to, paid_checked, unpaid_checked}
use Rattle.checked_runs.proofs.LengthLaws.{open_within}
use Rattle.checked_runs.specs.Resumed.{IsFunded, IsNotFunded, IsUnfinished, reported_after}

pub funded_checked : (files files' : List ℕ → List ℕ) (s : Sources) (p : Payment) (o : Option KeptJob) (name report log : List ℕ) (n : ℕ) (k : IsFunded files s p o report log)
    → IsKeptAt (plan_of (chain_from k.wallet k.blocks) k.asked) (digest_in files s p) n o → IsWithin report → StandWithLog files files' s p name report log → ComesTo files' s p name (Accepted (kinds.Funded (reported_after files s p o report log n k)))
funded_checked files files' s p o name report log n k kept short h =
    let plan : PlainPlan = plan_of (chain_from k.wallet k.blocks) k.asked in
    let all : ℕ = n + k.asked.tries in
    let gone : HasContinued (Unit {0}) plan (digest_in files s p) o k.asked.tries k.state (answers.Funded k.funded) =
    subst (λ (d : List ℕ). HasContinued (Unit {0}) plan d o k.asked.tries k.state (answers.Funded k.funded)) (k.gone.named tt) k.gone.gone
    in
    let alike : IsAsAfter plan all k.state (answers.Funded k.funded) = goes_alike plan k.gone.steps n k.asked.tries (digest_in files s p) o kept k.state (answers.Funded k.funded) gone in
    let paid : HasPaid files s p all k.funded report log = record {
      wallet = k.wallet;
      blocks = k.blocks;
      asked = k.asked;
      inputs = k.inputs tt;
      plan = k.gone.rules;
      steps = k.gone.steps;
      outcome = sym alike.outcome;
      pays = k.pays;
      psbt = k.psbt;
      shows = k.shows;
      reports = k.reports ∙ ap (λ (m : ℕ). report_of (history_of k.wallet k.blocks) k.asked k.wallet.change m k.funded) alike.tries;
      logs = k.logs ∙ ap (λ (l : PlainLog). logs.text_of l) alike.log;
      reads = subst (IsLogText log) alike.log k.reads;
      ended = subst (λ (l : PlainLog). l.ended ≡ true) alike.log k.ended;
    } in
    paid_checked files files' s p name report log all k.funded paid short h

pub none_checked : (files files' : List ℕ → List ℕ) (s : Sources) (p : Payment) (o : Option KeptJob) (name report log : List ℕ) (n : ℕ) (k : IsNotFunded files s p o report log)
    → IsKeptAt (plan_of (chain_from k.wallet k.blocks) k.asked) (digest_in files s p) n o → StandWithLog files files' s p name report log
    → ComesTo files' s p name (Accepted (kinds.NoSelection (tries_at (plan_of (chain_from k.wallet k.blocks) k.asked) (n + k.asked.tries))))
none_checked files files' s p o name report log n k kept h =
    let plan : PlainPlan = plan_of (chain_from k.wallet k.blocks) k.asked in
    let all : ℕ = n + k.asked.tries in
    let gone : HasContinued (Unit {0}) plan (digest_in files s p) o k.asked.tries k.state answers.NoSelection =
    subst (λ (d : List ℕ). HasContinued (Unit {0}) plan d o k.asked.tries k.state answers.NoSelection) (k.gone.named tt) k.gone.gone
    in
    let alike : IsAsAfter plan all k.state answers.NoSelection = goes_alike plan k.gone.steps n k.asked.tries (digest_in files s p) o kept k.state answers.NoSelection gone in
    let none : HasNone files s p all report log = record {
      wallet = k.wallet;
      blocks = k.blocks;
      asked = k.asked;
      inputs = k.inputs tt;
      plan = k.gone.rules;
      steps = k.gone.steps;
      outcome = sym alike.outcome;
      told = subst (λ (m : ℕ). IsReportText report (kinds.NoSelection m)) alike.tries k.told;
      logs = k.logs ∙ ap (λ (l : PlainLog). logs.text_of l) alike.log;
      reads = subst (IsLogText log) alike.log k.reads;
      ended = subst (λ (l : PlainLog). l.ended ≡ true) alike.log k.ended;
    } in
    unpaid_checked files files' s p name report log all none h

-- the report of a run that goes on once more is accepted by its form, whatever the job was
pub open_checked : (files files' : List ℕ → List ℕ) (s : Sources) (p : Payment) (o : Option KeptJob) (name report : List ℕ) (k : IsUnfinished files s p o report) → StandsBeside files files' s p name report
    → ComesTo files' s p name (Accepted (kinds.Unfinished k.state.stand.past.tries k.used_up.used_up.step.row k.used_up.used_up.step.stage))
open_checked files files' s p o name report k h =
    let tries : ℕ = k.state.stand.past.tries in
    let row : ℕ = k.used_up.used_up.step.row in
    let stage : Stage = k.used_up.used_up.step.stage in
    comes_to files files' s p name report k.wallet k.blocks k.asked (kinds.Unfinished tries row stage) h (open_within report tries row stage k.told) (k.inputs tt) k.gone.rules k.told (λ none. absurd none) tt

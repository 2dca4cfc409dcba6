-- How a request ends that is gone on with, from what its plan came to.
use Rattle.std.proofs.Common.{◌≡◌, ◌∙◌, ℕ, true, List, ◌∷◌, Option, sym, ap, subst}
use Rattle.block_feed.specs.Block.{ChainBlock}
use Rattle.closing_log.specs.LogText as logs
use Rattle.closing_log.specs.LogText.{IsLogText}
use Rattle.fund_outside.specs.Kept.{KeptJob}
use Rattle.fund_plan.proofs.EligibleLaws.{payment_may}
use Rattle.fund_plan.specs.Answer.{IsPayment}
use Rattle.fund_plan.specs.Resumed.{log_in}
use Rattle.fund_plan.specs.Selection.{PlainFunded}
use Rattle.fund_plan.specs.State.{PlanState, told}
use Rattle.fund_plan.specs.declared.outcome.Outcome.TheVariants as answers
use Rattle.fund_report.specs.ReportText.{IsReportText}
use Rattle.fund_report.specs.declared.report.Report.TheVariants as kinds
use Rattle.psbt_codec.specs.Psbt.{IsPsbt}
use Rattle.request_text.specs.PlainRequest.{PlainRequest}
use Rattle.search_run.specs.Step.{PlainStep}
use Rattle.wallet_text.specs.PlainWallet.{PlainWallet}
use Rattle.fund_files.specs.Chain.{chain_from, history_of}
use Rattle.fund_payment.specs.Report.{psbt_of, report_of}
use Rattle.fund_payment.specs.Shown.{ShowsCoins}
use Rattle.kept_job.proofs.ClaimLaws.{log_ended_on}
use Rattle.kept_job.proofs.ResumedLaws.{claims_none, claims_open, claims_payment, claims_read}
use Rattle.kept_job.specs.Continued.{IsUsedUpOn}
use Rattle.command_end.specs.Names.{Sources}
use Rattle.command_inputs.specs.Outcome.{Funded, NoSelection, Unfinished, none_report, open_report, plan_of}
use Rattle.command_inputs.specs.Inputs.{AreInputs}
use Rattle.command_inputs.specs.Names.{Payment}
use Rattle.command_inputs.specs.PlanEnds.{IsOpenReport}
use Rattle.command_inputs.specs.Packages.{PaysForPackages}
use Rattle.command_inputs.specs.Replacing.{ReplacesIf}
use Rattle.command_resume.specs.Resumed.{HasGone, IsFunded, IsNotFunded, IsUnfinished}
use Rattle.command_resume.proofs.UninterruptedLaws.{uninterrupted}

module _ (told_files told_jobs : Type 0) (files : List ℕ → List ℕ) (s : Sources) (p : Payment) (o : Option KeptJob) (w : PlainWallet) (blocks : List ChainBlock) (r : PlainRequest) (st : PlanState)
    (inputs : told_files → AreInputs files s p w blocks r) where
  pub paid_on : (f : PlainFunded) (report log bytes : List ℕ) (g : HasGone told_files told_jobs files s p o (chain_from w blocks) r st (answers.Funded f)) → IsLogText bytes g.gone.log → IsPayment (plan_of (chain_from w blocks) r) f
      → IsPsbt (psbt_of (history_of w blocks) r w.change f) → ShowsCoins f.coins (psbt_of (history_of w blocks) r w.change f) → ReplacesIf w (history_of w blocks) r f → PaysForPackages w (history_of w blocks) r f
      → report ≡ report_of (history_of w blocks) r w.change st.stand.past.tries f → log ≡ logs.text_of (log_in st) → IsFunded told_files told_jobs files s p o report log
  paid_on f report log bytes g text pays psbt shows replaces packages report_is log_is = record {
    wallet = w;
    blocks = blocks;
    asked = r;
    inputs = inputs;
    funded = f;
    state = st;
    gone = g;
    pays = pays;
    eligible = payment_may (plan_of (chain_from w blocks) r) f g.rules pays;
    claims = claims_payment told_jobs (plan_of (chain_from w blocks) r) g.digest o r.tries st f g.gone g.rules g.steps;
    psbt = psbt;
    shows = shows;
    replaces = replaces;
    packages = packages;
    reports = report_is;
    logs = log_is;
    reads =
        subst (λ (bytes : List ℕ). IsLogText bytes (log_in st)) (sym log_is)
        (claims_read told_jobs (plan_of (chain_from w blocks) r) g.digest o r.tries st (answers.Funded f) bytes g.gone g.steps text (λ e. absurd (cc)));
    ended =
        subst (λ (x : PlanState). (log_in x).ended ≡ true) (sym g.gone.stands)
        (log_ended_on (plan_of (chain_from w blocks) r) g.digest g.gone.saved g.gone.log r.tries g.rules g.steps g.gone.can
        (λ e. let x = g.gone.comes_to ∙ (ap told g.gone.stands ∙ e) in absurd (cc)));
    uninterrupted =
        uninterrupted told_files told_jobs files s p o (chain_from w blocks) r st (answers.Funded f) g (Funded report log)
        (ap (λ (t : List ℕ). Funded t log) report_is ∙ ap (λ (t : List ℕ). Funded (report_of (history_of w blocks) r w.change st.stand.past.tries f) t) log_is);
  }

  pub unpaid_on : (report log bytes : List ℕ) (g : HasGone told_files told_jobs files s p o (chain_from w blocks) r st answers.NoSelection) → IsLogText bytes g.gone.log
      → report ≡ none_report st.stand.past.tries → IsReportText report (kinds.NoSelection st.stand.past.tries) → log ≡ logs.text_of (log_in st) → IsNotFunded told_files told_jobs files s p o report log
  unpaid_on report log bytes g text report_is told_is log_is = record {
    wallet = w;
    blocks = blocks;
    asked = r;
    inputs = inputs;
    state = st;
    gone = g;
    none = claims_none told_jobs (plan_of (chain_from w blocks) r) g.digest o r.tries st g.gone g.rules g.steps;
    reports = report_is;
    told = told_is;
    logs = log_is;
    reads =
        subst (λ (bytes : List ℕ). IsLogText bytes (log_in st)) (sym log_is)
        (claims_read told_jobs (plan_of (chain_from w blocks) r) g.digest o r.tries st answers.NoSelection bytes g.gone g.steps text (λ e. absurd (cc)));
    ended =
        subst (λ (x : PlanState). (log_in x).ended ≡ true) (sym g.gone.stands)
        (log_ended_on (plan_of (chain_from w blocks) r) g.digest g.gone.saved g.gone.log r.tries g.rules g.steps g.gone.can
        (λ e. let x = g.gone.comes_to ∙ (ap told g.gone.stands ∙ e) in absurd (cc)));
    uninterrupted =
        uninterrupted told_files told_jobs files s p o (chain_from w blocks) r st answers.NoSelection g (NoSelection report log)
        (ap (λ (t : List ℕ). NoSelection t log) report_is ∙ ap (λ (t : List ℕ). NoSelection (none_report st.stand.past.tries) t) log_is);
  }

  pub open_told : (text : List ℕ) (tries : ℕ) (left : List PlainStep) (x : PlainStep) (rest : List PlainStep) → left ≡ x ∷ rest → IsOpenReport text tries left → IsReportText text (kinds.Unfinished tries x.row x.stage)
  open_told text tries left x rest e h = subst (IsOpenReport text tries) e h

  abbrev pub open_on : (report : List ℕ) → HasGone told_files told_jobs files s p o (chain_from w blocks) r st answers.Unfinished
      → report ≡ open_report st.stand.past.tries st.stand.left → IsOpenReport report st.stand.past.tries st.stand.left → IsUnfinished told_files told_jobs files s p o report
  open_on report g report_is told_is =
      let u : IsUsedUpOn (plan_of (chain_from w blocks) r) g.gone.saved.tries r.tries st = claims_open told_jobs (plan_of (chain_from w blocks) r) g.digest o r.tries st g.gone in
      record {
        wallet = w;
        blocks = blocks;
        asked = r;
        inputs = inputs;
        state = st;
        gone = g;
        used_up = u;
        reports = report_is ∙ ap (open_report st.stand.past.tries) u.used_up.left;
        told = open_told report st.stand.past.tries st.stand.left u.used_up.step u.used_up.rest u.used_up.left told_is;
        uninterrupted =
            uninterrupted told_files told_jobs files s p o (chain_from w blocks) r st answers.Unfinished g (Unfinished report) (ap (λ (t : List ℕ). Unfinished t) report_is);
      }

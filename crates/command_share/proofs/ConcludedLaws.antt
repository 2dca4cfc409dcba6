-- What a request is due whose searches came to their end.
use Rattle.std.specs.Prelude.{ℕ, ◌≡◌, List}
use Rattle.std.proofs.Common.{sym, ap, subst, ◌∙◌}
use Rattle.closing_log.specs.LogText.{IsLogText}
use Rattle.closing_log.specs.declared.log.Stage.TheVariants as stage
use Rattle.fee_rates.specs.Fee.{fee_of, vsize_of}
use Rattle.fee_sharing.specs.Shares.{AllReach, AreLeft}
use Rattle.fund_report.specs.ReportText.{IsReportText}
use Rattle.fund_report.specs.declared.report.Report.TheVariants as kinds
use Rattle.fund_steps.specs.Amounts.{value_of}
use Rattle.request_text.specs.PlainRequest.{IsRequest, PlainRequest}
use Rattle.fund_files.specs.declared.chain.Chain.{Chain}
use Rattle.command_inputs.specs.Outcome.{none_report}
use Rattle.command_amounts.specs.Amounts.{amounts_of}
use Rattle.command_amounts.specs.Coins.{coins_for}
use Rattle.command_share.proofs.BearLaws.{bear_stops, none_short}
use Rattle.command_share.proofs.LogLaws.{found_reads, none_reads}
use Rattle.command_share.proofs.OutcomeLaws.{end_due, paid_due}
use Rattle.command_share.proofs.PayLaws.{pays_fee}
use Rattle.command_share.specs.Bearing.{IsBearFault}
use Rattle.command_share.specs.Endings.{CanPay, CanReport, IsNoneEnd, IsOpenEnd, IsPaidEnd, IsPaidText, IsRunOf}
use Rattle.command_share.specs.Outcome.{NoSelection, Shared, Unfinished, ended_log, log_text, open_report}
use Rattle.command_share.specs.Paying.{PlainPaying, amounts_left, dusts_of, shared_request}
use Rattle.command_share.specs.Rows.{AreSearches, PlainRun}
use Rattle.command_share.specs.Stops.{StopsSharing, bear_stop_of}
use Rattle.command_share.specs.declared.rows.RowsEnd.TheVariants as ends
use Rattle.fee_sharing.specs.declared.fault.ShareFault.{ShareFault}

-- what holds of a value holds of one that equals it
pub moved : {A : Type 0} (P : A → Type 0) (a b : A) → P a → a ≡ b → P b
moved P a b h same = subst P same h

module _ (k : Chain) (r : PlainRequest) (run : PlainRun) (h : IsRunOf k r run) where
  pub open_end : (number : ℕ) (report : List ℕ) → run.end ≡ ends.Open number → report ≡ open_report run.tries number → IsReportText report (kinds.Unfinished run.tries number stage.LeanSmall) → IsOpenEnd k r report
  open_end number report e text told =
      let at = subst (AreSearches r k.wallet.change (coins_for k r) run) e h.means in
      record {
        run = run;
        number = number;
        left = record { comes_to = h.comes_to; end_is = e; left = at.0; tries = at.1 };
        reports = text;
        told = told;
        due = end_due k r run (ends.Open number) h.worth h.comes_to e ∙ ap Unfinished (sym text);
      }

  pub none_end : (report log : List ℕ) → run.end ≡ ends.Nothing → report ≡ none_report run.tries → IsReportText report (kinds.NoSelection run.tries) → log ≡ log_text run.sections → IsNoneEnd k r report log
  none_end report log e text told logs = record {
    run = run;
    none = record { comes_to = h.comes_to; end_is = e; none = subst (AreSearches r k.wallet.change (coins_for k r) run) e h.means };
    reports = text;
    told = told;
    logs = logs;
    reads = subst (λ (l : List ℕ). IsLogText l (ended_log run.sections)) (sym logs) (none_reads r k.wallet.change (coins_for k r) run.sections (subst (AreSearches r k.wallet.change (coins_for k r) run) e h.means));
    due = end_due k r run ends.Nothing h.worth h.comes_to e ∙ (ap (λ (x : List ℕ). NoSelection x (log_text run.sections)) (sym text) ∙ ap (NoSelection report) (sym logs));
  }

  pub can_pay : (f : PlainPaying) → run.end ≡ ends.Found f → CanPay k r f
  can_pay f e = subst (CanReport k r) e h.can

  pub paid_end : (f : PlainPaying) (report log : List ℕ) → run.end ≡ ends.Found f → AllReach f.borne (amounts_of r) (dusts_of r) → AreLeft f.borne (amounts_of r) (dusts_of r) (amounts_left r f.borne) → IsRequest (shared_request r f.borne)
      → IsPaidText k r run.tries f report → log ≡ log_text run.sections → IsPaidEnd k r report log
  paid_end f report log e reach left rules text logs = record {
    run = run;
    paying = f;
    pays = record {
      comes_to = h.comes_to;
      end_is = e;
      tries = h.tries;
      found = subst (AreSearches r k.wallet.change (coins_for k r) run) e h.means;
      shares = left;
      rules = rules;
      fee = pays_fee r f.borne left f.change (fee_of r.rate (vsize_of f.weight)) (value_of f.coins) (can_pay f e).covers;
    };
    text = text;
    logs = logs;
    reads = subst (λ (l : List ℕ). IsLogText l (ended_log run.sections)) (sym logs) (found_reads r k.wallet.change (coins_for k r) run.sections f (subst (AreSearches r k.wallet.change (coins_for k r) run) e h.means));
    due = paid_due k r run f h.worth h.comes_to e (none_short r f.borne reach) ∙ (ap (λ (x : List ℕ). Shared x (log_text run.sections)) (sym text.reports) ∙ ap (Shared report) (sym logs));
  }

  pub dust_ends : (f : PlainPaying) (fault : ShareFault) → run.end ≡ ends.Found f → IsBearFault r f.borne fault → StopsSharing k r (bear_stop_of fault)
  dust_ends f fault e short = bear_stops k r run f fault h.worth h.comes_to e (subst (AreSearches r k.wallet.change (coins_for k r) run) e h.means) short

-- What a run that is done printed is the report of its payment, which is as it was asked for.
use Rattle.std.proofs.Common.{◌≡◌, ◌∙◌, ℕ, List, [], inl, refl, sym, subst, string_bytes}
use Rattle.std.proofs.lemmas.List.Elements.{All-weaker}
use Rattle.amount_laws.specs.Told.{shared_told}
use Rattle.amount_laws.proofs.SharedLaws.{share_reads}
use Rattle.amount_reports.specs.SharedText.{IsSharedText, PlainShared}
use Rattle.amount_reports.proofs.SharedLaws.{one_shared}
use Rattle.coin_book.specs.History.{History}
use Rattle.fund_shelf.specs.Causes.{ShelfView, SinkView}
use Rattle.fund_outside.specs.Kept.{KeeperView}
use Rattle.fund_files.specs.Chain.{chain_from, history_of}
use Rattle.fund_files.specs.Contents.{HasChain}
use Rattle.fund_payment.specs.Report.{reported}
use Rattle.fund_plan.specs.Outcome.{tries_at}
use Rattle.fund_report.specs.PlainFunded.{PlainFunded}
use Rattle.fund_report.specs.ReportText.{IsReportText}
use Rattle.fund_report.specs.declared.report.Report.TheVariants as kinds
use Rattle.fund_report.proofs.ToldLaws.{one_report}
use Rattle.fund_steps.specs.Listed.{MaySpend}
use Rattle.fund_steps.specs.Plan.{IsEligible, PlainPlan}
use Rattle.command_end.specs.declared.status.Status.{Status}
use Rattle.command_end.specs.declared.status.Status.TheVariants as statuses
use Rattle.command_inputs.specs.Outcome.{plan_of}
use Rattle.command_inputs.specs.Results.{IsFunded}
use Rattle.command_share.specs.Results as shares
use Rattle.command_wide.specs.Results as wide
use Rattle.checked_runs.proofs.CommandLaws.{paid_reads}
use Rattle.fund_top.specs.Statuses.{Ends}
use Rattle.held_run.specs.Held.{IsOther}
use Rattle.held_run.specs.Run.{beside, empty_sink, no_jobs}
use Rattle.held_run.proofs.RunLaws.{other_file}
use Rattle.pay_words.specs.declared.asked.Asked.{Asked}
use Rattle.pay_words.specs.declared.way.Way.{Way}
use Rattle.pay_words.specs.declared.way.Way.TheVariants as ways
use Rattle.wide_plan.specs.Run.{run_of}
use Rattle.wide_report.specs.WideText.{IsWideText}
use Rattle.wide_report.proofs.WideLaws.{one_payment}
use Rattle.command_pay.specs.AsAsked.{IsAsAsked, IsAsAskedBy}
use Rattle.command_pay.specs.Run.{IsPayment, IsReportBy, IsRun, IsSomeReport, command_by, held_names, sources_of}
use Rattle.command_pay.specs.declared.report.PaidReport.{PaidReport}
use Rattle.command_pay.specs.declared.report.PaidReport.TheVariants.{Whole, Shared}
use Rattle.command_pay.proofs.ConsolidatedLaws.{few_tries, wide_reads}

-- ---- by `fund`

-- what is reported of the payment of files
abbrev told_of : (told : Type 0) (a : Asked) (files : ShelfView) (request report log : List ℕ) → IsFunded told (beside files request).files (sources_of a) held_names report log → PlainFunded
told_of told a files request report log k = reported (history_of k.wallet k.blocks) k.asked k.wallet.change (tries_at (plan_of (chain_from k.wallet k.blocks) k.asked) k.asked.tries) k.funded

-- and its text is a report of it
reads_of : (told : Type 0) (a : Asked) (files : ShelfView) (request report log : List ℕ) (k : IsFunded told (beside files request).files (sources_of a) held_names report log) → IsReportText report (kinds.Funded (told_of told a files request report log k))
reads_of told a files request report log k =
    let history : History = history_of k.wallet k.blocks in
    let plan : PlainPlan = plan_of (chain_from k.wallet k.blocks) k.asked in
    subst (λ (t : List ℕ). IsReportText t (kinds.Funded (told_of told a files request report log k))) (sym k.reports) (paid_reads history plan k.asked.tries k.funded k.plan k.steps k.outcome k.pays k.psbt)

-- ---- by `wide`

abbrev wide_told : (told : Type 0) (a : Asked) (files : ShelfView) (request report log : List ℕ) → wide.IsFunded told (beside files request).files (sources_of a) held_names report log → PlainFunded
wide_told told a files request report log k = reported (history_of k.wallet k.blocks) k.asked k.wallet.change (run_of (plan_of (chain_from k.wallet k.blocks) k.asked)).tries k.funded

wide_reads_of : (told : Type 0) (a : Asked) (files : ShelfView) (request report log : List ℕ) (k : wide.IsFunded told (beside files request).files (sources_of a) held_names report log) → IsWideText report (wide_told told a files request report log k)
wide_reads_of told a files request report log k =
    let history : History = history_of k.wallet k.blocks in
    let plan : PlainPlan = plan_of (chain_from k.wallet k.blocks) k.asked in
    subst (λ (t : List ℕ). IsWideText t (wide_told told a files request report log k)) (sym k.reports)
    (wide_reads history plan k.funded (run_of plan).sections (run_of plan).tries (run_of plan).tries k.plan k.pays k.claims k.psbt (few_tries plan k.plan))

-- ---- by `share`

abbrev shared_of : (told : Type 0) (a : Asked) (files : ShelfView) (request report log : List ℕ) → shares.IsShared told (beside files request).files (sources_of a) held_names report log → PlainShared
shared_of told a files request report log k = shared_told (chain_from k.wallet k.blocks) k.asked k.run.tries k.paying

shared_reads_of : (told : Type 0) (a : Asked) (files : ShelfView) (request report log : List ℕ) (k : shares.IsShared told (beside files request).files (sources_of a) held_names report log) → IsSharedText report (shared_of told a files request report log k)
shared_reads_of told a files request report log k =
    subst (λ (t : List ℕ). IsSharedText t (shared_of told a files request report log k)) (sym k.reports) (share_reads (chain_from k.wallet k.blocks) k.asked k.run k.paying k.pays k.psbt)

-- ---- what was printed

report_by : (told : Type 0) (way : Way) (a : Asked) (files : ShelfView) (request : List ℕ) (shelf : ShelfView) (sink : SinkView) (keeper : KeeperView) → Ends told (Unit {0}) (Unit {0}) (command_by way (sources_of a) held_names) (beside files request) shelf empty_sink sink no_jobs keeper statuses.Done
    → IsSomeReport way sink.written
report_by told ways.Fund a files request shelf sink keeper ends =
    let f : PlainFunded = told_of told a files request ends.0 ends.1 ends.2 in
    (f, subst (λ (t : List ℕ). IsReportText t (kinds.Funded f)) (sym (ends.4 tt)) (reads_of told a files request ends.0 ends.1 ends.2))
report_by told ways.Wide a files request shelf sink keeper ends =
    let f : PlainFunded = wide_told told a files request ends.0 ends.1 ends.2 in
    (f, subst (λ (t : List ℕ). IsWideText t f) (sym (ends.4 tt)) (wide_reads_of told a files request ends.0 ends.1 ends.2))
report_by told ways.Share a files request shelf sink keeper ends =
    let f : PlainShared = shared_of told a files request ends.0 ends.1 ends.2 in
    (f, subst (λ (t : List ℕ). IsSharedText t f) (sym (ends.4 tt)) (shared_reads_of told a files request ends.0 ends.1 ends.2))

pub report_of_run : (told : Type 0) (a : Asked) (files after : ShelfView) (said log : List ℕ) → IsRun told a files after statuses.Done said log → IsSomeReport a.way said
report_of_run told a files after said log run =
    let ran = run.ran in
    subst (λ (t : List ℕ). IsSomeReport a.way t) (sym ran.said_is) (report_by told a.way a files run.request ran.shelf ran.sink ran.keeper (ran.ends (λ e. cc)))

-- a run that is done came to the payment that was read from what it printed
pub is_payment : (told : Type 0) (a : Asked) (files after : ShelfView) (status : Status) (f : PaidReport) (said bytes log : List ℕ) → IsRun told a files after status said log → status ≡ statuses.Done → bytes ≡ said → IsReportBy a.way bytes f → IsPayment told a files after f log
is_payment told a files after status f said bytes log run done same report = record {
  said = said;
  run = subst (λ (s : Status). IsRun told a files after s said log) done run;
  report = subst (λ (t : List ℕ). IsReportBy a.way t f) same report;
}

-- ---- as it was asked for

same_funded : (f g : PlainFunded) → kinds.Funded f ≡ kinds.Funded g → f ≡ g
same_funded f g e = cc

-- the files of a chain, seen beside a request
chain_beside : (a : Asked) (files : ShelfView) (request : List ℕ) (P : List ℕ → List ℕ → Type 0) → IsOther (string_bytes a.names.wallet) → IsOther (string_bytes a.names.blocks) → P ((beside files request).files (string_bytes a.names.wallet)) ((beside files request).files (string_bytes a.names.blocks))
    → P (files.files (string_bytes a.names.wallet)) (files.files (string_bytes a.names.blocks))
chain_beside a files request P wallet_other blocks_other held =
    let wallet_is = other_file files.files request [] (string_bytes a.names.wallet) wallet_other in
    let blocks_is = other_file files.files request [] (string_bytes a.names.blocks) blocks_other in
    subst (λ (x : List ℕ). P x (files.files (string_bytes a.names.blocks))) wallet_is (subst (λ (x : List ℕ). P ((beside files request).files (string_bytes a.names.wallet)) x) blocks_is held)

as_asked_by : (way : Way) (a : Asked) (files after : ShelfView) (f : PaidReport) (said log : List ℕ) (run : IsRun (Unit {0}) a files after statuses.Done said log) → IsOther (string_bytes a.names.wallet) → IsOther (string_bytes a.names.blocks)
    → Ends (Unit {0}) (Unit {0}) (Unit {0}) (command_by way (sources_of a) held_names) (beside files run.request) run.ran.shelf empty_sink run.ran.sink no_jobs run.ran.keeper statuses.Done → IsReportBy way said f → IsAsAskedBy way a files f log
as_asked_by ways.Fund a files after (Shared f) said log run wallet_other blocks_other ends report = absurd report
as_asked_by ways.Fund a files after (Whole f) said log run wallet_other blocks_other ends report =
    let k = ends.2 in
    let inputs = k.inputs tt in
    let told : PlainFunded = told_of (Unit {0}) a files run.request ends.0 ends.1 k in
    let read : IsReportText ends.0 (kinds.Funded f) = subst (λ (t : List ℕ). IsReportText t (kinds.Funded f)) (run.ran.said_is ∙ ends.4 tt) report in
    record {
      wallet = k.wallet;
      blocks = k.blocks;
      request = k.asked;
      chain = chain_beside a files run.request (λ wallet blocks. HasChain wallet blocks k.wallet k.blocks) wallet_other blocks_other inputs.chain;
      asks = sym run.asks ∙ inputs.request.form;
      paid = record {
        funded = k.funded;
        plan = k.plan;
        pays = k.pays;
        eligible = k.eligible;
        packages = k.packages;
        claims = k.claims;
        psbt = k.psbt;
        report = same_funded f told (one_report ends.0 (kinds.Funded f) (kinds.Funded told) read (reads_of (Unit {0}) a files run.request ends.0 ends.1 k));
        logs = run.ran.log_is ∙ ends.3 tt ∙ k.logs;
      };
    }
as_asked_by ways.Wide a files after (Shared f) said log run wallet_other blocks_other ends report = absurd report
as_asked_by ways.Wide a files after (Whole f) said log run wallet_other blocks_other ends report =
    let k = ends.2 in
    let inputs = k.inputs tt in
    let plan : PlainPlan = plan_of (chain_from k.wallet k.blocks) k.asked in
    let told : PlainFunded = wide_told (Unit {0}) a files run.request ends.0 ends.1 k in
    let read : IsWideText ends.0 f = subst (λ (t : List ℕ). IsWideText t f) (run.ran.said_is ∙ ends.4 tt) report in
    record {
      wallet = k.wallet;
      blocks = k.blocks;
      request = k.asked;
      chain = chain_beside a files run.request (λ wallet blocks. HasChain wallet blocks k.wallet k.blocks) wallet_other blocks_other inputs.chain;
      asks = sym run.asks ∙ inputs.request.form;
      paid = record {
        funded = k.funded;
        plan = k.plan;
        pays = k.pays;
        eligible = All-weaker (IsEligible plan) (MaySpend plan) (λ c eligible. inl eligible) k.funded.coins k.eligible;
        packages = k.packages;
        claims = k.claims;
        psbt = k.psbt;
        report = one_payment ends.0 f told read (wide_reads_of (Unit {0}) a files run.request ends.0 ends.1 k);
        logs = run.ran.log_is ∙ ends.3 tt ∙ k.logs;
      };
    }
as_asked_by ways.Share a files after (Whole f) said log run wallet_other blocks_other ends report = absurd report
as_asked_by ways.Share a files after (Shared f) said log run wallet_other blocks_other ends report =
    let k = ends.2 in
    let inputs = k.inputs tt in
    let told : PlainShared = shared_of (Unit {0}) a files run.request ends.0 ends.1 k in
    let read : IsSharedText ends.0 f = subst (λ (t : List ℕ). IsSharedText t f) (run.ran.said_is ∙ ends.4 tt) report in
    record {
      wallet = k.wallet;
      blocks = k.blocks;
      request = k.asked;
      chain = chain_beside a files run.request (λ wallet blocks. HasChain wallet blocks k.wallet k.blocks) wallet_other blocks_other inputs.all.chain;
      asks = sym run.asks ∙ inputs.all.request.form;
      paid = (
        refl,
        record {
          run = k.run;
          paying = k.paying;
          taken = inputs.taken;
          pays = k.pays;
          psbt = k.psbt;
          report = one_shared ends.0 f told read (shared_reads_of (Unit {0}) a files run.request ends.0 ends.1 k);
          logs = run.ran.log_is ∙ ends.3 tt ∙ k.logs;
        },
      );
    }

pub as_asked : (a : Asked) (files after : ShelfView) (f : PaidReport) (log : List ℕ) → IsOther (string_bytes a.names.wallet) → IsOther (string_bytes a.names.blocks) → IsPayment (Unit {0}) a files after f log → IsAsAsked a files f log
as_asked a files after f log wallet_other blocks_other payment =
    as_asked_by a.way a files after f payment.said log payment.run wallet_other blocks_other (payment.run.ran.ends (λ e. cc)) payment.report

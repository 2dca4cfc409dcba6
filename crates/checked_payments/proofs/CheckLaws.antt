-- A payment by `fund` from words is one from the files that it wrote.
use Rattle.std.proofs.Common.{◌≡◌, ◌∙◌, ℕ, List, [], refl, sym, subst, string_bytes}
use Rattle.fund_shelf.specs.Causes.{ShelfView}
use Rattle.fund_files.specs.Contents.{HasChain, HasRequest}
use Rattle.fund_report.specs.PlainFunded.{PlainFunded}
use Rattle.fund_report.specs.ReportText.{IsReportText}
use Rattle.fund_report.specs.declared.report.Report.{Report}
use Rattle.fund_report.specs.declared.report.Report.TheVariants as kinds
use Rattle.fund_report.proofs.ToldLaws.{one_report}
use Rattle.command_end.specs.declared.status.Status.TheVariants as statuses
use Rattle.command_inputs.specs.Names.{Payment}
use Rattle.command_check.specs.Evidence.{IsWithin}
use Rattle.command_check.specs.Outcome.{Accepted, ComesTo}
use Rattle.checked_runs.proofs.CommandLaws.{HasPaid, funded_reads, paid_checked, told_of}
use Rattle.fund_top.specs.Statuses.{Ends}
use Rattle.held_run.specs.Held.{IsOther}
use Rattle.held_run.specs.Run.{beside, empty_sink, no_jobs}
use Rattle.held_run.proofs.RunLaws.{other_file}
use Rattle.pay_words.specs.declared.asked.Asked.{Asked}
use Rattle.pay_words.specs.declared.way.Way.{Way}
use Rattle.pay_words.specs.declared.way.Way.TheVariants as ways
use Rattle.command_pay.specs.Run.{IsPayment, IsReportBy, IsRun, command_by, held_names, sources_of}
use Rattle.command_pay.specs.declared.report.PaidReport.TheVariants.{Whole}
use Rattle.checked_payments.specs.Beside.{StandsFor}

-- what holds of the wallet and the blocks beside the request holds of them where they stand now
chain_now : (a : Asked) (files : ShelfView) (request report log : List ℕ) (checked : List ℕ → List ℕ) (p : Payment) (name : List ℕ) (P : List ℕ → List ℕ → Type 0) → IsOther (string_bytes a.names.wallet) → IsOther (string_bytes a.names.blocks) → StandsFor a files.files report log checked p name
    → P ((beside files request).files (string_bytes a.names.wallet)) ((beside files request).files (string_bytes a.names.blocks)) → P (checked (string_bytes a.names.wallet)) (checked (string_bytes a.names.blocks))
chain_now a files request report log checked p name P wallet_other blocks_other stand held =
    let wallet_is = other_file files.files request [] (string_bytes a.names.wallet) wallet_other ∙ sym stand.wallet in
    let blocks_is = other_file files.files request [] (string_bytes a.names.blocks) blocks_other ∙ sym stand.blocks in
    subst (λ (x : List ℕ). P x (checked (string_bytes a.names.blocks))) wallet_is (subst (λ (x : List ℕ). P ((beside files request).files (string_bytes a.names.wallet)) x) blocks_is held)

accepted_by : (way : Way) (a : Asked) (files after : ShelfView) (f : PlainFunded) (said log : List ℕ) (run : IsRun (Unit {0}) a files after statuses.Done said log) (checked : List ℕ → List ℕ) (p : Payment) (name : List ℕ) → way ≡ ways.Fund → IsOther (string_bytes a.names.wallet) → IsOther (string_bytes a.names.blocks)
    → Ends (Unit {0}) (Unit {0}) (Unit {0}) (command_by way (sources_of a) held_names) (beside files run.request) run.ran.shelf empty_sink run.ran.sink no_jobs run.ran.keeper statuses.Done → IsReportBy way said (Whole f) → IsWithin said → StandsFor a files.files said log checked p name
    → ComesTo checked (sources_of a) p name (Accepted (kinds.Funded f))
accepted_by ways.Wide a files after f said log run checked p name is wallet_other blocks_other ends report short stand = absurd cc
accepted_by ways.Share a files after f said log run checked p name is wallet_other blocks_other ends report short stand = absurd cc
accepted_by ways.Fund a files after f said log run checked p name is wallet_other blocks_other ends report short stand =
    let k = ends.2 in
    let inputs = k.inputs tt in
    let said_is : said ≡ ends.0 = run.ran.said_is ∙ ends.4 tt in
    let log_is : log ≡ ends.1 = run.ran.log_is ∙ ends.3 tt in
    let request_is : run.request ≡ checked p.request = run.bytes ∙ sym stand.request_is in
    let paid : HasPaid checked (sources_of a) p k.asked.tries k.funded ends.0 ends.1 = record {
      wallet = k.wallet;
      blocks = k.blocks;
      asked = k.asked;
      inputs = record {
        chain = chain_now a files run.request said log checked p name (λ wallet blocks. HasChain wallet blocks k.wallet k.blocks) wallet_other blocks_other stand inputs.chain;
        request = subst (λ (x : List ℕ). HasRequest x k.asked) request_is inputs.request;
        taken = inputs.taken;
      };
      plan = k.plan;
      steps = k.steps;
      outcome = k.outcome;
      pays = k.pays;
      psbt = k.psbt;
      shows = k.shows;
      reports = k.reports;
      logs = k.logs;
      reads = k.reads;
      ended = k.ended;
    } in
    let told : Report = told_of checked (sources_of a) p k.asked.tries k.funded ends.0 ends.1 paid in
    let judged : ComesTo checked (sources_of a) p name (Accepted told) = paid_checked checked checked (sources_of a) p name ends.0 ends.1 k.asked.tries k.funded paid (subst IsWithin said_is short)
    (record { beside = record { wallet = refl; blocks = refl; request = refl; report_is = stand.report_is ∙ said_is }; log_is = stand.log_is ∙ log_is }) in
    let read : IsReportText ends.0 (kinds.Funded f) = subst (λ (t : List ℕ). IsReportText t (kinds.Funded f)) said_is report in
    let same : told ≡ kinds.Funded f = one_report ends.0 told (kinds.Funded f) (funded_reads (beside files run.request).files (sources_of a) held_names ends.0 ends.1 k) read in
    subst (λ (r : Report). ComesTo checked (sources_of a) p name (Accepted r)) same judged

pub accepted : (a : Asked) (files after : ShelfView) (f : PlainFunded) (log : List ℕ) (k : IsPayment (Unit {0}) a files after (Whole f) log) (checked : List ℕ → List ℕ) (p : Payment) (name : List ℕ) → IsOther (string_bytes a.names.wallet) → IsOther (string_bytes a.names.blocks) → a.way ≡ ways.Fund → IsWithin k.said
    → StandsFor a files.files k.said log checked p name → ComesTo checked (sources_of a) p name (Accepted (kinds.Funded f))
accepted a files after f log k checked p name wallet_other blocks_other fund short stand =
    accepted_by a.way a files after f k.said log k.run checked p name fund wallet_other blocks_other (k.run.ran.ends (λ e. cc)) k.report short stand

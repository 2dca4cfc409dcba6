-- What a run that is done printed is the report of its payment, which is as it was asked for.
use Rattle.std.proofs.Common.{◌≡◌, ◌∙◌, ℕ, List, [], refl, sym, subst, string_bytes}
use Rattle.fund_shelf.specs.Causes.{ShelfView}
use Rattle.fund_files.specs.Chain.{chain_from}
use Rattle.fund_files.specs.Contents.{HasChain}
use Rattle.command_end.specs.declared.status.Status.{Status}
use Rattle.command_end.specs.declared.status.Status.TheVariants as statuses
use Rattle.command_sweep.specs.Asked.{asked_by}
use Rattle.command_end.specs.Names.{Sources}
use Rattle.command_inputs.specs.Names.{Payment}
use Rattle.command_sweep.specs.Results.{IsSwept}
use Rattle.held_run.specs.Held.{IsOther, request_name}
use Rattle.held_run.specs.Run.{beside}
use Rattle.held_run.proofs.RunLaws.{other_file}
use Rattle.pay_words.specs.declared.asked.Asked.{Asked}
use Rattle.amount_reports.specs.SweptText.{IsSweptText, PlainSwept}
use Rattle.amount_reports.proofs.SweptLaws.{one_swept}
use Rattle.amount_laws.specs.Told.{swept_told}
use Rattle.amount_laws.proofs.SweptLaws.{sweep_reads}
use Rattle.command_pay.specs.Run.{sources_of}
use Rattle.command_sweeping.specs.AsAsked.{IsAsAsked}
use Rattle.command_sweeping.specs.Run.{IsPayment, IsRun}

-- the files beside a request
abbrev files_of : ShelfView → List ℕ → List ℕ → List ℕ
files_of files request = (beside files request).files

-- what is reported of a sweep of files
abbrev told_of : (told : Type 0) (files : List ℕ → List ℕ) (s : Sources) (p : Payment) (report : List ℕ) → IsSwept told files s p report → PlainSwept
told_of told files s p report k = swept_told (chain_from k.wallet k.blocks) k.asked k.coins k.amount

-- and its text is a report of it
reads_of : (told : Type 0) (files : List ℕ → List ℕ) (s : Sources) (p : Payment) (report : List ℕ) (k : IsSwept told files s p report) → IsSweptText report (told_of told files s p report k)
reads_of told files s p report k =
    subst (λ (t : List ℕ). IsSweptText t (told_of told files s p report k)) (sym k.reports) (sweep_reads (chain_from k.wallet k.blocks) k.asked k.coins k.amount k.sweeps k.fit k.psbt)

pub report_of_run : (told : Type 0) (a : Asked) (files after : ShelfView) (said : List ℕ) → IsRun told a files after statuses.Done said → (r : PlainSwept) × IsSweptText said r
report_of_run told a files after said run =
    let ends = run.run.ends (λ e. cc) in
    let swept : IsSwept told (files_of files run.request) (sources_of a) (asked_by request_name) ends.0 = ends.1 in
    let r : PlainSwept = told_of told (files_of files run.request) (sources_of a) (asked_by request_name) ends.0 swept in
    (r, subst (λ (t : List ℕ). IsSweptText t r) (sym (run.run.said_is ∙ ends.2 tt)) (reads_of told (files_of files run.request) (sources_of a) (asked_by request_name) ends.0 swept))

-- a run that is done came to the payment that was read from what it printed
pub is_payment : (told : Type 0) (a : Asked) (files after : ShelfView) (status : Status) (r : PlainSwept) (said bytes : List ℕ) → IsRun told a files after status said → status ≡ statuses.Done → bytes ≡ said → IsSweptText bytes r → IsPayment told a files after r
is_payment told a files after status r said bytes run done same report = record {
  said = said;
  run = subst (λ (s : Status). IsRun told a files after s said) done run;
  report = subst (λ (t : List ℕ). IsSweptText t r) same report;
}

-- ---- as it was asked for

-- the files of a chain, seen beside a request
chain_beside : (a : Asked) (files : ShelfView) (request : List ℕ) (P : List ℕ → List ℕ → Type 0) → IsOther (string_bytes a.names.wallet) → IsOther (string_bytes a.names.blocks) → P (files_of files request (string_bytes a.names.wallet)) (files_of files request (string_bytes a.names.blocks))
    → P (files.files (string_bytes a.names.wallet)) (files.files (string_bytes a.names.blocks))
chain_beside a files request P wallet_other blocks_other held =
    let wallet_is = other_file files.files request [] (string_bytes a.names.wallet) wallet_other in
    let blocks_is = other_file files.files request [] (string_bytes a.names.blocks) blocks_other in
    subst (λ (x : List ℕ). P x (files.files (string_bytes a.names.blocks))) wallet_is (subst (λ (x : List ℕ). P (files_of files request (string_bytes a.names.wallet)) x) blocks_is held)

pub as_asked : (a : Asked) (files after : ShelfView) (r : PlainSwept) → IsOther (string_bytes a.names.wallet) → IsOther (string_bytes a.names.blocks) → IsPayment (Unit {0}) a files after r → IsAsAsked a files r
as_asked a files after r wallet_other blocks_other payment =
    let run = payment.run in
    let ends = run.run.ends (λ e. cc) in
    let k : IsSwept (Unit {0}) (files_of files run.request) (sources_of a) (asked_by request_name) ends.0 = ends.1 in
    let inputs = k.inputs tt in
    let told : PlainSwept = told_of (Unit {0}) (files_of files run.request) (sources_of a) (asked_by request_name) ends.0 k in
    let read : IsSweptText ends.0 r = subst (λ (t : List ℕ). IsSweptText t r) (run.run.said_is ∙ ends.2 tt) payment.report in
    record {
      wallet = k.wallet;
      blocks = k.blocks;
      request = k.asked;
      coins = k.coins;
      amount = k.amount;
      chain = chain_beside a files run.request (λ wallet blocks. HasChain wallet blocks k.wallet k.blocks) wallet_other blocks_other inputs.all.chain;
      asks = sym run.asks ∙ inputs.all.request.form;
      taken = inputs.taken;
      sweeps = k.sweeps;
      fit = k.fit;
      psbt = k.psbt;
      report = one_swept ends.0 r told read (reads_of (Unit {0}) (files_of files run.request) (sources_of a) (asked_by request_name) ends.0 k);
    }

-- What a call gave, by the status that it ended with.
use Rattle.std.proofs.Common.{◌≡◌, ◌∙◌, ℕ, Bool, true, false, List, Option, Some, None, refl, sym, subst, ap}
use Rattle.std.specs.Prelude.{◌&&◌, nat_le, nat_lt}
use Rattle.fund_files.specs.Chain.{chain_from}
use Rattle.fund_outside.specs.Kept.{KeptJob}
use Rattle.kept_job.specs.Kept.{IsKeptAt}
use Rattle.packed_jobs.specs.Packed.{packed_if}
use Rattle.command_end.specs.declared.status.Status.TheVariants as statuses
use Rattle.command_inputs.specs.Digest.{digest_in}
use Rattle.command_inputs.specs.Outcome.{plan_of}
use Rattle.command_inputs.specs.Results.{IsUnfinished}
use Rattle.command_resume.specs.Resumed as resumed
use Rattle.fund_top.specs.Words.{Work, where_stands}
use Rattle.fund_calls.specs.Call.{IsCall}
use Rattle.fund_calls.specs.Commands.{check_command, coins_command, fund_command, resume_command, settle_command, share_command, sweep_command, wide_command, work_command}
use Rattle.fund_calls.specs.Given.{PlainGiven, files_of, no_files}
use Rattle.fund_calls.specs.Names.{job_name, payment, sources}
use Rattle.fund_calls.specs.Results.{IsAccepted, IsListing, IsNoPayment, IsOpenPayment, IsPayment, IsResumed, IsSettlement, IsShare, IsSweep, IsWide, IsWorked}

-- what was printed is what the run put, and the log is what it wrote
one : (P : List ℕ → Type 0) (report printed written : List ℕ) → P report → written ≡ report → printed ≡ written → P printed
one P report printed written is put told = subst P (sym (told ∙ put)) is

both : (P : List ℕ → List ℕ → Type 0) (report log printed written left file : List ℕ) → P report log → file ≡ log → written ≡ report → printed ≡ written → left ≡ file → P printed left
both P report log printed written left file is kept put told_printed told_log =
    subst (λ (x : List ℕ). P printed x) (sym (told_log ∙ kept)) (subst (λ (x : List ℕ). P x log) (sym (told_printed ∙ put)) is)

pub listed : (g : PlainGiven) (printed log kept : List ℕ) → IsCall (Some coins_command) g None statuses.Done printed log kept → IsListing g printed
listed g printed log kept call =
    let h = call.promises.memory.listed refl in
    one (λ (x : List ℕ). IsListing g x) h.0 printed call.sink.written h.1 h.2 call.printed_is

pub funded : (g : PlainGiven) (printed log kept : List ℕ) → IsCall (Some fund_command) g None statuses.Done printed log kept → IsPayment g printed log
funded g printed log kept call =
    let h = call.promises.memory.done refl in
    both (λ (x y : List ℕ). IsPayment g x y) h.0 h.1 printed call.sink.written log (call.shelf.files (payment.log)) h.2 h.3 h.4 call.printed_is call.log_is

pub none : (g : PlainGiven) (printed log kept : List ℕ) → IsCall (Some fund_command) g None statuses.NoSelection printed log kept → IsNoPayment g printed log
none g printed log kept call =
    let h = call.promises.memory.none refl in
    both (λ (x y : List ℕ). IsNoPayment g x y) h.0 h.1 printed call.sink.written log (call.shelf.files (payment.log)) h.2 h.3 h.4 call.printed_is call.log_is

pub resumed_on : (g : PlainGiven) (job printed log kept : List ℕ) → IsCall (Some resume_command) g (Some job) statuses.Done printed log kept → IsResumed g job printed log
resumed_on g job printed log kept call =
    let h = call.promises.memory.resumed refl in
    let given = call.given in
    let told = both (λ (x y : List ℕ). resumed.IsFunded (Unit {0}) (Unit {0}) (files_of g) sources payment (call.before.jobs job_name) x y) h.0 h.1 printed call.sink.written log (call.shelf.files (payment.log)) h.2 h.3 h.4 call.printed_is call.log_is in
    (given.0, given.1, given.2, subst (λ (o : Option KeptJob). resumed.IsFunded (Unit {0}) (Unit {0}) (files_of g) sources payment o printed log) given.3 told)

pub accepted : (g : PlainGiven) (printed log kept : List ℕ) → IsCall (Some check_command) g None statuses.Done printed log kept → IsAccepted g printed
accepted g printed log kept call =
    let h = call.promises.memory.accepted refl in
    one (λ (x : List ℕ). IsAccepted g x) h.0 printed call.sink.written h.1 h.2 call.printed_is

pub widened : (g : PlainGiven) (printed log kept : List ℕ) → IsCall (Some wide_command) g None statuses.Done printed log kept → IsWide g printed log
widened g printed log kept call =
    let h = call.promises.memory.further refl in
    both (λ (x y : List ℕ). IsWide g x y) h.0 h.1 printed call.sink.written log (call.shelf.files (payment.log)) h.2 (h.3 tt) (h.4 tt) call.printed_is call.log_is

pub shared : (g : PlainGiven) (printed log kept : List ℕ) → IsCall (Some share_command) g None statuses.Done printed log kept → IsShare g printed log
shared g printed log kept call =
    let h = call.promises.memory.further refl in
    both (λ (x y : List ℕ). IsShare g x y) h.0 h.1 printed call.sink.written log (call.shelf.files (payment.log)) h.2 (h.3 tt) (h.4 tt) call.printed_is call.log_is

pub swept : (g : PlainGiven) (printed log kept : List ℕ) → IsCall (Some sweep_command) g None statuses.Done printed log kept → IsSweep g printed
swept g printed log kept call =
    let h = call.promises.memory.further refl in
    one (λ (x : List ℕ). IsSweep g x) h.0 printed call.sink.written h.1 (h.2 tt) call.printed_is

pub settled : (g : PlainGiven) (printed log kept : List ℕ) → IsCall (Some settle_command) g None statuses.Done printed log kept → IsSettlement g printed
settled g printed log kept call =
    let h = call.promises.memory.further refl in
    one (λ (x : List ℕ). IsSettlement g x) h.0 printed call.sink.written (h.1 tt) (h.2 tt) call.printed_is

worked_by : (stands : Bool) (number count : ℕ) (printed log kept : List ℕ) → IsCall (where_stands stands (Work number count)) no_files None statuses.Done printed log kept → IsWorked number count printed
worked_by true number count printed log kept call =
    let h = call.promises.memory.summed refl in
    one (λ (x : List ℕ). IsWorked number count x) h.0 printed call.sink.written h.1 h.2 call.printed_is
worked_by false number count printed log kept call = absurd (let usage = call.promises.usage.usage.1 refl in cc)

pub worked : (number count : ℕ) (printed log kept : List ℕ) → IsCall (work_command number count) no_files None statuses.Done printed log kept → IsWorked number count printed
worked number count printed log kept call = worked_by (nat_le number 9_223_372_036_854_775_807 && (nat_lt 0 count && nat_le count 10_000)) number count printed log kept call

-- ---- an open search, and its job

open_with : (g : PlainGiven) (printed kept : List ℕ) (u : IsUnfinished (Unit {0}) (files_of g) sources payment printed) (digest : List ℕ) (o : Option KeptJob) → digest ≡ digest_in (files_of g) sources payment → kept ≡ packed_if o
    → IsKeptAt (plan_of (chain_from u.wallet u.blocks) u.asked) digest u.asked.tries o → IsOpenPayment g printed kept
open_with g printed kept u digest o digest_is kept_is left =
    let named : IsKeptAt (plan_of (chain_from u.wallet u.blocks) u.asked) (digest_in (files_of g) sources payment) u.asked.tries o = subst (λ (x : List ℕ). IsKeptAt (plan_of (chain_from u.wallet u.blocks) u.asked) x u.asked.tries o) digest_is left in
    record {
      unfinished = u;
      job = named.job;
      kept_is = kept_is ∙ ap (λ (x : Option KeptJob). packed_if x) named.is;
      left = subst (λ (x : Option KeptJob). IsKeptAt (plan_of (chain_from u.wallet u.blocks) u.asked) (digest_in (files_of g) sources payment) u.asked.tries x) named.is named;
    }

pub unfinished : (g : PlainGiven) (printed log kept : List ℕ) → IsCall (Some fund_command) g None statuses.Unfinished printed log kept → IsOpenPayment g printed kept
unfinished g printed log kept call =
    let h = call.promises.memory.unfinished refl in
    let opened : IsOpenPayment g h.0 kept = open_with g h.0 kept h.1 h.4.1.0 (call.after.jobs job_name) (h.4.1.1 tt) (call.kept_is refl) h.4.1.2 in
    one (λ (x : List ℕ). IsOpenPayment g x kept) h.0 printed call.sink.written opened h.3 call.printed_is

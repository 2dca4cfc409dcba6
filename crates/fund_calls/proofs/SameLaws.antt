-- Two calls of `fund` with the same bytes give the same.
use Rattle.std.proofs.Common.{◌≡◌, ◌∙◌, ℕ, List, [], Option, Some, None, inl, inr, refl, sym, ap, subst, arith}
use Rattle.std.specs.Prelude.{◌≢◌, ◌⊎◌, length}
use Rattle.fund_shelf.specs.Causes.{Rose, SinkView}
use Rattle.fund_outside.specs.Kept.{KeptJob, after_save}
use Rattle.request_text.specs.PlainRequest.{PlainRequest}
use Rattle.fund_files.specs.Chain.{chain_from}
use Rattle.fund_files.specs.declared.chain.Chain.{Chain}
use Rattle.fund_plan.specs.State.{PlanState, moved}
use Rattle.kept_job.specs.Kept.{new_of}
use Rattle.kept_job.specs.Saving.{IsSavedBehind, log_behind}
use Rattle.packed_jobs.specs.Packed.{packed_if}
use Rattle.command_end.specs.Lines.{GotLine, fault_line}
use Rattle.command_end.specs.declared.status.Status.{Status}
use Rattle.command_end.specs.declared.status.Status.TheVariants as statuses
use Rattle.command_inputs.specs.Cause.{cause_of, status_of_cause}
use Rattle.command_inputs.specs.Digest.{digest_in}
use Rattle.command_inputs.specs.Meant.{AreRefusedFor}
use Rattle.command_inputs.specs.Outcome as payments
use Rattle.command_inputs.specs.Outcome.{outcome_of, plan_of}
use Rattle.command_inputs.specs.Words.{refusal_words}
use Rattle.command_inputs.specs.declared.refusal.Refusal.{Refusal}
use Rattle.command_resume.proofs.OneLaws.{by_reading}
use Rattle.fund_top.specs.Outcome.{payment_outcome}
use Rattle.fund_calls.proofs.CauseWords.{cause_words, refusal_told}
use Rattle.fund_calls.specs.Call.{IsCall}
use Rattle.fund_calls.specs.Commands.{fund_command}
use Rattle.fund_calls.specs.Given.{PlainGiven, empty_sink, files_of}
use Rattle.fund_calls.specs.Names.{job_name, log_name, payment, sources}

-- ---- what is printed, and the log, come of what the bytes come to

abbrev due_printed : payments.Outcome → List ℕ
due_printed (payments.Refused cause) = fault_line (cause_words cause)
due_printed (payments.Unfinished report) = report
due_printed (payments.NoSelection report log) = report
due_printed (payments.Funded report log) = report

abbrev due_log : payments.Outcome → List ℕ
due_log (payments.Refused cause) = []
due_log (payments.Unfinished report) = []
due_log (payments.NoSelection report log) = log
due_log (payments.Funded report log) = log

abbrev due : PlainGiven → payments.Outcome
due g = outcome_of (files_of g) sources payment

-- a count that is 0 didn't rise
level : (n : ℕ) → n ≡ 0 → Rose 0 n → ⊥
level n is rose = omega arith

-- a line that an output got, in which nothing failed
pub got : (line : List ℕ) (sink : SinkView) → sink.faults ≡ 0 → sink.refusals ≡ 0 → GotLine line empty_sink sink → sink.written ≡ line
got line sink unfailed whole (inl put) = put
got line sink unfailed whole (inr cut) = elim cut.0 [ inl failed ↦ absurd (level sink.faults unfailed failed) | inr short ↦ absurd (level sink.refusals whole short) ]

abbrev IsDue : PlainGiven → (printed log : List ℕ) → Type 0
IsDue g printed log = (printed ≡ due_printed (due g)) × (log ≡ due_log (due g))

-- what is told of an outcome is due where the bytes come to it
come_to : (g : PlainGiven) (o : payments.Outcome) (printed log : List ℕ) → due g ≡ o → printed ≡ due_printed o → log ≡ due_log o → IsDue g printed log
come_to g o printed log is printed_is log_is = (printed_is ∙ ap (λ (x : payments.Outcome). due_printed x) (sym is), log_is ∙ ap (λ (x : payments.Outcome). due_log x) (sym is))

refused : (status : Status) (g : PlainGiven) (printed log : List ℕ) (sink : SinkView) → sink.faults ≡ 0 → sink.refusals ≡ 0 → printed ≡ sink.written → log ≡ []
    → ((r : Refusal) × (status_of_cause (cause_of r) ≡ status) × (Unit {0} → AreRefusedFor (files_of g) sources payment (cause_of r)) × (Unit {0} → GotLine (fault_line (refusal_words r)) empty_sink sink)) → IsDue g printed log
refused status g printed log sink unfailed whole printed_is log_is h =
    let line : sink.written ≡ fault_line (cause_words (cause_of h.0)) = got (fault_line (refusal_words h.0)) sink unfailed whole (h.3 tt) ∙ ap (λ (x : List ℕ). fault_line x) (refusal_told h.0) in
    come_to g (payments.Refused (cause_of h.0)) printed log (h.2 tt).0 (printed_is ∙ line) log_is

-- nothing is written under the name of the log before the log is
pub unlogged : (g : PlainGiven) (log : List ℕ) (files : List ℕ → List ℕ) → files ≡ files_of g → log ≡ files log_name → log ≡ []
unlogged g log files same log_is = log_is ∙ ap (λ (f : List ℕ → List ℕ). f log_name) same

pub is_due : (status : Status) (g : PlainGiven) (printed log kept : List ℕ) → IsCall (Some fund_command) g None status printed log kept → IsDue g printed log
is_due statuses.Done g printed log kept call =
    let h = call.promises.memory.done refl in
    come_to g (payments.Funded h.0 h.1) printed log (h.2.comes_to tt) (call.printed_is ∙ h.4) (call.log_is ∙ h.3)
is_due statuses.NoSelection g printed log kept call =
    let h = call.promises.memory.none refl in
    come_to g (payments.NoSelection h.0 h.1) printed log (h.2.comes_to tt) (call.printed_is ∙ h.4) (call.log_is ∙ h.3)
is_due statuses.Unfinished g printed log kept call =
    let h = call.promises.memory.unfinished refl in
    come_to g (payments.Unfinished h.0) printed log (h.1.comes_to tt) (call.printed_is ∙ h.3) (unlogged g log call.shelf.files h.2 call.log_is)
is_due statuses.Input g printed log kept call = refused statuses.Input g printed log call.sink call.unfailed call.whole call.printed_is (unlogged g log call.shelf.files (call.promises.stays.kept tt tt) call.log_is) (call.promises.ends.input refl)
is_due statuses.Limit g printed log kept call = refused statuses.Limit g printed log call.sink call.unfailed call.whole call.printed_is (unlogged g log call.shelf.files (call.promises.stays.kept tt tt) call.log_is) (call.promises.ends.limit refl)
is_due statuses.Usage g printed log kept call = absurd (let none = call.promises.usage.usage.0 refl in cc)
is_due statuses.ReadFault g printed log kept call = absurd (call.promises.memory.read refl)
is_due statuses.WriteFault g printed log kept call = absurd (call.promises.memory.written refl)
is_due statuses.KeepFault g printed log kept call = absurd (call.promises.memory.kept refl)
is_due statuses.Memory g printed log kept call = absurd (call.remembered refl)
is_due statuses.Saved g printed log kept call = absurd (call.promises.ends.saved refl)
is_due statuses.CheckRefused g printed log kept call = absurd (call.promises.ends.check_refused refl)
is_due statuses.Settle g printed log kept call = absurd (call.promises.ends.settle_refused refl)

-- ---- so two calls give the same

module _ (g : PlainGiven) (a b : Status) (printed log kept printed' log' kept' : List ℕ) (x : IsCall (Some fund_command) g None a printed log kept) (y : IsCall (Some fund_command) g None b printed' log' kept') where
  pub same_status : a ≡ b
  same_status = x.due (payment_outcome (due g)) refl ∙ sym (y.due (payment_outcome (due g)) refl)

  pub same_printed : printed ≡ printed'
  same_printed = (is_due a g printed log kept x).0 ∙ sym (is_due b g printed' log' kept' y).0

  pub same_log : log ≡ log'
  same_log = (is_due a g printed log kept x).1 ∙ sym (is_due b g printed' log' kept' y).1

-- ---- and the same job

-- what is saved of a plan is one job
pub saved_once : (digest : List ℕ) (s : PlanState) (parts : ℕ) (bytes : List ℕ) (old new new' : Option KeptJob) → IsSavedBehind digest s parts bytes old new → IsSavedBehind digest s parts bytes old new' → new ≡ new'
saved_once digest s parts bytes old new new' a b =
    let same : a.saved.saved ≡ b.saved.saved = (let p = a.saved.saves in let q = b.saved.saves in cc) in
    let text : a.text ≡ b.text = a.saved.text_is ∙ rw same (sym b.saved.text_is) in
    a.is ∙ ap (λ (t : List ℕ). after_save old parts (log_behind (length bytes) s) t) text ∙ sym b.is

-- the job of an unfinished call is what is saved of the plan of its files
record HasSaved (g : PlainGiven) (k : Chain) (r : PlainRequest) (new : Option KeptJob) : Type 0 where
  saved : IsSavedBehind (digest_in (files_of g) sources payment) (moved (new_of (plan_of k r)) r.tries) 0 [] None new

has_saved : (g : PlainGiven) (k : Chain) (r : PlainRequest) (digest : List ℕ) (old new : Option KeptJob) → digest ≡ digest_in (files_of g) sources payment → old ≡ None → IsSavedBehind digest (moved (new_of (plan_of k r)) r.tries) 0 [] old new → HasSaved g k r new
has_saved g k r digest old new digest_is none h =
    let named = subst (λ (d : List ℕ). IsSavedBehind d (moved (new_of (plan_of k r)) r.tries) 0 [] old new) digest_is h in
    record { saved = subst (λ (o : Option KeptJob). IsSavedBehind (digest_in (files_of g) sources payment) (moved (new_of (plan_of k r)) r.tries) 0 [] o new) none named }

open_kept : (g : PlainGiven) (printed log kept printed' log' kept' : List ℕ) → IsCall (Some fund_command) g None statuses.Unfinished printed log kept → IsCall (Some fund_command) g None statuses.Unfinished printed' log' kept' → kept ≡ kept'
open_kept g printed log kept printed' log' kept' x y =
    let h = x.promises.memory.unfinished refl in
    let i = y.promises.memory.unfinished refl in
    let a = has_saved g (chain_from h.1.wallet h.1.blocks) h.1.asked h.4.1.0 (x.before.jobs job_name) (x.after.jobs job_name) (h.4.1.1 tt) (ap (λ (f : List ℕ → Option KeptJob). f job_name) x.given) h.4.1.3 in
    let b = has_saved g (chain_from i.1.wallet i.1.blocks) i.1.asked i.4.1.0 (y.before.jobs job_name) (y.after.jobs job_name) (i.4.1.1 tt) (ap (λ (f : List ℕ → Option KeptJob). f job_name) y.given) i.4.1.3 in
    let moved_over = by_reading (files_of g) sources payment h.1.wallet i.1.wallet h.1.blocks i.1.blocks h.1.asked i.1.asked (h.1.inputs tt) (i.1.inputs tt) (λ (k : Chain) (r : PlainRequest). HasSaved g k r (x.after.jobs job_name)) a in
    let same : x.after.jobs job_name ≡ y.after.jobs job_name = saved_once (digest_in (files_of g) sources payment) (moved (new_of (plan_of (chain_from i.1.wallet i.1.blocks) i.1.asked)) i.1.asked.tries) 0 [] None (x.after.jobs job_name) (y.after.jobs job_name) moved_over.saved b.saved in
    x.kept_is refl ∙ ap (λ (o : Option KeptJob). packed_if o) same ∙ sym (y.kept_is refl)

-- a status is unfinished or isn't
pub is_open : (s : Status) → (s ≡ statuses.Unfinished) ⊎ (s ≢ statuses.Unfinished)
is_open statuses.Unfinished = inl refl
is_open statuses.Done = inr (λ e. absurd cc)
is_open statuses.Usage = inr (λ e. absurd cc)
is_open statuses.Input = inr (λ e. absurd cc)
is_open statuses.ReadFault = inr (λ e. absurd cc)
is_open statuses.WriteFault = inr (λ e. absurd cc)
is_open statuses.KeepFault = inr (λ e. absurd cc)
is_open statuses.Memory = inr (λ e. absurd cc)
is_open statuses.Saved = inr (λ e. absurd cc)
is_open statuses.Limit = inr (λ e. absurd cc)
is_open statuses.NoSelection = inr (λ e. absurd cc)
is_open statuses.CheckRefused = inr (λ e. absurd cc)
is_open statuses.Settle = inr (λ e. absurd cc)

pub same_kept : (g : PlainGiven) (a b : Status) (printed log kept printed' log' kept' : List ℕ) → IsCall (Some fund_command) g None a printed log kept → IsCall (Some fund_command) g None b printed' log' kept' → kept ≡ kept'
same_kept g a b printed log kept printed' log' kept' x y =
    let same : a ≡ b = same_status g a b printed log kept printed' log' kept' x y in
    elim (is_open a) [
      | inl opened ↦
          open_kept g printed log kept printed' log' kept' (subst (λ (s : Status). IsCall (Some fund_command) g None s printed log kept) opened x)
          (subst (λ (s : Status). IsCall (Some fund_command) g None s printed' log' kept') (sym same ∙ opened) y)
      | inr closed ↦ x.none_kept closed ∙ sym (y.none_kept (λ e. closed (same ∙ e)))
    ]

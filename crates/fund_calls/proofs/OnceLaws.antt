-- Calls that are made twice give the same.
use Rattle.std.proofs.Common.{◌≡◌, ◌∙◌, ℕ, List, [], Option, Some, None, Result, Ok, Err, inl, inr, refl, sym, ap}
use Rattle.fund_shelf.specs.Causes.{SinkView}
use Rattle.fund_outside.specs.Kept.{KeptJob}
use Rattle.fund_files.specs.Cause.{FileCause, cause_of as file_cause_of}
use Rattle.packed_jobs.specs.Packed.{packed_if}
use Rattle.command_coins.specs.Outcome as listings
use Rattle.command_coins.specs.Statuses as listing_ends
use Rattle.command_end.specs.Lines.{GotLine, fault_line, file_refusal_words}
use Rattle.command_end.specs.declared.status.Status.{Status}
use Rattle.command_end.specs.declared.status.Status.TheVariants as statuses
use Rattle.command_inputs.specs.Cause.{cause_of}
use Rattle.command_inputs.specs.Words.{refusal_words}
use Rattle.command_share.specs.Outcome as shares
use Rattle.command_share.specs.Statuses as shares_ends
use Rattle.command_share.specs.Stops.{not_share_words, share_dust_words}
use Rattle.command_sweep.specs.Asked.{asked_by}
use Rattle.command_sweep.specs.Outcome as sweeps
use Rattle.command_sweep.specs.Statuses as sweeps_ends
use Rattle.command_sweep.specs.Stops.{not_sweep_words, too_heavy_words}
use Rattle.command_wide.specs.Outcome as wides
use Rattle.command_wide.specs.Statuses as wides_ends
use Rattle.command_wide.specs.Stops.{not_wide_words}
use Rattle.further_commands.specs.Outcome as further
use Rattle.fund_top.specs.Outcome.{Other, listing_outcome}
use Rattle.fund_top.specs.Statuses.{job_of, status_of}
use Rattle.fund_top.specs.Words.{Command}
use Rattle.fund_calls.proofs.CauseWords.{cause_words, file_told, file_words, refusal_told}
use Rattle.fund_calls.proofs.SameLaws.{got, is_open, same_kept, same_log, same_printed, same_status, unlogged}
use Rattle.fund_calls.specs.Call.{IsCall}
use Rattle.fund_calls.specs.Commands.{coins_command, fund_command, share_command, sweep_command, wide_command}
use Rattle.fund_calls.specs.Given.{PlainGiven, empty_sink, files_of, shelf_of}
use Rattle.fund_calls.specs.Names.{job_name, payment, request_name, sources}
use Rattle.fund_calls.specs.Once.{GivesTheSame}

pub funded_once : (g : PlainGiven) → GivesTheSame (Some fund_command) g None
funded_once g a b printed log kept printed' log' kept' x y = record {
  status = same_status g a b printed log kept printed' log' kept' x y;
  print = same_printed g a b printed log kept printed' log' kept' x y;
  logs = same_log g a b printed log kept printed' log' kept' x y;
  job = same_kept g a b printed log kept printed' log' kept' x y;
}

-- ---- commands that keep no job

-- what every call gives
record IsPinned (a status : Status) (printed due_printed log due_log kept : List ℕ) : Type 0 where
  status_is : a ≡ status
  printed_is : printed ≡ due_printed
  log_is : log ≡ due_log
  kept_is : kept ≡ []

pinned_once : (words : Option Command) (g : PlainGiven) (status : Status) (due_printed due_log : List ℕ) → ((a : Status) (printed log kept : List ℕ) → IsCall words g None a printed log kept → IsPinned a status printed due_printed log due_log kept) → GivesTheSame words g None
pinned_once words g status due_printed due_log pins a b printed log kept printed' log' kept' x y =
    let p = pins a printed log kept x in
    let q = pins b printed' log' kept' y in
    record { status = p.status_is ∙ sym q.status_is; print = p.printed_is ∙ sym q.printed_is; logs = p.log_is ∙ sym q.log_is; job = p.kept_is ∙ sym q.kept_is }

pub no_job : (c : Command) (g : PlainGiven) (a : Status) (printed log kept : List ℕ) → job_of c ≡ None → IsCall (Some c) g None a printed log kept → kept ≡ []
no_job c g a printed log kept none call = elim (is_open a) [
  | inl opened ↦
      let stays : call.after.jobs job_name ≡ call.before.jobs job_name = (call.promises.stays.jobs tt).others job_name (λ e. absurd (let both = sym none ∙ e in cc)) in
      let nothing : call.before.jobs job_name ≡ None = ap (λ (f : List ℕ → Option KeptJob). f job_name) call.given in
      call.kept_is opened ∙ ap (λ (o : Option KeptJob). packed_if o) (stays ∙ nothing)
  | inr closed ↦ call.none_kept closed
]

-- what was printed, and the log, are those of what the bytes come to
record IsToldAs {O : Type 0} (due_printed due_log : O → List ℕ) (due : O) (printed log : List ℕ) : Type 0 where
  print : printed ≡ due_printed due
  logs : log ≡ due_log due

told_as : {O : Type 0} (due_printed due_log : O → List ℕ) (due o : O) (printed log : List ℕ) → due ≡ o → printed ≡ due_printed o → log ≡ due_log o → IsToldAs due_printed due_log due printed log
told_as {O = O} due_printed due_log due o printed log is print logs = record { print = print ∙ ap (λ (x : O). due_printed x) (sym is); logs = logs ∙ ap (λ (x : O). due_log x) (sym is) }

-- the line of a refusal
pub line_of : (words due : List ℕ) (printed : List ℕ) (sink : SinkView) → words ≡ due → sink.faults ≡ 0 → sink.refusals ≡ 0 → printed ≡ sink.written → GotLine (fault_line words) empty_sink sink → printed ≡ fault_line due
line_of words due printed sink is unfailed whole printed_is put = printed_is ∙ got (fault_line words) sink unfailed whole put ∙ ap (λ (x : List ℕ). fault_line x) is

-- ---- the listing

abbrev listing_printed : Result (List ℕ) FileCause → List ℕ
listing_printed (Ok listing) = listing
listing_printed (Err cause) = fault_line (file_words cause)

abbrev listing_log : Result (List ℕ) FileCause → List ℕ
listing_log due = []

abbrev listing_due : PlainGiven → Result (List ℕ) FileCause
listing_due g = listings.outcome_of (files_of g) sources

abbrev IsListingTold : PlainGiven → (printed log : List ℕ) → Type 0
IsListingTold g printed log = IsToldAs listing_printed listing_log (listing_due g) printed log

listing_refused : (status : Status) (g : PlainGiven) (printed log kept : List ℕ) (a : Status) (call : IsCall (Some coins_command) g None a printed log kept) → listing_ends.EndsRefused status (Unit {0}) (Unit {0}) sources (shelf_of g) empty_sink call.sink → IsListingTold g printed log
listing_refused status g printed log kept a call h =
    told_as listing_printed listing_log (listing_due g) (Err (file_cause_of h.0)) printed log (h.2 tt).0 (line_of (file_refusal_words h.0) (file_words (file_cause_of h.0)) printed call.sink (file_told h.0) call.unfailed call.whole call.printed_is (h.3 tt))
    (unlogged g log call.shelf.files (call.promises.stays.others tt) call.log_is)

listing_told : (a : Status) (g : PlainGiven) (printed log kept : List ℕ) → IsCall (Some coins_command) g None a printed log kept → IsListingTold g printed log
listing_told statuses.Done g printed log kept call =
    let h = call.promises.memory.listed refl in
    told_as listing_printed listing_log (listing_due g) (Ok h.0) printed log (h.1.comes_to tt) (call.printed_is ∙ h.2) (unlogged g log call.shelf.files (call.promises.stays.others tt) call.log_is)
listing_told statuses.Input g printed log kept call = listing_refused statuses.Input g printed log kept statuses.Input call (call.promises.ends.input refl)
listing_told statuses.Limit g printed log kept call = listing_refused statuses.Limit g printed log kept statuses.Limit call (call.promises.ends.limit refl)
listing_told statuses.NoSelection g printed log kept call = absurd (call.promises.memory.none refl)
listing_told statuses.Unfinished g printed log kept call = absurd (call.promises.memory.unfinished refl)
listing_told statuses.Usage g printed log kept call = absurd (let none = call.promises.usage.usage.0 refl in cc)
listing_told statuses.ReadFault g printed log kept call = absurd (call.promises.memory.read refl)
listing_told statuses.WriteFault g printed log kept call = absurd (call.promises.memory.written refl)
listing_told statuses.KeepFault g printed log kept call = absurd (call.promises.memory.kept refl)
listing_told statuses.Memory g printed log kept call = absurd (call.remembered refl)
listing_told statuses.Saved g printed log kept call = absurd (call.promises.ends.saved refl)
listing_told statuses.CheckRefused g printed log kept call = absurd (call.promises.ends.check_refused refl)
listing_told statuses.Settle g printed log kept call = absurd (call.promises.ends.settle_refused refl)

pub listed_once : (g : PlainGiven) → GivesTheSame (Some coins_command) g None
listed_once g = pinned_once (Some coins_command) g (status_of (listing_outcome (listing_due g))) (listing_printed (listing_due g)) (listing_log (listing_due g)) (λ a printed log kept call.
    let told = listing_told a g printed log kept call in
    record { status_is = call.due (listing_outcome (listing_due g)) refl; printed_is = told.print; log_is = told.logs; kept_is = no_job coins_command g a printed log kept refl call })

-- ---- the wide search

abbrev wide_printed : wides.Outcome → List ℕ
wide_printed (wides.Refused cause) = fault_line (cause_words cause)
wide_printed wides.NotWide = fault_line not_wide_words
wide_printed (wides.Unfinished report) = report
wide_printed (wides.NoSelection report log) = report
wide_printed (wides.Funded report log) = report

abbrev wide_log : wides.Outcome → List ℕ
wide_log (wides.Refused cause) = []
wide_log wides.NotWide = []
wide_log (wides.Unfinished report) = []
wide_log (wides.NoSelection report log) = log
wide_log (wides.Funded report log) = log

abbrev wide_due : PlainGiven → wides.Outcome
wide_due g = wides.outcome_of (files_of g) sources payment

abbrev IsWideTold : PlainGiven → (printed log : List ℕ) → Type 0
IsWideTold g printed log = IsToldAs wide_printed wide_log (wide_due g) printed log

wide_refused : (status : Status) (g : PlainGiven) (printed log kept : List ℕ) (a : Status) (call : IsCall (Some wide_command) g None a printed log kept) → wides_ends.EndsRefused status (Unit {0}) (Unit {0}) sources payment (shelf_of g) empty_sink call.sink → log ≡ [] → IsWideTold g printed log
wide_refused status g printed log kept a call h none =
    told_as wide_printed wide_log (wide_due g) (wides.Refused (cause_of h.0)) printed log (h.2 tt).0 (line_of (refusal_words h.0) (cause_words (cause_of h.0)) printed call.sink (refusal_told h.0) call.unfailed call.whole call.printed_is (h.3 tt)) none

wide_input : (g : PlainGiven) (printed log kept : List ℕ) (call : IsCall (Some wide_command) g None statuses.Input printed log kept) → wides_ends.EndsInput (Unit {0}) (Unit {0}) sources payment (shelf_of g) empty_sink call.sink → IsWideTold g printed log
wide_input g printed log kept call (inl h) = wide_refused statuses.Input g printed log kept statuses.Input call h (unlogged g log call.shelf.files (call.promises.stays.kept tt tt) call.log_is)
wide_input g printed log kept call (inr h) = told_as wide_printed wide_log (wide_due g) wides.NotWide printed log (h.0 tt).0 (line_of not_wide_words not_wide_words printed call.sink refl call.unfailed call.whole call.printed_is (h.1 tt)) (unlogged g log call.shelf.files (call.promises.stays.kept tt tt) call.log_is)

wide_told : (a : Status) (g : PlainGiven) (printed log kept : List ℕ) → IsCall (Some wide_command) g None a printed log kept → IsWideTold g printed log
wide_told statuses.Done g printed log kept call =
    let h = call.promises.memory.further refl in
    told_as wide_printed wide_log (wide_due g) (wides.Funded h.0 h.1) printed log (h.2.comes_to tt) (call.printed_is ∙ h.4 tt) (call.log_is ∙ h.3 tt)
wide_told statuses.NoSelection g printed log kept call =
    let h = call.promises.memory.none refl in
    told_as wide_printed wide_log (wide_due g) (wides.NoSelection h.0 h.1) printed log (h.2.comes_to tt) (call.printed_is ∙ h.4 tt) (call.log_is ∙ h.3 tt)
wide_told statuses.Unfinished g printed log kept call =
    let h = call.promises.memory.unfinished refl in
    told_as wide_printed wide_log (wide_due g) (wides.Unfinished h.0) printed log (h.1.comes_to tt) (call.printed_is ∙ h.3 tt) (unlogged g log call.shelf.files (h.2 tt) call.log_is)
wide_told statuses.Input g printed log kept call = wide_input g printed log kept call (call.promises.ends.input refl)
wide_told statuses.Limit g printed log kept call = wide_refused statuses.Limit g printed log kept statuses.Limit call (call.promises.ends.limit refl) (unlogged g log call.shelf.files (call.promises.stays.kept tt tt) call.log_is)
wide_told statuses.Usage g printed log kept call = absurd (let none = call.promises.usage.usage.0 refl in cc)
wide_told statuses.ReadFault g printed log kept call = absurd (call.promises.memory.read refl)
wide_told statuses.WriteFault g printed log kept call = absurd (call.promises.memory.written refl)
wide_told statuses.KeepFault g printed log kept call = absurd (call.promises.memory.kept refl)
wide_told statuses.Memory g printed log kept call = absurd (call.remembered refl)
wide_told statuses.Saved g printed log kept call = absurd (call.promises.ends.saved refl)
wide_told statuses.CheckRefused g printed log kept call = absurd (call.promises.ends.check_refused refl)
wide_told statuses.Settle g printed log kept call = absurd (call.promises.ends.settle_refused refl)

pub widened_once : (g : PlainGiven) → GivesTheSame (Some wide_command) g None
widened_once g = pinned_once (Some wide_command) g (status_of (Other (further.OfWide (wide_due g)))) (wide_printed (wide_due g)) (wide_log (wide_due g)) (λ a printed log kept call.
    let told = wide_told a g printed log kept call in
    record { status_is = call.due (Other (further.OfWide (wide_due g))) (further.OfWide (wide_due g), refl, refl); printed_is = told.print; log_is = told.logs; kept_is = no_job wide_command g a printed log kept refl call })

-- ---- a payment whose recipients bear the fee

abbrev share_printed : shares.Outcome → List ℕ
share_printed (shares.Refused cause) = fault_line (cause_words cause)
share_printed shares.NotShare = fault_line not_share_words
share_printed (shares.ShareDust index) = fault_line (share_dust_words index)
share_printed (shares.Unfinished report) = report
share_printed (shares.NoSelection report log) = report
share_printed (shares.Shared report log) = report

abbrev share_log : shares.Outcome → List ℕ
share_log (shares.Refused cause) = []
share_log shares.NotShare = []
share_log (shares.ShareDust index) = []
share_log (shares.Unfinished report) = []
share_log (shares.NoSelection report log) = log
share_log (shares.Shared report log) = log

abbrev share_due : PlainGiven → shares.Outcome
share_due g = shares.outcome_of (files_of g) sources payment

abbrev IsShareTold : PlainGiven → (printed log : List ℕ) → Type 0
IsShareTold g printed log = IsToldAs share_printed share_log (share_due g) printed log

share_refused : (status : Status) (g : PlainGiven) (printed log kept : List ℕ) (a : Status) (call : IsCall (Some share_command) g None a printed log kept) → shares_ends.EndsRefused status (Unit {0}) (Unit {0}) sources payment (shelf_of g) empty_sink call.sink → log ≡ [] → IsShareTold g printed log
share_refused status g printed log kept a call h none =
    told_as share_printed share_log (share_due g) (shares.Refused (cause_of h.0)) printed log (h.2 tt).0 (line_of (refusal_words h.0) (cause_words (cause_of h.0)) printed call.sink (refusal_told h.0) call.unfailed call.whole call.printed_is (h.3 tt)) none

share_input : (g : PlainGiven) (printed log kept : List ℕ) (call : IsCall (Some share_command) g None statuses.Input printed log kept) → shares_ends.EndsInput (Unit {0}) (Unit {0}) sources payment (shelf_of g) empty_sink call.sink → IsShareTold g printed log
share_input g printed log kept call (inl h) = share_refused statuses.Input g printed log kept statuses.Input call h (unlogged g log call.shelf.files (call.promises.stays.kept tt tt) call.log_is)
share_input g printed log kept call (inr (inl h)) = told_as share_printed share_log (share_due g) shares.NotShare printed log (h.0 tt).0 (line_of not_share_words not_share_words printed call.sink refl call.unfailed call.whole call.printed_is (h.1 tt)) (unlogged g log call.shelf.files (call.promises.stays.kept tt tt) call.log_is)
share_input g printed log kept call (inr (inr h)) = told_as share_printed share_log (share_due g) (shares.ShareDust h.0) printed log (h.1 tt).0 (line_of (share_dust_words h.0) (share_dust_words h.0) printed call.sink refl call.unfailed call.whole call.printed_is (h.2 tt)) (unlogged g log call.shelf.files (call.promises.stays.kept tt tt) call.log_is)

share_told : (a : Status) (g : PlainGiven) (printed log kept : List ℕ) → IsCall (Some share_command) g None a printed log kept → IsShareTold g printed log
share_told statuses.Done g printed log kept call =
    let h = call.promises.memory.further refl in
    told_as share_printed share_log (share_due g) (shares.Shared h.0 h.1) printed log (h.2.comes_to tt) (call.printed_is ∙ h.4 tt) (call.log_is ∙ h.3 tt)
share_told statuses.NoSelection g printed log kept call =
    let h = call.promises.memory.none refl in
    told_as share_printed share_log (share_due g) (shares.NoSelection h.0 h.1) printed log (h.2.comes_to tt) (call.printed_is ∙ h.4 tt) (call.log_is ∙ h.3 tt)
share_told statuses.Unfinished g printed log kept call =
    let h = call.promises.memory.unfinished refl in
    told_as share_printed share_log (share_due g) (shares.Unfinished h.0) printed log (h.1.comes_to tt) (call.printed_is ∙ h.3 tt) (unlogged g log call.shelf.files (h.2 tt) call.log_is)
share_told statuses.Input g printed log kept call = share_input g printed log kept call (call.promises.ends.input refl)
share_told statuses.Limit g printed log kept call = share_refused statuses.Limit g printed log kept statuses.Limit call (call.promises.ends.limit refl) (unlogged g log call.shelf.files (call.promises.stays.kept tt tt) call.log_is)
share_told statuses.Usage g printed log kept call = absurd (let none = call.promises.usage.usage.0 refl in cc)
share_told statuses.ReadFault g printed log kept call = absurd (call.promises.memory.read refl)
share_told statuses.WriteFault g printed log kept call = absurd (call.promises.memory.written refl)
share_told statuses.KeepFault g printed log kept call = absurd (call.promises.memory.kept refl)
share_told statuses.Memory g printed log kept call = absurd (call.remembered refl)
share_told statuses.Saved g printed log kept call = absurd (call.promises.ends.saved refl)
share_told statuses.CheckRefused g printed log kept call = absurd (call.promises.ends.check_refused refl)
share_told statuses.Settle g printed log kept call = absurd (call.promises.ends.settle_refused refl)

pub shared_once : (g : PlainGiven) → GivesTheSame (Some share_command) g None
shared_once g = pinned_once (Some share_command) g (status_of (Other (further.OfShare (share_due g)))) (share_printed (share_due g)) (share_log (share_due g)) (λ a printed log kept call.
    let told = share_told a g printed log kept call in
    record { status_is = call.due (Other (further.OfShare (share_due g))) (further.OfShare (share_due g), refl, refl); printed_is = told.print; log_is = told.logs; kept_is = no_job share_command g a printed log kept refl call })

-- ---- a payment of all coins

abbrev sweep_printed : sweeps.Outcome → List ℕ
sweep_printed (sweeps.Refused cause) = fault_line (cause_words cause)
sweep_printed sweeps.NotSweep = fault_line not_sweep_words
sweep_printed (sweeps.TooHeavy weight) = fault_line (too_heavy_words weight)
sweep_printed (sweeps.NoSelection report) = report
sweep_printed (sweeps.Swept report) = report

abbrev sweep_log : sweeps.Outcome → List ℕ
sweep_log due = []

abbrev sweep_due : PlainGiven → sweeps.Outcome
sweep_due g = sweeps.outcome_of (files_of g) sources (asked_by request_name)

abbrev IsSweepTold : PlainGiven → (printed log : List ℕ) → Type 0
IsSweepTold g printed log = IsToldAs sweep_printed sweep_log (sweep_due g) printed log

sweep_refused : (status : Status) (g : PlainGiven) (printed log kept : List ℕ) (a : Status) (call : IsCall (Some sweep_command) g None a printed log kept) → sweeps_ends.EndsRefused status (Unit {0}) (Unit {0}) sources (asked_by request_name) (shelf_of g) empty_sink call.sink → log ≡ [] → IsSweepTold g printed log
sweep_refused status g printed log kept a call h none =
    told_as sweep_printed sweep_log (sweep_due g) (sweeps.Refused (cause_of h.0)) printed log (h.2 tt).0 (line_of (refusal_words h.0) (cause_words (cause_of h.0)) printed call.sink (refusal_told h.0) call.unfailed call.whole call.printed_is (h.3 tt)) none

sweep_input : (g : PlainGiven) (printed log kept : List ℕ) (call : IsCall (Some sweep_command) g None statuses.Input printed log kept) → sweeps_ends.EndsInput (Unit {0}) (Unit {0}) sources (asked_by request_name) (shelf_of g) empty_sink call.sink → IsSweepTold g printed log
sweep_input g printed log kept call (inl h) = sweep_refused statuses.Input g printed log kept statuses.Input call h (unlogged g log call.shelf.files (call.promises.stays.kept tt tt) call.log_is)
sweep_input g printed log kept call (inr (inl h)) = told_as sweep_printed sweep_log (sweep_due g) sweeps.NotSweep printed log (h.0 tt).0 (line_of not_sweep_words not_sweep_words printed call.sink refl call.unfailed call.whole call.printed_is (h.1 tt)) (unlogged g log call.shelf.files (call.promises.stays.kept tt tt) call.log_is)
sweep_input g printed log kept call (inr (inr h)) = told_as sweep_printed sweep_log (sweep_due g) (sweeps.TooHeavy h.0) printed log (h.1 tt).0 (line_of (too_heavy_words h.0) (too_heavy_words h.0) printed call.sink refl call.unfailed call.whole call.printed_is (h.2 tt)) (unlogged g log call.shelf.files (call.promises.stays.kept tt tt) call.log_is)

sweep_told : (a : Status) (g : PlainGiven) (printed log kept : List ℕ) → IsCall (Some sweep_command) g None a printed log kept → IsSweepTold g printed log
sweep_told statuses.Done g printed log kept call =
    let h = call.promises.memory.further refl in
    told_as sweep_printed sweep_log (sweep_due g) (sweeps.Swept h.0) printed log (h.1.comes_to tt) (call.printed_is ∙ h.2 tt) (unlogged g log call.shelf.files (call.promises.stays.others tt) call.log_is)
sweep_told statuses.NoSelection g printed log kept call =
    let h = call.promises.memory.none refl in
    told_as sweep_printed sweep_log (sweep_due g) (sweeps.NoSelection h.0) printed log (h.1.comes_to tt) (call.printed_is ∙ h.2 tt) (unlogged g log call.shelf.files (call.promises.stays.others tt) call.log_is)
sweep_told statuses.Unfinished g printed log kept call = absurd (call.promises.memory.unfinished refl)
sweep_told statuses.Input g printed log kept call = sweep_input g printed log kept call (call.promises.ends.input refl)
sweep_told statuses.Limit g printed log kept call = sweep_refused statuses.Limit g printed log kept statuses.Limit call (call.promises.ends.limit refl) (unlogged g log call.shelf.files (call.promises.stays.kept tt tt) call.log_is)
sweep_told statuses.Usage g printed log kept call = absurd (let none = call.promises.usage.usage.0 refl in cc)
sweep_told statuses.ReadFault g printed log kept call = absurd (call.promises.memory.read refl)
sweep_told statuses.WriteFault g printed log kept call = absurd (call.promises.memory.written refl)
sweep_told statuses.KeepFault g printed log kept call = absurd (call.promises.memory.kept refl)
sweep_told statuses.Memory g printed log kept call = absurd (call.remembered refl)
sweep_told statuses.Saved g printed log kept call = absurd (call.promises.ends.saved refl)
sweep_told statuses.CheckRefused g printed log kept call = absurd (call.promises.ends.check_refused refl)
sweep_told statuses.Settle g printed log kept call = absurd (call.promises.ends.settle_refused refl)

pub swept_once : (g : PlainGiven) → GivesTheSame (Some sweep_command) g None
swept_once g = pinned_once (Some sweep_command) g (status_of (Other (further.OfSweep (sweep_due g)))) (sweep_printed (sweep_due g)) (sweep_log (sweep_due g)) (λ a printed log kept call.
    let told = sweep_told a g printed log kept call in
    record { status_is = call.due (Other (further.OfSweep (sweep_due g))) (further.OfSweep (sweep_due g), refl, refl); printed_is = told.print; log_is = told.logs; kept_is = no_job sweep_command g a printed log kept refl call })

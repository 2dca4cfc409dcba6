-- What a call prints and writes is told by what its bytes and its job come to.
use Rattle.std.proofs.Common.{◌≡◌, ◌∙◌, List, [], ◌++◌, Option, Some, None, refl, sym, ap, subst}
use Rattle.std.specs.Prelude.{ℕ, codes}
use Rattle.command_check.specs.Words.{accepted_text, check_fault_words, evidence_word}
use Rattle.command_end.specs.Lines.{fault_line}
use Rattle.command_end.specs.Words.{tx_fault_words}
use Rattle.command_end.specs.declared.status.Status.{Status}
use Rattle.command_resume.specs.Words.{kept_words}
use Rattle.command_settle.specs.Files as settle_causes
use Rattle.command_settle.specs.Outcome as settles
use Rattle.command_settle.specs.Stops.{cause_of}
use Rattle.command_settle.specs.Words.{refusal_words, settle_fault_words}
use Rattle.command_settle.specs.declared.stop.Refusal.{Refusal}
use Rattle.command_settle.specs.declared.stop.Refusal.TheVariants as refusals
use Rattle.fund_outside.specs.Kept.{KeptJob}
use Rattle.further_commands.specs.Outcome as further
use Rattle.fund_top.proofs.OutcomeLaws.{one_due}
use Rattle.fund_top.specs.Outcome.{Accepted, Broken, ComesTo, Funded, Listed, NoSelection, NotKept, Other, Outcome, Ran, Refused, Summed, TooLong, Unfinished}
use Rattle.fund_top.specs.Statuses.{job_of, status_of}
use Rattle.fund_top.specs.Words.{Command}
use Rattle.fund_calls.proofs.CauseWords.{cause_words, file_told, file_words}
use Rattle.fund_calls.proofs.OnceLaws.{no_job}
use Rattle.fund_calls.specs.Call.{IsCall}
use Rattle.fund_calls.specs.Given.{PlainGiven, files_of}
use Rattle.fund_calls.specs.Once.{AreSame, GivesTheSame}

-- ---- a transaction that doesn't settle

abbrev pub settle_words : settle_causes.Cause → List ℕ
settle_words (settle_causes.File cause) = file_words cause
settle_words settle_causes.LongReport = codes "limit report"
settle_words settle_causes.LongTx = codes "limit tx"
settle_words settle_causes.NotHex = codes "input tx Hex"
settle_words (settle_causes.NotTx fault) = codes "input tx " ++ tx_fault_words fault
settle_words (settle_causes.Unsettled fault) = codes "settle " ++ settle_fault_words fault

pub settle_told : (r : Refusal) → refusal_words r ≡ settle_words (cause_of r)
settle_told (refusals.File refusal) = file_told refusal
settle_told refusals.LongReport = refl
settle_told refusals.LongTx = refl
settle_told refusals.NotHex = refl
settle_told (refusals.NotTx fault) = refl
settle_told (refusals.Unsettled fault) = refl

-- ---- by what is due

abbrev settle_printed : settles.Outcome → List ℕ
settle_printed (settles.Refused cause) = fault_line (settle_words cause)
settle_printed (settles.Settled text) = text

abbrev further_printed : further.Outcome → List ℕ
further_printed (further.OfSettle due) = settle_printed due
further_printed _ = []

abbrev pub printed_of : Outcome → List ℕ
printed_of (Refused cause) = fault_line (cause_words cause)
printed_of (NotKept fault) = fault_line (kept_words fault)
printed_of (Listed listing) = listing
printed_of (Unfinished report) = report
printed_of (NoSelection report log) = report
printed_of (Funded report log) = report
printed_of (TooLong file) = fault_line (codes "limit " ++ evidence_word file)
printed_of (Broken fault) = fault_line (codes "check " ++ check_fault_words fault)
printed_of (Accepted report) = accepted_text report
printed_of (Summed status summary) = summary
printed_of (Ran due) = []
printed_of (Other due) = further_printed due

abbrev pub log_of : Outcome → List ℕ
log_of (NoSelection report log) = log
log_of (Funded report log) = log
log_of _ = []

-- the bytes and the jobs come to this, and it is told
pub record IsToldOf (c : Command) (g : PlainGiven) (jobs : List ℕ → Option KeptJob) (printed log : List ℕ) : Type 0 where
  pub due : Outcome
  pub comes : ComesTo (files_of g) jobs c due
  pub print : printed ≡ printed_of due
  pub logs : log ≡ log_of due

-- two calls that were told so give the same, where what one job comes to the other does, and the same is kept
pub told_once : (c : Command) (g : PlainGiven) (job : Option (List ℕ)) (a b : Status) (printed log kept printed' log' kept' : List ℕ) (x : IsCall (Some c) g job a printed log kept) (y : IsCall (Some c) g job b printed' log' kept')
    → IsToldOf c g x.before.jobs printed log → IsToldOf c g y.before.jobs printed' log' → ((due : Outcome) → ComesTo (files_of g) y.before.jobs c due → ComesTo (files_of g) x.before.jobs c due) → kept ≡ kept' → AreSame a b printed log kept printed' log' kept'
told_once c g job a b printed log kept printed' log' kept' x y t u over same_kept =
    let same : t.due ≡ u.due = one_due (files_of g) x.before.jobs c t.due u.due t.comes (over u.due u.comes) in
    record {
      status = x.due t.due t.comes ∙ ap (λ (o : Outcome). status_of o) same ∙ sym (y.due u.due u.comes);
      print = t.print ∙ ap (λ (o : Outcome). printed_of o) same ∙ sym u.print;
      logs = t.logs ∙ ap (λ (o : Outcome). log_of o) same ∙ sym u.logs;
      job = same_kept;
    }

-- a command that keeps no job gives the same each time where each call is told so
pub alone_once : (c : Command) (g : PlainGiven) → job_of c ≡ None → ((a : Status) (printed log kept : List ℕ) (call : IsCall (Some c) g None a printed log kept) → IsToldOf c g call.before.jobs printed log) → GivesTheSame (Some c) g None
alone_once c g none told a b printed log kept printed' log' kept' x y =
    told_once c g None a b printed log kept printed' log' kept' x y (told a printed log kept x) (told b printed' log' kept' y)
    (λ due comes. subst (λ (jobs : List ℕ → Option KeptJob). ComesTo (files_of g) jobs c due) (y.given ∙ sym x.given) comes)
    (no_job c g a printed log kept none x ∙ sym (no_job c g b printed' log' kept' none y))

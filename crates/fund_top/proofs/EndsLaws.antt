-- What the status tells of how a command ended.
use Rattle.std.proofs.Common.{◌≡◌, ◌∙◌, ℕ, List, Option, Some, None, Result, Ok, Err, inl, inr, refl, sym, ap, subst}
use Rattle.std.specs.Prelude.{◌⊎◌}
use Rattle.fund_shelf.specs.Causes.{ShelfView, SinkView}
use Rattle.fund_files.specs.Cause.{FileCause}
use Rattle.fund_outside.specs.Kept.{KeeperView}
use Rattle.command_end.specs.Names.{Sources}
use Rattle.command_end.specs.declared.status.Status.{Status}
use Rattle.command_end.specs.declared.status.Status.TheVariants as statuses
use Rattle.command_check.proofs.OutcomeLaws.{one_outcome}
use Rattle.command_check.specs.Outcome as check_files
use Rattle.command_check.specs.Statuses as checks
use Rattle.command_desk.proofs.OutcomeLaws as desk_laws
use Rattle.command_desk.specs.Outcome as desk_files
use Rattle.command_coins.specs.Outcome as listing_files
use Rattle.command_coins.specs.Statuses as listings
use Rattle.command_inputs.specs.Cause.{Cause, Files, cause_of, status_of_cause}
use Rattle.command_inputs.specs.Outcome as payment_files
use Rattle.command_inputs.specs.Names.{Payment}
use Rattle.command_fund.specs.Statuses as payments
use Rattle.command_inputs.specs.Results as payment_results
use Rattle.command_fund.proofs.Finished.{log_lost, report_due}
use Rattle.command_resume.specs.Outcome as resume_files
use Rattle.command_resume.proofs.EndsLaws.{gone_not, resume_complete, resume_refused}
use Rattle.command_work.specs.Outcome as load_words
use Rattle.further_commands.proofs.EndsLaws as further_laws
use Rattle.command_work.specs.Statuses as loads
use Rattle.fund_top.specs.Outcome.{ComesTo, IsRefusal, IsTold, Outcome, Refused, check_outcome, desk_outcome, listing_outcome, load_outcome, payment_outcome, resume_outcome}
use Rattle.fund_top.specs.Statuses.{Ends, NoneFailed, NoneUnkept, NoneUnread, status_of}
use Rattle.fund_top.specs.Words.{Command, Coins, Fund, Resume, Check, Work, Desk, Further}
use Rattle.fund_top.proofs.CommandEnds.{check_back, desk_back, further_back, listing_back, load_back, payment_back, resume_back}
use Rattle.fund_top.proofs.KeptLaws.{job_refused}

-- ---- a report isn't due where the files are refused

listing_not : (due : Result (List ℕ) FileCause) (cause : Cause) → listing_outcome due ≡ Refused cause → listings.IsReported due → ⊥
listing_not (Ok listing) cause is reported = cc
listing_not (Err file_cause) cause is reported = reported

payment_not : (due : payment_files.Outcome) (cause : Cause) → payment_outcome due ≡ Refused cause → due ≡ payment_files.Refused cause
payment_not (payment_files.Refused own) cause is = cc
payment_not (payment_files.Unfinished report) cause is = absurd cc
payment_not (payment_files.NoSelection report log) cause is = absurd cc
payment_not (payment_files.Funded report log) cause is = absurd cc

load_not : (due : load_words.Outcome) (cause : Cause) (status : Status) (summary : List ℕ) → load_outcome due ≡ Refused cause → due ≡ load_words.Summed status summary → ⊥
load_not due cause status summary is summed = let e = sym (ap load_outcome summed) ∙ is in absurd cc

-- a summary is what a workload comes to
summary_due : (number count : ℕ) (status : Status) (summary : List ℕ) → loads.IsSummary number count status summary → load_words.outcome_of number count ≡ load_words.Summed status summary
summary_due number count statuses.Done summary h = h.comes_to
summary_due number count statuses.NoSelection summary h = h.comes_to
summary_due number count statuses.Unfinished summary h = h.comes_to
summary_due number count statuses.Usage summary h = absurd h
summary_due number count statuses.Input summary h = absurd h
summary_due number count statuses.Limit summary h = absurd h
summary_due number count statuses.ReadFault summary h = absurd h
summary_due number count statuses.WriteFault summary h = absurd h
summary_due number count statuses.KeepFault summary h = absurd h
summary_due number count statuses.Memory summary h = absurd h
summary_due number count statuses.Saved summary h = absurd h
summary_due number count statuses.CheckRefused summary h = absurd h
summary_due number count statuses.Settle summary h = absurd h

-- ---- where nothing failed

abbrev listing_status : Result (List ℕ) FileCause → Status
listing_status due = status_of (listing_outcome due)

abbrev payment_status : payment_files.Outcome → Status
payment_status due = status_of (payment_outcome due)

abbrev load_status : load_words.Outcome → Status
load_status due = status_of (load_outcome due)

-- a status is that of an outcome, or memory was short
abbrev IsOf : Status → Outcome → Type 0
IsOf status due = (status ≡ status_of due) ⊎ (status ≡ statuses.Memory)

listing_complete : (told_files told told_jobs : Type 0) (s : Sources) (shelf shelf' : ShelfView) (sink sink' : SinkView) (keeper keeper' : KeeperView) (status : Status) → listings.Ends told_files told s shelf shelf' sink sink' status → told_files → NoneFailed (Coins s) shelf shelf' sink sink' keeper keeper'
    → IsOf status (listing_outcome (listing_files.outcome_of shelf.files s))
listing_complete told_files told told_jobs s shelf shelf' sink sink' keeper keeper' statuses.Done h t none = inl (sym (ap listing_status (h.1.comes_to t)))
listing_complete told_files told told_jobs s shelf shelf' sink sink' keeper keeper' statuses.NoSelection h t none = absurd h
listing_complete told_files told told_jobs s shelf shelf' sink sink' keeper keeper' statuses.Unfinished h t none = absurd h
listing_complete told_files told told_jobs s shelf shelf' sink sink' keeper keeper' statuses.Usage h t none = absurd h
listing_complete told_files told told_jobs s shelf shelf' sink sink' keeper keeper' statuses.Input h t none = inl (sym (ap listing_status (h.2 t).0 ∙ h.1))
listing_complete told_files told told_jobs s shelf shelf' sink sink' keeper keeper' statuses.Limit h t none = inl (sym (ap listing_status (h.2 t).0 ∙ h.1))
listing_complete told_files told told_jobs s shelf shelf' sink sink' keeper keeper' statuses.ReadFault h t none = absurd (none.reads h.0 h.1)
listing_complete told_files told told_jobs s shelf shelf' sink sink' keeper keeper' statuses.WriteFault h t none = absurd (none.sinks h.1)
listing_complete told_files told told_jobs s shelf shelf' sink sink' keeper keeper' statuses.KeepFault h t none = absurd h
listing_complete told_files told told_jobs s shelf shelf' sink sink' keeper keeper' statuses.Memory h t none = inr refl
listing_complete told_files told told_jobs s shelf shelf' sink sink' keeper keeper' statuses.Saved h t none = absurd h
listing_complete told_files told told_jobs s shelf shelf' sink sink' keeper keeper' statuses.CheckRefused h t none = absurd h
listing_complete told_files told told_jobs s shelf shelf' sink sink' keeper keeper' statuses.Settle h t none = absurd h

payment_complete : (told_files told told_jobs : Type 0) (s : Sources) (p : Payment) (job : Option (List ℕ)) (shelf shelf' : ShelfView) (sink sink' : SinkView) (keeper keeper' : KeeperView) (status : Status) → payments.Ends told_files told told_jobs s p job shelf shelf' sink sink' keeper keeper' status → told_files → NoneFailed (Fund s p job) shelf shelf' sink sink' keeper keeper'
    → IsOf status (payment_outcome (payment_files.outcome_of shelf.files s p))
payment_complete told_files told told_jobs s p job shelf shelf' sink sink' keeper keeper' statuses.Done h t none = inl (sym (ap payment_status (h.2.comes_to t)))
payment_complete told_files told told_jobs s p job shelf shelf' sink sink' keeper keeper' statuses.NoSelection h t none = inl (sym (ap payment_status (h.2.comes_to t)))
payment_complete told_files told told_jobs s p job shelf shelf' sink sink' keeper keeper' statuses.Unfinished h t none = inl (sym (ap payment_status (h.1.comes_to t)))
payment_complete told_files told told_jobs s p job shelf shelf' sink sink' keeper keeper' statuses.Usage h t none = absurd h
payment_complete told_files told told_jobs s p job shelf shelf' sink sink' keeper keeper' statuses.Input h t none = inl (sym (ap payment_status (h.2 t).0 ∙ h.1))
payment_complete told_files told told_jobs s p job shelf shelf' sink sink' keeper keeper' statuses.Limit h t none = inl (sym (ap payment_status (h.2 t).0 ∙ h.1))
payment_complete told_files told told_jobs s p job shelf shelf' sink sink' keeper keeper' statuses.ReadFault h t none = absurd (none.reads h.0 h.1)
payment_complete told_files told told_jobs s p job shelf shelf' sink sink' keeper keeper' statuses.WriteFault h t none = elim h.3 as (λ x. IsOf statuses.WriteFault (payment_outcome (payment_files.outcome_of shelf.files s p))) [ inl w ↦ absurd (none.log (log_lost p h.1 shelf shelf' w.0)) | inr w ↦ absurd (none.sinks w.0) ]
payment_complete told_files told told_jobs s p job shelf shelf' sink sink' keeper keeper' statuses.KeepFault h t none = absurd (none.keepers h.3)
payment_complete told_files told told_jobs s p job shelf shelf' sink sink' keeper keeper' statuses.Memory h t none = inr refl
payment_complete told_files told told_jobs s p job shelf shelf' sink sink' keeper keeper' statuses.Saved h t none = absurd h
payment_complete told_files told told_jobs s p job shelf shelf' sink sink' keeper keeper' statuses.CheckRefused h t none = absurd h
payment_complete told_files told told_jobs s p job shelf shelf' sink sink' keeper keeper' statuses.Settle h t none = absurd h

-- the status of what a job comes to
same_payment : (due : payment_files.Outcome) → payment_results.status_of due ≡ status_of (payment_outcome due)
same_payment (payment_files.Refused cause) = refl
same_payment (payment_files.Unfinished report) = refl
same_payment (payment_files.NoSelection report log) = refl
same_payment (payment_files.Funded report log) = refl

same_status : (due : resume_files.Outcome) → resume_files.status_of due ≡ status_of (resume_outcome due)
same_status (resume_files.Refused cause) = refl
same_status (resume_files.NotKept fault) = refl
same_status (resume_files.Gone due) = same_payment due

as_all : {status : Status} (due : resume_files.Outcome) → (status ≡ resume_files.status_of due) ⊎ (status ≡ statuses.Memory) → (status ≡ status_of (resume_outcome due)) ⊎ (status ≡ statuses.Memory)
as_all due (inl e) = inl (e ∙ same_status due)
as_all due (inr e) = inr e

-- the status of a refusal is that of its cause
collision_status : (number count : ℕ) (cause : Cause) → load_words.IsCollision number count cause → status_of_cause cause ≡ statuses.Input
collision_status number count cause h = ap status_of_cause h.cause_is

load_complete : (told_files told told_jobs : Type 0) (number count : ℕ) (shelf shelf' : ShelfView) (sink sink' : SinkView) (keeper keeper' : KeeperView) (status : Status) → loads.Ends told number count sink sink' status → NoneFailed (Work number count) shelf shelf' sink sink' keeper keeper'
    → IsOf status (load_outcome (load_words.outcome_of number count))
load_complete told_files told told_jobs number count shelf shelf' sink sink' keeper keeper' statuses.Done h none = inl (sym (ap load_status (summary_due number count statuses.Done h.0 h.1)))
load_complete told_files told told_jobs number count shelf shelf' sink sink' keeper keeper' statuses.NoSelection h none = inl (sym (ap load_status (summary_due number count statuses.NoSelection h.0 h.1)))
load_complete told_files told told_jobs number count shelf shelf' sink sink' keeper keeper' statuses.Unfinished h none = inl (sym (ap load_status (summary_due number count statuses.Unfinished h.0 h.1)))
load_complete told_files told told_jobs number count shelf shelf' sink sink' keeper keeper' statuses.Usage h none = absurd h
load_complete told_files told told_jobs number count shelf shelf' sink sink' keeper keeper' statuses.Input h none = inl (sym (ap load_status h.2 ∙ collision_status number count (cause_of h.0) h.1))
load_complete told_files told told_jobs number count shelf shelf' sink sink' keeper keeper' statuses.Limit h none = absurd h
load_complete told_files told told_jobs number count shelf shelf' sink sink' keeper keeper' statuses.ReadFault h none = absurd h
load_complete told_files told told_jobs number count shelf shelf' sink sink' keeper keeper' statuses.WriteFault h none = absurd (none.sinks h.3)
load_complete told_files told told_jobs number count shelf shelf' sink sink' keeper keeper' statuses.KeepFault h none = absurd h
load_complete told_files told told_jobs number count shelf shelf' sink sink' keeper keeper' statuses.Memory h none = inr refl
load_complete told_files told told_jobs number count shelf shelf' sink sink' keeper keeper' statuses.Saved h none = absurd h
load_complete told_files told told_jobs number count shelf shelf' sink sink' keeper keeper' statuses.CheckRefused h none = absurd h
load_complete told_files told told_jobs number count shelf shelf' sink sink' keeper keeper' statuses.Settle h none = absurd h

-- what the files of a report come to is one, so its status is
check_status : (files : List ℕ → List ℕ) (s : Sources) (p : Payment) (report : List ℕ) (found due : check_files.Outcome) (status : Status) → check_files.ComesTo files s p report found → check_files.ComesTo files s p report due → status_of (check_outcome found) ≡ status → status ≡ status_of (check_outcome due)
check_status files s p report found due status a b is = sym is ∙ ap (λ (o : check_files.Outcome). status_of (check_outcome o)) (one_outcome files s p report found due a b)

check_complete : (told_files told told_jobs : Type 0) (s : Sources) (p : Payment) (report : List ℕ) (shelf shelf' : ShelfView) (sink sink' : SinkView) (keeper keeper' : KeeperView) (status : Status) → checks.Ends told_files told s p report shelf shelf' sink sink' status → told_files → NoneFailed (Check s p report) shelf shelf' sink sink' keeper keeper' → (due : check_files.Outcome) → check_files.ComesTo shelf.files s p report due
    → IsOf status (check_outcome due)
check_complete told_files told told_jobs s p report shelf shelf' sink sink' keeper keeper' statuses.Done h t none due d = inl (check_status shelf.files s p report (check_files.Accepted h.1.found) due statuses.Done (h.1.comes_to t) d refl)
check_complete told_files told told_jobs s p report shelf shelf' sink sink' keeper keeper' statuses.NoSelection h t none due d = absurd h
check_complete told_files told told_jobs s p report shelf shelf' sink sink' keeper keeper' statuses.Unfinished h t none due d = absurd h
check_complete told_files told told_jobs s p report shelf shelf' sink sink' keeper keeper' statuses.Usage h t none due d = absurd h
check_complete told_files told told_jobs s p report shelf shelf' sink sink' keeper keeper' statuses.Input h t none due d = inl (check_status shelf.files s p report (check_files.Refused (cause_of h.0)) due statuses.Input (h.2 t) d h.1)
check_complete told_files told told_jobs s p report shelf shelf' sink sink' keeper keeper' statuses.Limit (inl h) t none due d = inl (check_status shelf.files s p report (check_files.Refused (cause_of h.0)) due statuses.Limit (h.2 t) d h.1)
check_complete told_files told told_jobs s p report shelf shelf' sink sink' keeper keeper' statuses.Limit (inr h) t none due d = inl (check_status shelf.files s p report (check_files.TooLong h.0) due statuses.Limit (h.1 t) d refl)
check_complete told_files told told_jobs s p report shelf shelf' sink sink' keeper keeper' statuses.ReadFault (inl h) t none due d = absurd (none.reads.payment h.0 h.1)
check_complete told_files told told_jobs s p report shelf shelf' sink sink' keeper keeper' statuses.ReadFault (inr h) t none due d = absurd (none.reads.evidence h.0 h.1)
check_complete told_files told told_jobs s p report shelf shelf' sink sink' keeper keeper' statuses.WriteFault h t none due d = absurd (none.sinks h.2)
check_complete told_files told told_jobs s p report shelf shelf' sink sink' keeper keeper' statuses.KeepFault h t none due d = absurd h
check_complete told_files told told_jobs s p report shelf shelf' sink sink' keeper keeper' statuses.Memory h t none due d = inr refl
check_complete told_files told told_jobs s p report shelf shelf' sink sink' keeper keeper' statuses.Saved h t none due d = absurd h
check_complete told_files told told_jobs s p report shelf shelf' sink sink' keeper keeper' statuses.CheckRefused h t none due d = inl (check_status shelf.files s p report (check_files.Broken h.0) due statuses.CheckRefused (h.2 t) d refl)
check_complete told_files told told_jobs s p report shelf shelf' sink sink' keeper keeper' statuses.Settle h t none due d = absurd h

-- the status of what a desk comes to
same_desk : (due : desk_files.Outcome) → desk_files.status_of due ≡ status_of (desk_outcome due)
same_desk (desk_files.Refused cause) = refl
same_desk desk_files.TooLong = refl
same_desk desk_files.Halted = refl
same_desk desk_files.Replied = refl

of_desk : {status : Status} (due : desk_files.Outcome) → (status ≡ desk_files.status_of due) ⊎ (status ≡ statuses.Memory) → IsOf status (desk_outcome due)
of_desk due (inl e) = inl (e ∙ same_desk due)
of_desk due (inr e) = inr e

desk_refusal : (due : desk_files.Outcome) → IsRefusal (desk_outcome due) → desk_files.IsRefusal due
desk_refusal (desk_files.Refused cause) refusal = tt
desk_refusal desk_files.TooLong refusal = refusal
desk_refusal desk_files.Halted refusal = refusal
desk_refusal desk_files.Replied refusal = refusal

-- it is the status of what the command comes to, or out of memory
pub ends_complete : (told_files told told_jobs : Type 0) (c : Command) (shelf shelf' : ShelfView) (sink sink' : SinkView) (keeper keeper' : KeeperView) (status : Status) → Ends told_files told told_jobs c shelf shelf' sink sink' keeper keeper' status → IsTold told_files told_jobs c → NoneFailed c shelf shelf' sink sink' keeper keeper' → (due : Outcome) → ComesTo shelf.files keeper.jobs c due
    → (status ≡ status_of due) ⊎ (status ≡ statuses.Memory)
ends_complete told_files told told_jobs (Coins s) shelf shelf' sink sink' keeper keeper' status h t none due is =
    subst (λ (x : Outcome). IsOf status x) (sym is) (listing_complete told_files told told_jobs s shelf shelf' sink sink' keeper keeper' status (listing_back told_files told told_jobs s shelf shelf' sink sink' keeper keeper' status h) t none)
ends_complete told_files told told_jobs (Fund s p job) shelf shelf' sink sink' keeper keeper' status h t none due is =
    subst (λ (x : Outcome). IsOf status x) (sym is) (payment_complete told_files told told_jobs s p job shelf shelf' sink sink' keeper keeper' status (payment_back told_files told told_jobs s p job shelf shelf' sink sink' keeper keeper' status h) t none)
ends_complete told_files told told_jobs (Resume s p job) shelf shelf' sink sink' keeper keeper' status h t none due is =
    subst (λ (x : Outcome). IsOf status x) (sym is.2) (as_all is.0 (resume_complete told_files told told_jobs s p job shelf shelf' sink sink' keeper keeper' status (resume_back told_files told told_jobs s p job shelf shelf' sink sink' keeper keeper' status h) t.0 t.1 (record { reads = none.reads; log = none.log; sinks = none.sinks; keepers = none.keepers }) is.0 is.1))
ends_complete told_files told told_jobs (Check s p report) shelf shelf' sink sink' keeper keeper' status h t none due is =
    subst (λ (x : Outcome). IsOf status x) (sym is.2) (check_complete told_files told told_jobs s p report shelf shelf' sink sink' keeper keeper' status (check_back told_files told told_jobs s p report shelf shelf' sink sink' keeper keeper' status h) t none is.0 is.1)
ends_complete told_files told told_jobs (Work number count) shelf shelf' sink sink' keeper keeper' status h t none due is =
    subst (λ (x : Outcome). IsOf status x) (sym is) (load_complete told_files told told_jobs number count shelf shelf' sink sink' keeper keeper' status (load_back told_files told told_jobs number count shelf shelf' sink sink' keeper keeper' status h) none)
ends_complete told_files told told_jobs (Desk s script) shelf shelf' sink sink' keeper keeper' status h t none due is =
    subst (λ (x : Outcome). IsOf status x) (sym is)
    (of_desk (desk_files.outcome_of shelf.files s script)
    (desk_laws.ends_complete told_files told s script shelf shelf' sink sink' t (record { reads = none.reads; sinks = none.sinks }) status (desk_back told_files told told_jobs s script shelf shelf' sink sink' keeper keeper' status h)))
ends_complete told_files told told_jobs (Further c) shelf shelf' sink sink' keeper keeper' status h t none due is =
    subst (λ (x : Outcome). IsOf status x) (sym is.2)
    (further_laws.ends_complete told_files told c shelf shelf' sink sink' status (further_back told_files told told_jobs c shelf shelf' sink sink' keeper keeper' status h) t none.reads none.log none.sinks is.0 is.1)

-- ---- where the files are refused and none wasn't read

listing_refused : (told_files told told_jobs : Type 0) (s : Sources) (shelf shelf' : ShelfView) (sink sink' : SinkView) (keeper keeper' : KeeperView) (status : Status) → listings.Ends told_files told s shelf shelf' sink sink' status → told_files → NoneUnread (Coins s) shelf shelf' → (cause : Cause) → listing_outcome (listing_files.outcome_of shelf.files s) ≡ Refused cause
    → (status ≡ status_of_cause cause) ⊎ (status ≡ statuses.Memory)
listing_refused told_files told told_jobs s shelf shelf' sink sink' keeper keeper' statuses.Done h t none cause is = absurd (listing_not (listing_files.outcome_of shelf.files s) cause is (subst listings.IsReported (sym (h.1.comes_to t)) tt))
listing_refused told_files told told_jobs s shelf shelf' sink sink' keeper keeper' statuses.NoSelection h t none cause is = absurd h
listing_refused told_files told told_jobs s shelf shelf' sink sink' keeper keeper' statuses.Unfinished h t none cause is = absurd h
listing_refused told_files told told_jobs s shelf shelf' sink sink' keeper keeper' statuses.Usage h t none cause is = absurd h
listing_refused told_files told told_jobs s shelf shelf' sink sink' keeper keeper' statuses.Input h t none cause is = inl (sym (ap status_of (sym is) ∙ ap listing_status (h.2 t).0 ∙ h.1))
listing_refused told_files told told_jobs s shelf shelf' sink sink' keeper keeper' statuses.Limit h t none cause is = inl (sym (ap status_of (sym is) ∙ ap listing_status (h.2 t).0 ∙ h.1))
listing_refused told_files told told_jobs s shelf shelf' sink sink' keeper keeper' statuses.ReadFault h t none cause is = absurd (none h.0 h.1)
listing_refused told_files told told_jobs s shelf shelf' sink sink' keeper keeper' statuses.WriteFault h t none cause is = absurd (listing_not (listing_files.outcome_of shelf.files s) cause is (h.0 t))
listing_refused told_files told told_jobs s shelf shelf' sink sink' keeper keeper' statuses.KeepFault h t none cause is = absurd h
listing_refused told_files told told_jobs s shelf shelf' sink sink' keeper keeper' statuses.Memory h t none cause is = inr refl
listing_refused told_files told told_jobs s shelf shelf' sink sink' keeper keeper' statuses.Saved h t none cause is = absurd h
listing_refused told_files told told_jobs s shelf shelf' sink sink' keeper keeper' statuses.CheckRefused h t none cause is = absurd h
listing_refused told_files told told_jobs s shelf shelf' sink sink' keeper keeper' statuses.Settle h t none cause is = absurd h

payment_refused : (told_files told told_jobs : Type 0) (s : Sources) (p : Payment) (job : Option (List ℕ)) (shelf shelf' : ShelfView) (sink sink' : SinkView) (keeper keeper' : KeeperView) (status : Status) → payments.Ends told_files told told_jobs s p job shelf shelf' sink sink' keeper keeper' status → told_files → NoneUnread (Fund s p job) shelf shelf' → (cause : Cause) → payment_outcome (payment_files.outcome_of shelf.files s p) ≡ Refused cause
    → (status ≡ status_of_cause cause) ⊎ (status ≡ statuses.Memory)
payment_refused told_files told told_jobs s p job shelf shelf' sink sink' keeper keeper' statuses.Done h t none cause is = absurd (report_due told_files shelf.files s p h.0 (Some h.1) (inl h.2) t cause (payment_not (payment_files.outcome_of shelf.files s p) cause is))
payment_refused told_files told told_jobs s p job shelf shelf' sink sink' keeper keeper' statuses.NoSelection h t none cause is = absurd (report_due told_files shelf.files s p h.0 (Some h.1) (inr h.2) t cause (payment_not (payment_files.outcome_of shelf.files s p) cause is))
payment_refused told_files told told_jobs s p job shelf shelf' sink sink' keeper keeper' statuses.Unfinished h t none cause is = absurd (report_due told_files shelf.files s p h.0 None h.1 t cause (payment_not (payment_files.outcome_of shelf.files s p) cause is))
payment_refused told_files told told_jobs s p job shelf shelf' sink sink' keeper keeper' statuses.Usage h t none cause is = absurd h
payment_refused told_files told told_jobs s p job shelf shelf' sink sink' keeper keeper' statuses.Input h t none cause is = inl (sym (ap status_of (sym is) ∙ ap payment_status (h.2 t).0 ∙ h.1))
payment_refused told_files told told_jobs s p job shelf shelf' sink sink' keeper keeper' statuses.Limit h t none cause is = inl (sym (ap status_of (sym is) ∙ ap payment_status (h.2 t).0 ∙ h.1))
payment_refused told_files told told_jobs s p job shelf shelf' sink sink' keeper keeper' statuses.ReadFault h t none cause is = absurd (none h.0 h.1)
payment_refused told_files told told_jobs s p job shelf shelf' sink sink' keeper keeper' statuses.WriteFault h t none cause is = absurd (report_due told_files shelf.files s p h.0 h.1 h.2 t cause (payment_not (payment_files.outcome_of shelf.files s p) cause is))
payment_refused told_files told told_jobs s p job shelf shelf' sink sink' keeper keeper' statuses.KeepFault h t none cause is = absurd (report_due told_files shelf.files s p h.0 None h.1 t cause (payment_not (payment_files.outcome_of shelf.files s p) cause is))
payment_refused told_files told told_jobs s p job shelf shelf' sink sink' keeper keeper' statuses.Memory h t none cause is = inr refl
payment_refused told_files told told_jobs s p job shelf shelf' sink sink' keeper keeper' statuses.Saved h t none cause is = absurd h
payment_refused told_files told told_jobs s p job shelf shelf' sink sink' keeper keeper' statuses.CheckRefused h t none cause is = absurd h
payment_refused told_files told told_jobs s p job shelf shelf' sink sink' keeper keeper' statuses.Settle h t none cause is = absurd h

load_refused : (told_files told told_jobs : Type 0) (number count : ℕ) (shelf shelf' : ShelfView) (sink sink' : SinkView) (keeper keeper' : KeeperView) (status : Status) → loads.Ends told number count sink sink' status → (cause : Cause) → load_outcome (load_words.outcome_of number count) ≡ Refused cause
    → (status ≡ status_of_cause cause) ⊎ (status ≡ statuses.Memory)
load_refused told_files told told_jobs number count shelf shelf' sink sink' keeper keeper' statuses.Done h cause is = absurd (load_not (load_words.outcome_of number count) cause statuses.Done h.0 is (summary_due number count statuses.Done h.0 h.1))
load_refused told_files told told_jobs number count shelf shelf' sink sink' keeper keeper' statuses.NoSelection h cause is = absurd (load_not (load_words.outcome_of number count) cause statuses.NoSelection h.0 is (summary_due number count statuses.NoSelection h.0 h.1))
load_refused told_files told told_jobs number count shelf shelf' sink sink' keeper keeper' statuses.Unfinished h cause is = absurd (load_not (load_words.outcome_of number count) cause statuses.Unfinished h.0 is (summary_due number count statuses.Unfinished h.0 h.1))
load_refused told_files told told_jobs number count shelf shelf' sink sink' keeper keeper' statuses.Usage h cause is = absurd h
load_refused told_files told told_jobs number count shelf shelf' sink sink' keeper keeper' statuses.Input h cause is = inl (sym (ap status_of (sym is) ∙ ap load_status h.2 ∙ collision_status number count (cause_of h.0) h.1))
load_refused told_files told told_jobs number count shelf shelf' sink sink' keeper keeper' statuses.Limit h cause is = absurd h
load_refused told_files told told_jobs number count shelf shelf' sink sink' keeper keeper' statuses.ReadFault h cause is = absurd h
load_refused told_files told told_jobs number count shelf shelf' sink sink' keeper keeper' statuses.WriteFault h cause is = absurd (load_not (load_words.outcome_of number count) cause h.0 h.1 is (summary_due number count h.0 h.1 h.2))
load_refused told_files told told_jobs number count shelf shelf' sink sink' keeper keeper' statuses.KeepFault h cause is = absurd h
load_refused told_files told told_jobs number count shelf shelf' sink sink' keeper keeper' statuses.Memory h cause is = inr refl
load_refused told_files told told_jobs number count shelf shelf' sink sink' keeper keeper' statuses.Saved h cause is = absurd h
load_refused told_files told told_jobs number count shelf shelf' sink sink' keeper keeper' statuses.CheckRefused h cause is = absurd h
load_refused told_files told told_jobs number count shelf shelf' sink sink' keeper keeper' statuses.Settle h cause is = absurd h

check_refused : (told_files told told_jobs : Type 0) (s : Sources) (p : Payment) (report : List ℕ) (shelf shelf' : ShelfView) (sink sink' : SinkView) (keeper keeper' : KeeperView) (status : Status) → checks.Ends told_files told s p report shelf shelf' sink sink' status → told_files → NoneUnread (Check s p report) shelf shelf' → (due : check_files.Outcome) → check_files.ComesTo shelf.files s p report due → (check_files.IsAnAcceptance due → ⊥)
    → IsOf status (check_outcome due)
check_refused told_files told told_jobs s p report shelf shelf' sink sink' keeper keeper' statuses.Done h t none due d unaccepted = let e = one_outcome shelf.files s p report (check_files.Accepted h.1.found) due (h.1.comes_to t) d in absurd (unaccepted (subst check_files.IsAnAcceptance e tt))
check_refused told_files told told_jobs s p report shelf shelf' sink sink' keeper keeper' statuses.NoSelection h t none due d unaccepted = absurd h
check_refused told_files told told_jobs s p report shelf shelf' sink sink' keeper keeper' statuses.Unfinished h t none due d unaccepted = absurd h
check_refused told_files told told_jobs s p report shelf shelf' sink sink' keeper keeper' statuses.Usage h t none due d unaccepted = absurd h
check_refused told_files told told_jobs s p report shelf shelf' sink sink' keeper keeper' statuses.Input h t none due d unaccepted = inl (check_status shelf.files s p report (check_files.Refused (cause_of h.0)) due statuses.Input (h.2 t) d h.1)
check_refused told_files told told_jobs s p report shelf shelf' sink sink' keeper keeper' statuses.Limit (inl h) t none due d unaccepted = inl (check_status shelf.files s p report (check_files.Refused (cause_of h.0)) due statuses.Limit (h.2 t) d h.1)
check_refused told_files told told_jobs s p report shelf shelf' sink sink' keeper keeper' statuses.Limit (inr h) t none due d unaccepted = inl (check_status shelf.files s p report (check_files.TooLong h.0) due statuses.Limit (h.1 t) d refl)
check_refused told_files told told_jobs s p report shelf shelf' sink sink' keeper keeper' statuses.ReadFault (inl h) t none due d unaccepted = absurd (none.payment h.0 h.1)
check_refused told_files told told_jobs s p report shelf shelf' sink sink' keeper keeper' statuses.ReadFault (inr h) t none due d unaccepted = absurd (none.evidence h.0 h.1)
check_refused told_files told told_jobs s p report shelf shelf' sink sink' keeper keeper' statuses.WriteFault h t none due d unaccepted = let e = one_outcome shelf.files s p report (check_files.Accepted h.1.found) due (h.1.comes_to t) d in absurd (unaccepted (subst check_files.IsAnAcceptance e tt))
check_refused told_files told told_jobs s p report shelf shelf' sink sink' keeper keeper' statuses.KeepFault h t none due d unaccepted = absurd h
check_refused told_files told told_jobs s p report shelf shelf' sink sink' keeper keeper' statuses.Memory h t none due d unaccepted = inr refl
check_refused told_files told told_jobs s p report shelf shelf' sink sink' keeper keeper' statuses.Saved h t none due d unaccepted = absurd h
check_refused told_files told told_jobs s p report shelf shelf' sink sink' keeper keeper' statuses.CheckRefused h t none due d unaccepted = inl (check_status shelf.files s p report (check_files.Broken h.0) due statuses.CheckRefused (h.2 t) d refl)
check_refused told_files told told_jobs s p report shelf shelf' sink sink' keeper keeper' statuses.Settle h t none due d unaccepted = absurd h

-- what isn't accepted is refused
not_accepted : (due : check_files.Outcome) → IsRefusal (check_outcome due) → check_files.IsAnAcceptance due → ⊥
not_accepted (check_files.Refused cause) refusal accepted = accepted
not_accepted (check_files.TooLong file) refusal accepted = accepted
not_accepted (check_files.Broken fault) refusal accepted = accepted
not_accepted (check_files.Accepted report) refusal accepted = refusal

-- a refusal that a command comes to is of this cause
listing_any : (status : Status) (due found : Result (List ℕ) FileCause) → due ≡ found → IsRefusal (listing_outcome found) → ((cause : Cause) → listing_outcome due ≡ Refused cause → IsOf status (Refused cause)) → IsOf status (listing_outcome found)
listing_any status due (Ok listing) e refusal by = absurd refusal
listing_any status due (Err cause) e refusal by = by (Files cause) (ap listing_outcome e)

payment_any : (status : Status) (due found : payment_files.Outcome) → due ≡ found → IsRefusal (payment_outcome found) → ((cause : Cause) → payment_outcome due ≡ Refused cause → IsOf status (Refused cause)) → IsOf status (payment_outcome found)
payment_any status due (payment_files.Refused cause) e refusal by = by cause (ap payment_outcome e)
payment_any status due (payment_files.Unfinished report) e refusal by = absurd refusal
payment_any status due (payment_files.NoSelection report log) e refusal by = absurd refusal
payment_any status due (payment_files.Funded report log) e refusal by = absurd refusal

load_any : (status : Status) (due found : load_words.Outcome) → due ≡ found → IsRefusal (load_outcome found) → ((cause : Cause) → load_outcome due ≡ Refused cause → IsOf status (Refused cause)) → IsOf status (load_outcome found)
load_any status due (load_words.Refused cause) e refusal by = by cause (ap load_outcome e)
load_any status due (load_words.Summed own summary) e refusal by = absurd refusal

-- it is the status of the refusal, or out of memory
pub ends_refused : (told_files told told_jobs : Type 0) (c : Command) (shelf shelf' : ShelfView) (sink sink' : SinkView) (keeper keeper' : KeeperView) (status : Status) → Ends told_files told told_jobs c shelf shelf' sink sink' keeper keeper' status → told_files → NoneUnread c shelf shelf' → (due : Outcome) → IsRefusal due → NoneUnkept told_jobs due keeper keeper'
    → ComesTo shelf.files keeper.jobs c due
    → (status ≡ status_of due) ⊎ (status ≡ statuses.Memory)
ends_refused told_files told told_jobs (Coins s) shelf shelf' sink sink' keeper keeper' status h t none due refusal keeps is =
    subst (λ (x : Outcome). IsOf status x) (sym is)
    (listing_any status (listing_files.outcome_of shelf.files s) (listing_files.outcome_of shelf.files s) refl (subst IsRefusal is refusal)
    (λ cause e. listing_refused told_files told told_jobs s shelf shelf' sink sink' keeper keeper' status (listing_back told_files told told_jobs s shelf shelf' sink sink' keeper keeper' status h) t none cause e))
ends_refused told_files told told_jobs (Fund s p job) shelf shelf' sink sink' keeper keeper' status h t none due refusal keeps is =
    subst (λ (x : Outcome). IsOf status x) (sym is)
    (payment_any status (payment_files.outcome_of shelf.files s p) (payment_files.outcome_of shelf.files s p) refl (subst IsRefusal is refusal)
    (λ cause e. payment_refused told_files told told_jobs s p job shelf shelf' sink sink' keeper keeper' status (payment_back told_files told told_jobs s p job shelf shelf' sink sink' keeper keeper' status h) t none cause e))
ends_refused told_files told told_jobs (Resume s p job) shelf shelf' sink sink' keeper keeper' status h t none due refusal keeps is =
    subst (λ (x : Outcome). IsOf status x) (sym is.2) (by is.0 is.1 (subst IsRefusal is.2 refusal) (subst (λ (x : Outcome). NoneUnkept told_jobs x keeper keeper') is.2 keeps))
  where
    of_gone : (own : payment_files.Outcome) → resume_files.IsGone shelf.files s p (keeper.jobs job) own → IsRefusal (payment_outcome own) → IsOf status (payment_outcome own)
    of_gone (payment_files.Refused cause) d r = absurd (gone_not shelf.files s p (keeper.jobs job) (payment_files.Refused cause) d cause refl)
    of_gone (payment_files.Unfinished report) d r = absurd r
    of_gone (payment_files.NoSelection report log) d r = absurd r
    of_gone (payment_files.Funded report log) d r = absurd r

    by : (own : resume_files.Outcome) → resume_files.ComesTo shelf.files s p (keeper.jobs job) own → IsRefusal (resume_outcome own) → NoneUnkept told_jobs (resume_outcome own) keeper keeper' → IsOf status (resume_outcome own)
    by (resume_files.Refused cause) d r k = resume_refused told_files told told_jobs s p job shelf shelf' sink sink' keeper keeper' status (resume_back told_files told told_jobs s p job shelf shelf' sink sink' keeper keeper' status h) t none cause d
    by (resume_files.NotKept fault) d r k = job_refused told_files told told_jobs s p job shelf shelf' sink sink' keeper keeper' status (resume_back told_files told told_jobs s p job shelf shelf' sink sink' keeper keeper' status h) t k.0 none k.1 fault d
    by (resume_files.Gone own) d r k = of_gone own d r
ends_refused told_files told told_jobs (Check s p report) shelf shelf' sink sink' keeper keeper' status h t none due refusal keeps is =
    subst (λ (x : Outcome). IsOf status x) (sym is.2)
    (check_refused told_files told told_jobs s p report shelf shelf' sink sink' keeper keeper' status (check_back told_files told told_jobs s p report shelf shelf' sink sink' keeper keeper' status h) t none is.0 is.1 (not_accepted is.0 (subst IsRefusal is.2 refusal)))
ends_refused told_files told told_jobs (Work number count) shelf shelf' sink sink' keeper keeper' status h t none due refusal keeps is =
    subst (λ (x : Outcome). IsOf status x) (sym is)
    (load_any status (load_words.outcome_of number count) (load_words.outcome_of number count) refl (subst IsRefusal is refusal)
    (λ cause e. load_refused told_files told told_jobs number count shelf shelf' sink sink' keeper keeper' status (load_back told_files told told_jobs number count shelf shelf' sink sink' keeper keeper' status h) cause e))
ends_refused told_files told told_jobs (Desk s script) shelf shelf' sink sink' keeper keeper' status h t none due refusal keeps is =
    subst (λ (x : Outcome). IsOf status x) (sym is)
    (of_desk (desk_files.outcome_of shelf.files s script)
    (desk_laws.ends_refused told_files told s script shelf shelf' sink sink' t none (desk_refusal (desk_files.outcome_of shelf.files s script) (subst IsRefusal is refusal)) status (desk_back told_files told told_jobs s script shelf shelf' sink sink' keeper keeper' status h)))
ends_refused told_files told told_jobs (Further c) shelf shelf' sink sink' keeper keeper' status h t none due refusal keeps is =
    subst (λ (x : Outcome). IsOf status x) (sym is.2)
    (further_laws.ends_refused told_files told c shelf shelf' sink sink' status (further_back told_files told told_jobs c shelf shelf' sink sink' keeper keeper' status h) t none is.0 (subst IsRefusal is.2 refusal) is.1)

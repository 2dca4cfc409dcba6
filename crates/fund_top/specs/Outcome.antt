-- What the files of a command, and the jobs of a keeper, come to; and what a refusal of the files means.
use Rattle.std.specs.Prelude.{ℕ, ◌≡◌, List, Option, Result, Ok, Err}
use Rattle.fund_files.specs.Cause.{FileCause}
use Rattle.fund_files.specs.Refusals.{IsChainMeant}
use Rattle.fund_outside.specs.Kept.{KeptJob}
use Rattle.fund_report.specs.declared.report.Report.{Report}
use Rattle.report_check.specs.declared.fault.CheckFault.{CheckFault}
use Rattle.kept_job.specs.declared.fault.KeptFault.{KeptFault}
use Rattle.command_check.specs.Outcome as checks
use Rattle.command_check.specs.declared.stop.CheckedFile.{CheckedFile}
use Rattle.command_coins.specs.Outcome as listings
use Rattle.command_desk.specs.Outcome as desks
use Rattle.command_inputs.specs.Cause.{Cause, Files, Bump, Plan}
use Rattle.command_inputs.specs.Outcome as payments
use Rattle.command_inputs.specs.Meant as payment_causes
use Rattle.command_resume.specs.Outcome as resumes
use Rattle.command_work.specs.Outcome as loads
use Rattle.further_commands.specs.Outcome as further
use Rattle.command_end.specs.declared.status.Status.{Status}
use Rattle.fund_top.specs.Words.{Command, Coins, Fund, Resume, Check, Work, Desk, Further}

-- a refusal of the files, or of a kept job; the listing; a report with which the tries are used up; a report and a log, where
-- nothing pays or of a payment; a file that is judged and too long, the first rule that a report breaks, or a report that is
-- accepted; the summary of a run with this status; what a desk comes to whose wallet and blocks are in order; or what one of the
-- commands beside these comes to
pub data Outcome : Type 0 where
  Refused : Cause → Outcome
  NotKept : KeptFault → Outcome
  Listed : (listing : List ℕ) → Outcome
  Unfinished : (report : List ℕ) → Outcome
  NoSelection : (report log : List ℕ) → Outcome
  Funded : (report log : List ℕ) → Outcome
  TooLong : CheckedFile → Outcome
  Broken : CheckFault → Outcome
  Accepted : Report → Outcome
  Summed : (status : Status) → (summary : List ℕ) → Outcome
  Ran : desks.Outcome → Outcome
  Other : further.Outcome → Outcome

-- that of a listing
abbrev pub listing_outcome : Result (List ℕ) FileCause → Outcome
listing_outcome (Err cause) = Refused (Files cause)
listing_outcome (Ok listing) = Listed listing

-- that of a payment
abbrev pub payment_outcome : payments.Outcome → Outcome
payment_outcome (payments.Refused cause) = Refused cause
payment_outcome (payments.Unfinished report) = Unfinished report
payment_outcome (payments.NoSelection report log) = NoSelection report log
payment_outcome (payments.Funded report log) = Funded report log

-- that of a report that is judged
abbrev pub check_outcome : checks.Outcome → Outcome
check_outcome (checks.Refused cause) = Refused cause
check_outcome (checks.TooLong file) = TooLong file
check_outcome (checks.Broken fault) = Broken fault
check_outcome (checks.Accepted report) = Accepted report

-- that of a workload
abbrev pub load_outcome : loads.Outcome → Outcome
load_outcome (loads.Refused cause) = Refused cause
load_outcome (loads.Summed status summary) = Summed status summary

-- that of a desk
abbrev pub desk_outcome : desks.Outcome → Outcome
desk_outcome (desks.Refused cause) = Refused (Files cause)
desk_outcome desks.TooLong = Ran desks.TooLong
desk_outcome desks.Halted = Ran desks.Halted
desk_outcome desks.Replied = Ran desks.Replied

-- that of a job
abbrev pub resume_outcome : resumes.Outcome → Outcome
resume_outcome (resumes.Refused cause) = Refused cause
resume_outcome (resumes.NotKept fault) = NotKept fault
resume_outcome (resumes.Gone due) = payment_outcome due

-- What a command comes to, by the content of files, and by the jobs of a keeper where it goes on with one; a workload is made
-- without any.
abbrev pub ComesTo : (List ℕ → List ℕ) → (List ℕ → Option KeptJob) → Command → Outcome → Type 0
ComesTo files jobs (Coins s) o = o ≡ listing_outcome (listings.outcome_of files s)
ComesTo files jobs (Fund s p job) o = o ≡ payment_outcome (payments.outcome_of files s p)
ComesTo files jobs (Resume s p job) o = (due : resumes.Outcome) × resumes.ComesTo files s p (jobs job) due × (o ≡ resume_outcome due)
ComesTo files jobs (Check s p report) o = (due : checks.Outcome) × checks.ComesTo files s p report due × (o ≡ check_outcome due)
ComesTo files jobs (Work number count) o = o ≡ load_outcome (loads.outcome_of number count)
ComesTo files jobs (Desk s script) o = o ≡ desk_outcome (desks.outcome_of files s script)
ComesTo files jobs (Further c) o = (due : further.Outcome) × further.ComesTo files c due × (o ≡ Other due)

-- where what a command comes to is told: its files are, and the jobs too where it goes on with one
abbrev pub IsTold : (told_files told_jobs : Type 0) → Command → Type 0
IsTold told_files told_jobs (Coins s) = told_files
IsTold told_files told_jobs (Fund s p job) = told_files
IsTold told_files told_jobs (Resume s p job) = told_files × told_jobs
IsTold told_files told_jobs (Check s p report) = told_files
IsTold told_files told_jobs (Work number count) = Unit {0}
IsTold told_files told_jobs (Desk s script) = told_files
IsTold told_files told_jobs (Further c) = told_files

-- the files are refused, or the job is, or what is judged is
abbrev pub IsRefusal : Outcome → Type 0
IsRefusal (Refused cause) = Unit {0}
IsRefusal (NotKept fault) = Unit {0}
IsRefusal (Listed listing) = ⊥
IsRefusal (Unfinished report) = ⊥
IsRefusal (NoSelection report log) = ⊥
IsRefusal (Funded report log) = ⊥
IsRefusal (TooLong file) = Unit {0}
IsRefusal (Broken fault) = Unit {0}
IsRefusal (Accepted report) = ⊥
IsRefusal (Summed status summary) = ⊥
IsRefusal (Ran due) = desks.IsRefusal due
IsRefusal (Other due) = further.IsRefusal due

-- what the cause of a listing's refusal, or of a desk's, means by itself: its files are the wallet and the blocks alone
abbrev pub IsListingMeant : (wallet blocks : List ℕ) → Cause → Type 0
IsListingMeant wallet blocks (Files cause) = IsChainMeant wallet blocks cause
IsListingMeant wallet blocks (Bump fault) = ⊥
IsListingMeant wallet blocks (Plan fault) = ⊥

-- what a cause means by itself; what the refusals of the commands beside these mean is said by the crate of each
abbrev pub IsMeant : (List ℕ → List ℕ) → Command → Cause → Type 0
IsMeant files (Coins s) cause = IsListingMeant (files s.wallet) (files s.blocks) cause
IsMeant files (Fund s p job) cause = payment_causes.IsMeant files s p cause
IsMeant files (Resume s p job) cause = payment_causes.IsMeant files s p cause
IsMeant files (Check s p report) cause = payment_causes.IsMeant files s p cause
IsMeant files (Work number count) cause = loads.IsCollision number count cause
IsMeant files (Desk s script) cause = IsListingMeant (files s.wallet) (files s.blocks) cause
IsMeant files (Further c) cause = ⊥

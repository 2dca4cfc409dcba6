-- How a command ends, by its status.
use Rattle.std.specs.Prelude.{ℕ, ◌≡◌, ◌≤◌, ◌+◌, ◌++◌, List, Option, Some, None}
use Rattle.block_feed.specs.Block.{ChainBlock}
use Rattle.fund_shelf.specs.Causes.{ShelfView, SinkView, Rose, SameElsewhere}
use Rattle.fund_files.specs.Chain.{chain_from}
use Rattle.fund_files.specs.FileStops as files
use Rattle.fund_files.specs.declared.chain.Chain.{Chain}
use Rattle.fund_files.specs.declared.refusal.File.{File}
use Rattle.fund_outside.specs.Kept.{KeeperView}
use Rattle.fund_plan.specs.Outcome.{most_tries, tries_at}
use Rattle.fund_steps.specs.Plan.{IsPlan}
use Rattle.kept_job.specs.Kept.{IsKeptAt}
use Rattle.request_text.specs.PlainRequest.{PlainRequest}
use Rattle.wallet_text.specs.PlainWallet.{PlainWallet}
use Rattle.command_end.specs.Names.{Sources}
use Rattle.command_end.specs.declared.status.Status.{Status}
use Rattle.command_end.specs.declared.status.Status.TheVariants as statuses
use Rattle.command_check.specs.Statuses as checks
use Rattle.command_coins.specs.Statuses as listings
use Rattle.command_desk.specs.Outcome as desk_dues
use Rattle.command_desk.specs.Endings as desk_endings
use Rattle.command_desk.specs.Statuses as desks
use Rattle.command_inputs.specs.Cause.{status_of_cause}
use Rattle.command_inputs.specs.Digest.{digest_in}
use Rattle.command_inputs.specs.Outcome.{plan_of, planned_after}
use Rattle.command_inputs.specs.Outcome as dues
use Rattle.command_inputs.specs.Inputs as inputs
use Rattle.command_inputs.specs.Inputs.{AreInputs}
use Rattle.command_inputs.specs.Names.{Payment}
use Rattle.command_fund.specs.Statuses as payments
use Rattle.command_inputs.specs.Results as payment_results
use Rattle.command_resume.specs.Statuses as resumes
use Rattle.command_resume.specs.Words.{kept_status}
use Rattle.command_work.specs.Statuses as loads
use Rattle.further_commands.specs.Command.{FurtherCommand}
use Rattle.further_commands.specs.Outcome as further_dues
use Rattle.further_commands.specs.Statuses as further
use Rattle.fund_top.specs.Outcome.{Outcome, Refused, NotKept, Listed, Unfinished, NoSelection, Funded, TooLong, Broken, Accepted, Summed, Ran, Other}
use Rattle.fund_top.specs.Words.{Command, Coins, Fund, Resume, Check, Work, Desk, Further}

-- the status of what a command comes to, where nothing fails
abbrev pub status_of : Outcome → Status
status_of (Refused cause) = status_of_cause cause
status_of (NotKept fault) = kept_status fault
status_of (Listed listing) = statuses.Done
status_of (Unfinished report) = statuses.Unfinished
status_of (NoSelection report log) = statuses.NoSelection
status_of (Funded report log) = statuses.Done
status_of (TooLong file) = statuses.Limit
status_of (Broken fault) = statuses.CheckRefused
status_of (Accepted report) = statuses.Done
status_of (Summed status summary) = status
status_of (Ran due) = desk_dues.status_of due
status_of (Other due) = further_dues.status_of due

-- the sources of a command that lists coins have this
abbrev pub WhereListing : Option Command → (Sources → Type 0) → Type 0
WhereListing None P = Unit {0}
WhereListing (Some (Coins s)) P = P s
WhereListing (Some (Fund s p job)) P = Unit {0}
WhereListing (Some (Resume s p job)) P = Unit {0}
WhereListing (Some (Check s p report)) P = Unit {0}
WhereListing (Some (Work number count)) P = Unit {0}
WhereListing (Some (Desk s script)) P = Unit {0}
WhereListing (Some (Further c)) P = Unit {0}

-- the files of a command that funds a payment have this
abbrev pub WhereFunding : Option Command → (Sources → Payment → Type 0) → Type 0
WhereFunding None P = Unit {0}
WhereFunding (Some (Coins s)) P = Unit {0}
WhereFunding (Some (Fund s p job)) P = P s p
WhereFunding (Some (Resume s p job)) P = Unit {0}
WhereFunding (Some (Check s p report)) P = Unit {0}
WhereFunding (Some (Work number count)) P = Unit {0}
WhereFunding (Some (Desk s script)) P = Unit {0}
WhereFunding (Some (Further c)) P = Unit {0}

-- the files and the job of a command that goes on have this
abbrev pub WhereResuming : Option Command → (Sources → Payment → List ℕ → Type 0) → Type 0
WhereResuming None P = Unit {0}
WhereResuming (Some (Coins s)) P = Unit {0}
WhereResuming (Some (Fund s p job)) P = Unit {0}
WhereResuming (Some (Resume s p job)) P = P s p job
WhereResuming (Some (Check s p report)) P = Unit {0}
WhereResuming (Some (Work number count)) P = Unit {0}
WhereResuming (Some (Desk s script)) P = Unit {0}
WhereResuming (Some (Further c)) P = Unit {0}

-- the files of a command that checks a report have this
abbrev pub WhereChecking : Option Command → (Sources → Payment → List ℕ → Type 0) → Type 0
WhereChecking None P = Unit {0}
WhereChecking (Some (Coins s)) P = Unit {0}
WhereChecking (Some (Fund s p job)) P = Unit {0}
WhereChecking (Some (Resume s p job)) P = Unit {0}
WhereChecking (Some (Check s p report)) P = P s p report
WhereChecking (Some (Work number count)) P = Unit {0}
WhereChecking (Some (Desk s script)) P = Unit {0}
WhereChecking (Some (Further c)) P = Unit {0}

-- the number and the count of a command that sums up a workload have this
abbrev pub WhereWorking : Option Command → (ℕ → ℕ → Type 0) → Type 0
WhereWorking None P = Unit {0}
WhereWorking (Some (Coins s)) P = Unit {0}
WhereWorking (Some (Fund s p job)) P = Unit {0}
WhereWorking (Some (Resume s p job)) P = Unit {0}
WhereWorking (Some (Check s p report)) P = Unit {0}
WhereWorking (Some (Work number count)) P = P number count
WhereWorking (Some (Desk s script)) P = Unit {0}
WhereWorking (Some (Further c)) P = Unit {0}

-- the files of a command that runs a script at a desk have this
abbrev pub WhereDesk : Option Command → (Sources → List ℕ → Type 0) → Type 0
WhereDesk None P = Unit {0}
WhereDesk (Some (Coins s)) P = Unit {0}
WhereDesk (Some (Fund s p job)) P = Unit {0}
WhereDesk (Some (Resume s p job)) P = Unit {0}
WhereDesk (Some (Check s p report)) P = Unit {0}
WhereDesk (Some (Work number count)) P = Unit {0}
WhereDesk (Some (Desk s script)) P = P s script
WhereDesk (Some (Further c)) P = Unit {0}

-- the command beside these that a command is has this
abbrev pub WhereFurther : Option Command → (FurtherCommand → Type 0) → Type 0
WhereFurther None P = Unit {0}
WhereFurther (Some (Coins s)) P = Unit {0}
WhereFurther (Some (Fund s p job)) P = Unit {0}
WhereFurther (Some (Resume s p job)) P = Unit {0}
WhereFurther (Some (Check s p report)) P = Unit {0}
WhereFurther (Some (Work number count)) P = Unit {0}
WhereFurther (Some (Desk s script)) P = Unit {0}
WhereFurther (Some (Further c)) P = P c

-- the job that a command names
abbrev pub job_of : Command → Option (List ℕ)
job_of (Coins s) = None
job_of (Fund s p job) = job
job_of (Resume s p job) = Some job
job_of (Check s p report) = None
job_of (Work number count) = None
job_of (Desk s script) = None
job_of (Further c) = None

-- ---- by the status

-- done: a listing, a payment with its log, a report that is accepted, the summary of a payment, or the replies of a desk
abbrev pub EndsDone : Type 0 → Type 0 → Type 0 → Command → ShelfView → ShelfView → SinkView → SinkView → KeeperView → Type 0
EndsDone told_files told told_jobs (Coins s) shelf shelf' sink sink' keeper = listings.EndsListed told_files told s shelf sink sink'
EndsDone told_files told told_jobs (Fund s p job) shelf shelf' sink sink' keeper = payments.EndsFunded told_files told s p shelf shelf' sink sink'
EndsDone told_files told told_jobs (Resume s p job) shelf shelf' sink sink' keeper = resumes.EndsFunded told_files told told_jobs s p job shelf shelf' sink sink' keeper
EndsDone told_files told told_jobs (Check s p report) shelf shelf' sink sink' keeper = checks.EndsAccepted told_files told s p report shelf sink sink'
EndsDone told_files told told_jobs (Work number count) shelf shelf' sink sink' keeper = loads.EndsSummed told number count statuses.Done sink sink'
EndsDone told_files told told_jobs (Desk s script) shelf shelf' sink sink' keeper = desks.EndsRunning told_files told s script shelf shelf' sink sink' statuses.Done
EndsDone told_files told told_jobs (Further c) shelf shelf' sink sink' keeper = further.Ends told_files told c shelf shelf' sink sink' statuses.Done

-- no selection, which no listing, no check and no desk ends with
abbrev pub EndsNotFunded : Type 0 → Type 0 → Type 0 → Command → ShelfView → ShelfView → SinkView → SinkView → KeeperView → Type 0
EndsNotFunded told_files told told_jobs (Coins s) shelf shelf' sink sink' keeper = ⊥
EndsNotFunded told_files told told_jobs (Fund s p job) shelf shelf' sink sink' keeper = payments.EndsNotFunded told_files told s p shelf shelf' sink sink'
EndsNotFunded told_files told told_jobs (Resume s p job) shelf shelf' sink sink' keeper = resumes.EndsNotFunded told_files told told_jobs s p job shelf shelf' sink sink' keeper
EndsNotFunded told_files told told_jobs (Check s p report) shelf shelf' sink sink' keeper = ⊥
EndsNotFunded told_files told told_jobs (Work number count) shelf shelf' sink sink' keeper = loads.EndsSummed told number count statuses.NoSelection sink sink'
EndsNotFunded told_files told told_jobs (Desk s script) shelf shelf' sink sink' keeper = ⊥
EndsNotFunded told_files told told_jobs (Further c) shelf shelf' sink sink' keeper = further.Ends told_files told c shelf shelf' sink sink' statuses.NoSelection

-- unfinished, which no listing, no check and no desk ends with
abbrev pub EndsUnfinished : Type 0 → Type 0 → Type 0 → Command → ShelfView → ShelfView → SinkView → SinkView → KeeperView → KeeperView → Type 0
EndsUnfinished told_files told told_jobs (Coins s) shelf shelf' sink sink' keeper keeper' = ⊥
EndsUnfinished told_files told told_jobs (Fund s p job) shelf shelf' sink sink' keeper keeper' = payments.EndsUnfinished told_files told told_jobs s p job shelf shelf' sink sink' keeper keeper'
EndsUnfinished told_files told told_jobs (Resume s p job) shelf shelf' sink sink' keeper keeper' = resumes.EndsUnfinished told_files told told_jobs s p job shelf shelf' sink sink' keeper keeper'
EndsUnfinished told_files told told_jobs (Check s p report) shelf shelf' sink sink' keeper keeper' = ⊥
EndsUnfinished told_files told told_jobs (Work number count) shelf shelf' sink sink' keeper keeper' = loads.EndsSummed told number count statuses.Unfinished sink sink'
EndsUnfinished told_files told told_jobs (Desk s script) shelf shelf' sink sink' keeper keeper' = ⊥
EndsUnfinished told_files told told_jobs (Further c) shelf shelf' sink sink' keeper keeper' = further.Ends told_files told c shelf shelf' sink sink' statuses.Unfinished

-- a rule of the input that a file breaks, or what it asks for, with its line
abbrev pub EndsInput : Type 0 → Type 0 → Command → ShelfView → SinkView → SinkView → Type 0
EndsInput told_files told (Coins s) shelf sink sink' = listings.EndsRefused statuses.Input told_files told s shelf sink sink'
EndsInput told_files told (Fund s p job) shelf sink sink' = payment_results.EndsRefused statuses.Input told_files told s p shelf sink sink'
EndsInput told_files told (Resume s p job) shelf sink sink' = payment_results.EndsRefused statuses.Input told_files told s p shelf sink sink'
EndsInput told_files told (Check s p report) shelf sink sink' = payment_results.EndsRefused statuses.Input told_files told s p shelf sink sink'
EndsInput told_files told (Work number count) shelf sink sink' = loads.EndsRefused statuses.Input told number count sink sink'
EndsInput told_files told (Desk s script) shelf sink sink' = desk_endings.EndsRefused statuses.Input told_files told s shelf sink sink'
EndsInput told_files told (Further c) shelf sink sink' = further.EndsInput told_files told c shelf sink sink'

-- a limit: of a file, of one that is judged or that a line of a script names too or, where a job is gone on with, of the job
abbrev pub EndsLimited : Type 0 → Type 0 → Type 0 → Command → ShelfView → ShelfView → SinkView → SinkView → KeeperView → Type 0
EndsLimited told_files told told_jobs (Coins s) shelf shelf' sink sink' keeper = listings.EndsRefused statuses.Limit told_files told s shelf sink sink'
EndsLimited told_files told told_jobs (Fund s p job) shelf shelf' sink sink' keeper = payment_results.EndsRefused statuses.Limit told_files told s p shelf sink sink'
EndsLimited told_files told told_jobs (Resume s p job) shelf shelf' sink sink' keeper = resumes.EndsLimited told_files told told_jobs s p job shelf sink sink' keeper
EndsLimited told_files told told_jobs (Check s p report) shelf shelf' sink sink' keeper = checks.EndsLimited told_files told s p report shelf sink sink'
EndsLimited told_files told told_jobs (Work number count) shelf shelf' sink sink' keeper = loads.EndsRefused statuses.Limit told number count sink sink'
EndsLimited told_files told told_jobs (Desk s script) shelf shelf' sink sink' keeper = desks.Ends told_files told s script shelf shelf' sink sink' statuses.Limit
EndsLimited told_files told told_jobs (Further c) shelf shelf' sink sink' keeper = further.Ends told_files told c shelf shelf' sink sink' statuses.Limit

-- the kept job is refused for a fault of its own
abbrev pub EndsNotKept : Type 0 → Type 0 → Type 0 → Command → ShelfView → SinkView → SinkView → KeeperView → Type 0
EndsNotKept told_files told told_jobs (Coins s) shelf sink sink' keeper = ⊥
EndsNotKept told_files told told_jobs (Fund s p job) shelf sink sink' keeper = ⊥
EndsNotKept told_files told told_jobs (Resume s p job) shelf sink sink' keeper = resumes.EndsNotKept statuses.Saved told_files told told_jobs s p job shelf sink sink' keeper
EndsNotKept told_files told told_jobs (Check s p report) shelf sink sink' keeper = ⊥
EndsNotKept told_files told told_jobs (Work number count) shelf sink sink' keeper = ⊥
EndsNotKept told_files told told_jobs (Desk s script) shelf sink sink' keeper = ⊥
EndsNotKept told_files told told_jobs (Further c) shelf sink sink' keeper = ⊥

-- a report that isn't accepted, and the first rule that it breaks; no other command ends so
abbrev pub EndsBroken : Type 0 → Type 0 → Command → ShelfView → SinkView → SinkView → Type 0
EndsBroken told_files told (Coins s) shelf sink sink' = ⊥
EndsBroken told_files told (Fund s p job) shelf sink sink' = ⊥
EndsBroken told_files told (Resume s p job) shelf sink sink' = ⊥
EndsBroken told_files told (Check s p report) shelf sink sink' = checks.EndsBroken told_files told s p report shelf sink sink'
EndsBroken told_files told (Work number count) shelf sink sink' = ⊥
EndsBroken told_files told (Desk s script) shelf sink sink' = ⊥
EndsBroken told_files told (Further c) shelf sink sink' = ⊥

-- a signed transaction that isn't the payment of its report, or doesn't pay what was asked: the first rule that it breaks; no other
-- command ends so
abbrev pub EndsUnsettled : Type 0 → Type 0 → Command → ShelfView → SinkView → SinkView → Type 0
EndsUnsettled told_files told (Coins s) shelf sink sink' = ⊥
EndsUnsettled told_files told (Fund s p job) shelf sink sink' = ⊥
EndsUnsettled told_files told (Resume s p job) shelf sink sink' = ⊥
EndsUnsettled told_files told (Check s p report) shelf sink sink' = ⊥
EndsUnsettled told_files told (Work number count) shelf sink sink' = ⊥
EndsUnsettled told_files told (Desk s script) shelf sink sink' = ⊥
EndsUnsettled told_files told (Further c) shelf sink sink' = further.EndsUnsettled told_files told c shelf sink sink'

-- a file of the command wasn't read, those before it being in order, and the line names it; after a desk's reply there is no line
abbrev pub EndsUnread : Type 0 → Type 0 → Command → ShelfView → ShelfView → SinkView → SinkView → Type 0
EndsUnread told_files told (Coins s) shelf shelf' sink sink' = listings.EndsUnread told_files told s shelf shelf' sink sink'
EndsUnread told_files told (Fund s p job) shelf shelf' sink sink' = payment_results.EndsUnread told_files told s p shelf shelf' sink sink'
EndsUnread told_files told (Resume s p job) shelf shelf' sink sink' = payment_results.EndsUnread told_files told s p shelf shelf' sink sink'
EndsUnread told_files told (Check s p report) shelf shelf' sink sink' = checks.EndsUnread told_files told s p report shelf shelf' sink sink'
EndsUnread told_files told (Work number count) shelf shelf' sink sink' = ⊥
EndsUnread told_files told (Desk s script) shelf shelf' sink sink' = desks.Ends told_files told s script shelf shelf' sink sink' statuses.ReadFault
EndsUnread told_files told (Further c) shelf shelf' sink sink' = further.Ends told_files told c shelf shelf' sink sink' statuses.ReadFault

-- the keeper failed: where a job is gone on with, or where a payment has a job and its run is unfinished
abbrev pub EndsUnkept : Type 0 → Type 0 → Command → ShelfView → SinkView → SinkView → KeeperView → KeeperView → Type 0
EndsUnkept told_files told (Coins s) shelf sink sink' keeper keeper' = ⊥
EndsUnkept told_files told (Fund s p job) shelf sink sink' keeper keeper' = payments.EndsUnkept told_files told s p job shelf sink sink' keeper keeper'
EndsUnkept told_files told (Resume s p job) shelf sink sink' keeper keeper' = resumes.EndsUnkept told_files told s p shelf sink sink' keeper keeper'
EndsUnkept told_files told (Check s p report) shelf sink sink' keeper keeper' = ⊥
EndsUnkept told_files told (Work number count) shelf sink sink' keeper keeper' = ⊥
EndsUnkept told_files told (Desk s script) shelf sink sink' keeper keeper' = ⊥
EndsUnkept told_files told (Further c) shelf sink sink' keeper keeper' = ⊥

-- nothing is refused, and the log wasn't written, or the sink failed and has got a part of what is due
abbrev pub EndsUnwritten : Type 0 → Type 0 → Type 0 → Command → ShelfView → ShelfView → SinkView → SinkView → KeeperView → KeeperView → Type 0
EndsUnwritten told_files told told_jobs (Coins s) shelf shelf' sink sink' keeper keeper' = listings.EndsUnwritten told_files told s shelf sink sink'
EndsUnwritten told_files told told_jobs (Fund s p job) shelf shelf' sink sink' keeper keeper' = payments.EndsUnwritten told_files told told_jobs s p job shelf shelf' sink sink' keeper keeper'
EndsUnwritten told_files told told_jobs (Resume s p job) shelf shelf' sink sink' keeper keeper' = resumes.EndsUnwritten told_files told told_jobs s p job shelf shelf' sink sink' keeper keeper'
EndsUnwritten told_files told told_jobs (Check s p report) shelf shelf' sink sink' keeper keeper' = checks.EndsUnwritten told_files told s p report shelf sink sink'
EndsUnwritten told_files told told_jobs (Work number count) shelf shelf' sink sink' keeper keeper' = loads.EndsUnwritten told number count sink sink'
EndsUnwritten told_files told told_jobs (Desk s script) shelf shelf' sink sink' keeper keeper' = desks.EndsRunning told_files told s script shelf shelf' sink sink' statuses.WriteFault
EndsUnwritten told_files told told_jobs (Further c) shelf shelf' sink sink' keeper keeper' = further.Ends told_files told c shelf shelf' sink sink' statuses.WriteFault

-- there was not enough memory, and the line says so, or the sink found none and has got a part of what is due; or a desk stopped
-- after its replies
abbrev pub EndsWithoutMemory : Type 0 → Type 0 → Type 0 → Command → ShelfView → ShelfView → SinkView → SinkView → KeeperView → KeeperView → Type 0
EndsWithoutMemory told_files told told_jobs (Coins s) shelf shelf' sink sink' keeper keeper' = listings.EndsWithoutMemory told_files told s shelf sink sink'
EndsWithoutMemory told_files told told_jobs (Fund s p job) shelf shelf' sink sink' keeper keeper' = payments.EndsWithoutMemory told_files told told_jobs s p job shelf shelf' sink sink' keeper keeper'
EndsWithoutMemory told_files told told_jobs (Resume s p job) shelf shelf' sink sink' keeper keeper' = resumes.EndsWithoutMemory told_files told told_jobs s p job shelf shelf' sink sink' keeper keeper'
EndsWithoutMemory told_files told told_jobs (Check s p report) shelf shelf' sink sink' keeper keeper' = checks.EndsWithoutMemory told_files told s p report shelf sink sink'
EndsWithoutMemory told_files told told_jobs (Work number count) shelf shelf' sink sink' keeper keeper' = loads.EndsWithoutMemory told number count sink sink'
EndsWithoutMemory told_files told told_jobs (Desk s script) shelf shelf' sink sink' keeper keeper' = desks.Ends told_files told s script shelf shelf' sink sink' statuses.Memory
EndsWithoutMemory told_files told told_jobs (Further c) shelf shelf' sink sink' keeper keeper' = further.Ends told_files told c shelf shelf' sink sink' statuses.Memory

-- how a command ends, by its status. None ends with usage.
abbrev pub Ends : Type 0 → Type 0 → Type 0 → Command → ShelfView → ShelfView → SinkView → SinkView → KeeperView → KeeperView → Status → Type 0
Ends told_files told told_jobs c shelf shelf' sink sink' keeper keeper' statuses.Done = EndsDone told_files told told_jobs c shelf shelf' sink sink' keeper
Ends told_files told told_jobs c shelf shelf' sink sink' keeper keeper' statuses.NoSelection = EndsNotFunded told_files told told_jobs c shelf shelf' sink sink' keeper
Ends told_files told told_jobs c shelf shelf' sink sink' keeper keeper' statuses.Unfinished = EndsUnfinished told_files told told_jobs c shelf shelf' sink sink' keeper keeper'
Ends told_files told told_jobs c shelf shelf' sink sink' keeper keeper' statuses.Usage = ⊥
Ends told_files told told_jobs c shelf shelf' sink sink' keeper keeper' statuses.Input = EndsInput told_files told c shelf sink sink'
Ends told_files told told_jobs c shelf shelf' sink sink' keeper keeper' statuses.Limit = EndsLimited told_files told told_jobs c shelf shelf' sink sink' keeper
Ends told_files told told_jobs c shelf shelf' sink sink' keeper keeper' statuses.ReadFault = EndsUnread told_files told c shelf shelf' sink sink'
Ends told_files told told_jobs c shelf shelf' sink sink' keeper keeper' statuses.WriteFault = EndsUnwritten told_files told told_jobs c shelf shelf' sink sink' keeper keeper'
Ends told_files told told_jobs c shelf shelf' sink sink' keeper keeper' statuses.KeepFault = EndsUnkept told_files told c shelf sink sink' keeper keeper'
Ends told_files told told_jobs c shelf shelf' sink sink' keeper keeper' statuses.Memory = EndsWithoutMemory told_files told told_jobs c shelf shelf' sink sink' keeper keeper'
Ends told_files told told_jobs c shelf shelf' sink sink' keeper keeper' statuses.Saved = EndsNotKept told_files told told_jobs c shelf sink sink' keeper
Ends told_files told told_jobs c shelf shelf' sink sink' keeper keeper' statuses.CheckRefused = EndsBroken told_files told c shelf sink sink'
Ends told_files told told_jobs c shelf shelf' sink sink' keeper keeper' statuses.Settle = EndsUnsettled told_files told c shelf sink sink'

-- ---- what stays

-- what a command leaves as it was: every file, but for the log of a payment
abbrev pub KeepsOthers : Command → (List ℕ → List ℕ) → (List ℕ → List ℕ) → Type 0
KeepsOthers (Coins s) old new = new ≡ old
KeepsOthers (Fund s p job) old new = SameElsewhere p.log old new
KeepsOthers (Resume s p job) old new = SameElsewhere p.log old new
KeepsOthers (Check s p report) old new = new ≡ old
KeepsOthers (Work number count) old new = new ≡ old
KeepsOthers (Desk s script) old new = new ≡ old
KeepsOthers (Further c) old new = further.KeepsOthers c old new

-- ---- where nothing failed

-- no read of a file of the command failed
abbrev pub NoneUnread : Command → ShelfView → ShelfView → Type 0
NoneUnread (Coins s) shelf shelf' = (file : File) → files.IsUnread s.wallet s.blocks file shelf shelf' → ⊥
NoneUnread (Fund s p job) shelf shelf' = (file : File) → inputs.IsUnread s p file shelf shelf' → ⊥
NoneUnread (Resume s p job) shelf shelf' = (file : File) → inputs.IsUnread s p file shelf shelf' → ⊥
NoneUnread (Check s p report) shelf shelf' = checks.NoneUnread s p report shelf shelf'
NoneUnread (Work number count) shelf shelf' = Unit {0}
NoneUnread (Desk s script) shelf shelf' = desks.NoneUnread s script shelf shelf'
NoneUnread (Further c) shelf shelf' = further.NoneUnread c shelf shelf'

-- where a job is refused, the jobs are told, and the keeper didn't fail
abbrev pub NoneUnkept : (told_jobs : Type 0) → Outcome → KeeperView → KeeperView → Type 0
NoneUnkept told_jobs (NotKept fault) keeper keeper' = told_jobs × (Rose keeper.faults keeper'.faults → ⊥)
NoneUnkept told_jobs _ keeper keeper' = Unit {0}

-- the writing of its log failed
abbrev pub IsLogUnwritten : Command → ShelfView → ShelfView → Type 0
IsLogUnwritten (Coins s) shelf shelf' = ⊥
IsLogUnwritten (Fund s p job) shelf shelf' = Rose (shelf.writes p.log) (shelf'.writes p.log)
IsLogUnwritten (Resume s p job) shelf shelf' = Rose (shelf.writes p.log) (shelf'.writes p.log)
IsLogUnwritten (Check s p report) shelf shelf' = ⊥
IsLogUnwritten (Work number count) shelf shelf' = ⊥
IsLogUnwritten (Desk s script) shelf shelf' = ⊥
IsLogUnwritten (Further c) shelf shelf' = further.IsLogUnwritten c shelf shelf'

-- no read failed, nor did a write of the log, nor the sink, nor the keeper
pub record NoneFailed (c : Command) (shelf shelf' : ShelfView) (sink sink' : SinkView) (keeper keeper' : KeeperView) : Type 0 where
  pub reads : NoneUnread c shelf shelf'
  pub log : IsLogUnwritten c shelf shelf' → ⊥
  pub sinks : Rose sink.faults sink'.faults → ⊥
  pub keepers : Rose keeper.faults keeper'.faults → ⊥

-- ---- a job that was left

-- These files and a job that an unfinished run of them left after n tries.
pub record IsJobOf (files_now : List ℕ → List ℕ) (keeper : KeeperView) (s : Sources) (p : Payment) (job : List ℕ) (w : PlainWallet) (blocks : List ChainBlock) (r : PlainRequest) (n : ℕ) : Type 0 where
  pub inputs : AreInputs files_now s p w blocks r
  pub plan : IsPlan (plan_of (chain_from w blocks) r)
  pub kept : IsKeptAt (plan_of (chain_from w blocks) r) (digest_in files_now s p) n (keeper.jobs job)

-- A command that goes on with a job that was left after n tries ends as a run of n tries and the request's together does that
-- is never stopped: the log is written and the report is printed, both byte for byte. It refuses neither the files nor the
-- job, but for one that has made all its tries. Where a read, a write, the keeper or the memory failed nothing is said here.
abbrev pub EndsAs : Chain → PlainRequest → (n : ℕ) → Payment → ShelfView → SinkView → SinkView → Status → Type 0
EndsAs k r n p shelf' sink sink' statuses.Done =
    (report : List ℕ) × (log : List ℕ) × (planned_after k r (n + r.tries) ≡ dues.Funded report log) × (shelf'.files p.log ≡ log) × (sink'.written ≡ sink.written ++ report)
EndsAs k r n p shelf' sink sink' statuses.NoSelection =
    (report : List ℕ) × (log : List ℕ) × (planned_after k r (n + r.tries) ≡ dues.NoSelection report log) × (shelf'.files p.log ≡ log) × (sink'.written ≡ sink.written ++ report)
EndsAs k r n p shelf' sink sink' statuses.Unfinished =
    (report : List ℕ) × (planned_after k r (n + r.tries) ≡ dues.Unfinished report) × (sink'.written ≡ sink.written ++ report)
EndsAs k r n p shelf' sink sink' statuses.Limit = most_tries ≤ tries_at (plan_of k r) n
EndsAs k r n p shelf' sink sink' statuses.Usage = ⊥
EndsAs k r n p shelf' sink sink' statuses.Input = ⊥
EndsAs k r n p shelf' sink sink' statuses.Saved = ⊥
EndsAs k r n p shelf' sink sink' statuses.CheckRefused = ⊥
EndsAs k r n p shelf' sink sink' statuses.Settle = ⊥
EndsAs k r n p shelf' sink sink' statuses.ReadFault = Unit {0}
EndsAs k r n p shelf' sink sink' statuses.WriteFault = Unit {0}
EndsAs k r n p shelf' sink sink' statuses.KeepFault = Unit {0}
EndsAs k r n p shelf' sink sink' statuses.Memory = Unit {0}

-- Where a job was left by an unfinished run of the same files after n tries, going on with it ends as a run of n tries and the
-- request's together ends without a stop. Where that is unfinished too, the job is left after so many tries.
abbrev pub GoesOnUninterrupted : Sources → Payment → List ℕ → ShelfView → ShelfView → SinkView → SinkView → KeeperView → KeeperView → Status → Type 0
GoesOnUninterrupted s p job shelf shelf' sink sink' keeper keeper' status =
    (w : PlainWallet) (blocks : List ChainBlock) (r : PlainRequest) (n : ℕ) → IsJobOf shelf.files keeper s p job w blocks r n
    → EndsAs (chain_from w blocks) r n p shelf' sink sink' status
    × (status ≡ statuses.Unfinished → IsJobOf shelf.files keeper' s p job w blocks r (n + r.tries))

-- How a command that goes on with a job ends, by its status.
use Rattle.std.specs.Prelude.{ℕ, ◌≡◌, ◌⊎◌, List, ◌++◌, codes, Option, Some, None}
use Rattle.fund_shelf.specs.Causes.{HasPart, Rose, ShelfView, SinkView}
use Rattle.fund_outside.specs.Kept.{KeeperView, KeptJob}
use Rattle.kept_job.specs.Refused.{IsOfJob}
use Rattle.kept_job.specs.declared.fault.KeptFault.{KeptFault}
use Rattle.command_end.specs.Lines.{GotLine, fault_line}
use Rattle.command_end.specs.Names.{Sources}
use Rattle.command_end.specs.declared.status.Status.{Status}
use Rattle.command_end.specs.declared.status.Status.TheVariants as statuses
use Rattle.command_inputs.specs.Names.{Payment}
use Rattle.command_inputs.specs.Results as payments
use Rattle.command_inputs.specs.Results.{IsLogLost, IsLogged}
use Rattle.command_resume.specs.Outcome.{AreReady, IsNotKept}
use Rattle.command_resume.specs.Resumed.{IsFunded, IsLeftOn, IsNotFunded, IsUnfinished}
use Rattle.command_resume.specs.Words.{kept_status, kept_words}

-- done: the log is written, and after what was in the sink stands the report of a payment
abbrev pub EndsFunded : Type 0 → Type 0 → Type 0 → Sources → Payment → List ℕ → ShelfView → ShelfView → SinkView → SinkView → KeeperView → Type 0
EndsFunded told_files told told_jobs s p job shelf shelf' sink sink' keeper =
    (report : List ℕ) × (log : List ℕ) × IsFunded told_files told_jobs shelf.files s p (keeper.jobs job) report log × (told_files → shelf'.files p.log ≡ log) × (told → sink'.written ≡ sink.written ++ report)

-- no selection: the log is written, and after what was in the sink stands the report of none
abbrev pub EndsNotFunded : Type 0 → Type 0 → Type 0 → Sources → Payment → List ℕ → ShelfView → ShelfView → SinkView → SinkView → KeeperView → Type 0
EndsNotFunded told_files told told_jobs s p job shelf shelf' sink sink' keeper =
    (report : List ℕ) × (log : List ℕ) × IsNotFunded told_files told_jobs shelf.files s p (keeper.jobs job) report log × (told_files → shelf'.files p.log ≡ log) × (told → sink'.written ≡ sink.written ++ report)

-- unfinished: no file is written, the job goes on, and after what was in the sink stands the report of the open search
abbrev pub EndsUnfinished : Type 0 → Type 0 → Type 0 → Sources → Payment → List ℕ → ShelfView → ShelfView → SinkView → SinkView → KeeperView → KeeperView → Type 0
EndsUnfinished told_files told told_jobs s p job shelf shelf' sink sink' keeper keeper' =
    (report : List ℕ) × (u : IsUnfinished told_files told_jobs shelf.files s p (keeper.jobs job) report) × (told_files → shelf'.files ≡ shelf.files) × (told → sink'.written ≡ sink.written ++ report)
    × (told_jobs → IsLeftOn told_files told_jobs shelf.files s p job report keeper keeper' u)

-- The job is refused with this status for a fault of its own, with its line. The files are in order.
abbrev pub EndsNotKept : Status → Type 0 → Type 0 → Type 0 → Sources → Payment → List ℕ → ShelfView → SinkView → SinkView → KeeperView → Type 0
EndsNotKept status told_files told told_jobs s p job shelf sink sink' keeper =
    (fault : KeptFault) × (kept_status fault ≡ status) × IsOfJob fault × (told_files → told_jobs → IsNotKept shelf.files s p (keeper.jobs job) fault)
    × (told → GotLine (fault_line (kept_words fault)) sink sink') × (told_files → AreReady shelf.files s p)

-- a limit: of a file, or of the job, which has made all its tries or whose parts are too long
abbrev pub EndsLimited : Type 0 → Type 0 → Type 0 → Sources → Payment → List ℕ → ShelfView → SinkView → SinkView → KeeperView → Type 0
EndsLimited told_files told told_jobs s p job shelf sink sink' keeper =
    payments.EndsRefused statuses.Limit told_files told s p shelf sink sink' ⊎ EndsNotKept statuses.Limit told_files told told_jobs s p job shelf sink sink' keeper

-- the keeper failed, the files being in order, and the line says so
abbrev pub EndsUnkept : Type 0 → Type 0 → Sources → Payment → ShelfView → SinkView → SinkView → KeeperView → KeeperView → Type 0
EndsUnkept told_files told s p shelf sink sink' keeper keeper' =
    Rose keeper.faults keeper'.faults × (told → GotLine (fault_line (codes "keep")) sink sink') × (told_files → AreReady shelf.files s p)

-- this is a report, and the log that is written before it, if one is
abbrev pub IsReport : Type 0 → Type 0 → (List ℕ → List ℕ) → Sources → Payment → Option KeptJob → List ℕ → Option (List ℕ) → Type 0
IsReport told_files told_jobs files s p o report (Some log) = IsFunded told_files told_jobs files s p o report log ⊎ IsNotFunded told_files told_jobs files s p o report log
IsReport told_files told_jobs files s p o report None = IsUnfinished told_files told_jobs files s p o report

-- what is kept before a report is printed: where a log is written nothing, and else the job goes on
abbrev pub IsKeptBefore : (told_files told_jobs : Type 0) (files : List ℕ → List ℕ) (s : Sources) (p : Payment) (job report : List ℕ) (log : Option (List ℕ)) (keeper keeper' : KeeperView) → IsReport told_files told_jobs files s p (keeper.jobs job) report log → Type 0
IsKeptBefore told_files told_jobs files s p job report (Some log) keeper keeper' is = told_jobs → keeper'.jobs ≡ keeper.jobs
IsKeptBefore told_files told_jobs files s p job report None keeper keeper' is = told_jobs → IsLeftOn told_files told_jobs files s p job report keeper keeper' is

-- Nothing is refused. The log wasn't written, and the line names it; or it was, or none is due, and the sink failed and has
-- got a part of the report. In the second case an unfinished job is kept.
abbrev pub EndsUnwritten : Type 0 → Type 0 → Type 0 → Sources → Payment → List ℕ → ShelfView → ShelfView → SinkView → SinkView → KeeperView → KeeperView → Type 0
EndsUnwritten told_files told told_jobs s p job shelf shelf' sink sink' keeper keeper' =
    (report : List ℕ) × (log : Option (List ℕ)) × (is : IsReport told_files told_jobs shelf.files s p (keeper.jobs job) report log)
    × ((IsLogLost p log shelf shelf' × (told → GotLine (fault_line (codes "write " ++ p.log)) sink sink') × (told_jobs → keeper'.jobs ≡ keeper.jobs))
    ⊎ (Rose sink.faults sink'.faults × (told_files → IsLogged p log shelf shelf') × (told → HasPart sink.written report sink'.written)
    × IsKeptBefore told_files told_jobs shelf.files s p job report log keeper keeper' is))

-- There was not enough memory, and the line says so, and files and jobs are as before; or the log
-- was written, or none is due, and the sink found no memory and has got a part of the report. Then an
-- unfinished job is kept.
abbrev pub EndsWithoutMemory : Type 0 → Type 0 → Type 0 → Sources → Payment → List ℕ → ShelfView → ShelfView → SinkView → SinkView → KeeperView → KeeperView → Type 0
EndsWithoutMemory told_files told told_jobs s p job shelf shelf' sink sink' keeper keeper' =
    ((told → GotLine (fault_line (codes "memory")) sink sink') × (told_jobs → keeper'.jobs ≡ keeper.jobs) × (told_files → shelf'.files ≡ shelf.files))
    ⊎ ((report : List ℕ) × (log : Option (List ℕ)) × (is : IsReport told_files told_jobs shelf.files s p (keeper.jobs job) report log)
    × Rose sink.refusals sink'.refusals × (told_files → IsLogged p log shelf shelf') × (told → HasPart sink.written report sink'.written)
    × IsKeptBefore told_files told_jobs shelf.files s p job report log keeper keeper' is)

-- by the status
abbrev pub Ends : Type 0 → Type 0 → Type 0 → Sources → Payment → List ℕ → ShelfView → ShelfView → SinkView → SinkView → KeeperView → KeeperView → Status → Type 0
Ends told_files told told_jobs s p job shelf shelf' sink sink' keeper keeper' statuses.Done = EndsFunded told_files told told_jobs s p job shelf shelf' sink sink' keeper
Ends told_files told told_jobs s p job shelf shelf' sink sink' keeper keeper' statuses.NoSelection = EndsNotFunded told_files told told_jobs s p job shelf shelf' sink sink' keeper
Ends told_files told told_jobs s p job shelf shelf' sink sink' keeper keeper' statuses.Unfinished = EndsUnfinished told_files told told_jobs s p job shelf shelf' sink sink' keeper keeper'
Ends told_files told told_jobs s p job shelf shelf' sink sink' keeper keeper' statuses.Usage = ⊥
Ends told_files told told_jobs s p job shelf shelf' sink sink' keeper keeper' statuses.Input = payments.EndsRefused statuses.Input told_files told s p shelf sink sink'
Ends told_files told told_jobs s p job shelf shelf' sink sink' keeper keeper' statuses.Limit = EndsLimited told_files told told_jobs s p job shelf sink sink' keeper
Ends told_files told told_jobs s p job shelf shelf' sink sink' keeper keeper' statuses.ReadFault = payments.EndsUnread told_files told s p shelf shelf' sink sink'
Ends told_files told told_jobs s p job shelf shelf' sink sink' keeper keeper' statuses.WriteFault = EndsUnwritten told_files told told_jobs s p job shelf shelf' sink sink' keeper keeper'
Ends told_files told told_jobs s p job shelf shelf' sink sink' keeper keeper' statuses.KeepFault = EndsUnkept told_files told s p shelf sink sink' keeper keeper'
Ends told_files told told_jobs s p job shelf shelf' sink sink' keeper keeper' statuses.Memory = EndsWithoutMemory told_files told told_jobs s p job shelf shelf' sink sink' keeper keeper'
Ends told_files told told_jobs s p job shelf shelf' sink sink' keeper keeper' statuses.Saved = EndsNotKept statuses.Saved told_files told told_jobs s p job shelf sink sink' keeper
Ends told_files told told_jobs s p job shelf shelf' sink sink' keeper keeper' statuses.CheckRefused = ⊥
Ends told_files told told_jobs s p job shelf shelf' sink sink' keeper keeper' statuses.Settle = ⊥

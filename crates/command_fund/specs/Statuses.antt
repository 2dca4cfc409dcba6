-- How a payment ends, by its status.
use Rattle.std.specs.Prelude.{ℕ, ◌≡◌, ◌⊎◌, List, ◌++◌, codes, Option, Some, None, IsSome}
use Rattle.fund_shelf.specs.Causes.{ShelfView, SinkView, Rose, HasPart}
use Rattle.fund_outside.specs.Kept.{KeeperView}
use Rattle.fund_files.specs.Chain.{chain_from}
use Rattle.command_end.specs.Lines.{GotLine, fault_line}
use Rattle.command_end.specs.Names.{Sources}
use Rattle.command_end.specs.declared.status.Status.{Status}
use Rattle.command_end.specs.declared.status.Status.TheVariants as statuses
use Rattle.command_inputs.specs.Outcome.{plan_of}
use Rattle.command_fund.specs.Jobs.{IsLeft}
use Rattle.command_inputs.specs.Names.{Payment}
use Rattle.command_inputs.specs.Results.{IsFunded, IsNotFunded, IsUnfinished, EndsRefused, EndsUnread, IsLogged, IsLogLost}

-- done: the log is written, and after what was in the sink stands the report of a payment
abbrev pub EndsFunded : Type 0 → Type 0 → Sources → Payment → ShelfView → ShelfView → SinkView → SinkView → Type 0
EndsFunded told_files told s p shelf shelf' sink sink' =
    (report : List ℕ) × (log : List ℕ) × IsFunded told_files shelf.files s p report log × (told_files → shelf'.files p.log ≡ log) × (told → sink'.written ≡ sink.written ++ report)

-- no selection: the log is written, and after what was in the sink stands the report of none
abbrev pub EndsNotFunded : Type 0 → Type 0 → Sources → Payment → ShelfView → ShelfView → SinkView → SinkView → Type 0
EndsNotFunded told_files told s p shelf shelf' sink sink' =
    (report : List ℕ) × (log : List ℕ) × IsNotFunded told_files shelf.files s p report log × (told_files → shelf'.files p.log ≡ log) × (told → sink'.written ≡ sink.written ++ report)

-- unfinished: no file is written, the job is kept where there is one, and after what was in the sink stands the report of the
-- open search
abbrev pub EndsUnfinished : Type 0 → Type 0 → Type 0 → Sources → Payment → Option (List ℕ) → ShelfView → ShelfView → SinkView → SinkView → KeeperView → KeeperView → Type 0
EndsUnfinished told_files told told_jobs s p job shelf shelf' sink sink' keeper keeper' =
    (report : List ℕ) × (u : IsUnfinished told_files shelf.files s p report) × (told_files → shelf'.files ≡ shelf.files) × (told → sink'.written ≡ sink.written ++ report)
    × (told_jobs → IsLeft told_files shelf.files s p (plan_of (chain_from u.wallet u.blocks) u.asked) u.asked.tries job keeper keeper')

-- The run is unfinished, there is a job to keep it as, and the keeper failed.
abbrev pub EndsUnkept : Type 0 → Type 0 → Sources → Payment → Option (List ℕ) → ShelfView → SinkView → SinkView → KeeperView → KeeperView → Type 0
EndsUnkept told_files told s p job shelf sink sink' keeper keeper' =
    (report : List ℕ) × IsUnfinished told_files shelf.files s p report × IsSome job × Rose keeper.faults keeper'.faults
    × (told → GotLine (fault_line (codes "keep")) sink sink')

-- this is a report, and the log that is written before it, if one is
abbrev pub IsReport : Type 0 → (List ℕ → List ℕ) → Sources → Payment → List ℕ → Option (List ℕ) → Type 0
IsReport told_files files s p report (Some log) = IsFunded told_files files s p report log ⊎ IsNotFunded told_files files s p report log
IsReport told_files files s p report None = IsUnfinished told_files files s p report

-- what is kept before a report is printed: where a log is written nothing, and else what is kept of the unfinished run
abbrev pub IsKeptBefore : (told_files told_jobs : Type 0) (files : List ℕ → List ℕ) (s : Sources) (p : Payment) (report : List ℕ) (log : Option (List ℕ)) → IsReport told_files files s p report log → Option (List ℕ) → KeeperView → KeeperView → Type 0
IsKeptBefore told_files told_jobs files s p report (Some log) is job keeper keeper' = told_jobs → keeper'.jobs ≡ keeper.jobs
IsKeptBefore told_files told_jobs files s p report None is job keeper keeper' =
    told_jobs → IsLeft told_files files s p (plan_of (chain_from is.wallet is.blocks) is.asked) is.asked.tries job keeper keeper'

-- Nothing is refused. The log wasn't written, and the line names it; or it was, or none is due, and the sink failed and has
-- got a part of the report. In the second case a job that was to be kept is kept.
abbrev pub EndsUnwritten : Type 0 → Type 0 → Type 0 → Sources → Payment → Option (List ℕ) → ShelfView → ShelfView → SinkView → SinkView → KeeperView → KeeperView → Type 0
EndsUnwritten told_files told told_jobs s p job shelf shelf' sink sink' keeper keeper' =
    (report : List ℕ) × (log : Option (List ℕ)) × (is : IsReport told_files shelf.files s p report log)
    × ((IsLogLost p log shelf shelf' × (told → GotLine (fault_line (codes "write " ++ p.log)) sink sink') × (told_jobs → keeper'.jobs ≡ keeper.jobs))
    ⊎ (Rose sink.faults sink'.faults × (told_files → IsLogged p log shelf shelf') × (told → HasPart sink.written report sink'.written)
    × IsKeptBefore told_files told_jobs shelf.files s p report log is job keeper keeper'))

-- There was not enough memory, and the line says so, and files and jobs are as before; or the log
-- was written, or none is due, and the sink found no memory and has got a part of the report. Then a job
-- that was to be kept is kept.
abbrev pub EndsWithoutMemory : Type 0 → Type 0 → Type 0 → Sources → Payment → Option (List ℕ) → ShelfView → ShelfView → SinkView → SinkView → KeeperView → KeeperView → Type 0
EndsWithoutMemory told_files told told_jobs s p job shelf shelf' sink sink' keeper keeper' =
    ((told → GotLine (fault_line (codes "memory")) sink sink') × (told_jobs → keeper'.jobs ≡ keeper.jobs) × (told_files → shelf'.files ≡ shelf.files))
    ⊎ ((report : List ℕ) × (log : Option (List ℕ)) × (is : IsReport told_files shelf.files s p report log)
    × Rose sink.refusals sink'.refusals × (told_files → IsLogged p log shelf shelf') × (told → HasPart sink.written report sink'.written)
    × IsKeptBefore told_files told_jobs shelf.files s p report log is job keeper keeper')

-- by the status
abbrev pub Ends : Type 0 → Type 0 → Type 0 → Sources → Payment → Option (List ℕ) → ShelfView → ShelfView → SinkView → SinkView → KeeperView → KeeperView → Status → Type 0
Ends told_files told told_jobs s p job shelf shelf' sink sink' keeper keeper' statuses.Done = EndsFunded told_files told s p shelf shelf' sink sink'
Ends told_files told told_jobs s p job shelf shelf' sink sink' keeper keeper' statuses.NoSelection = EndsNotFunded told_files told s p shelf shelf' sink sink'
Ends told_files told told_jobs s p job shelf shelf' sink sink' keeper keeper' statuses.Unfinished = EndsUnfinished told_files told told_jobs s p job shelf shelf' sink sink' keeper keeper'
Ends told_files told told_jobs s p job shelf shelf' sink sink' keeper keeper' statuses.Usage = ⊥
Ends told_files told told_jobs s p job shelf shelf' sink sink' keeper keeper' statuses.Input = EndsRefused statuses.Input told_files told s p shelf sink sink'
Ends told_files told told_jobs s p job shelf shelf' sink sink' keeper keeper' statuses.Limit = EndsRefused statuses.Limit told_files told s p shelf sink sink'
Ends told_files told told_jobs s p job shelf shelf' sink sink' keeper keeper' statuses.ReadFault = EndsUnread told_files told s p shelf shelf' sink sink'
Ends told_files told told_jobs s p job shelf shelf' sink sink' keeper keeper' statuses.WriteFault = EndsUnwritten told_files told told_jobs s p job shelf shelf' sink sink' keeper keeper'
Ends told_files told told_jobs s p job shelf shelf' sink sink' keeper keeper' statuses.KeepFault = EndsUnkept told_files told s p job shelf sink sink' keeper keeper'
Ends told_files told told_jobs s p job shelf shelf' sink sink' keeper keeper' statuses.Memory = EndsWithoutMemory told_files told told_jobs s p job shelf shelf' sink sink' keeper keeper'
Ends told_files told told_jobs s p job shelf shelf' sink sink' keeper keeper' statuses.Saved = ⊥
Ends told_files told told_jobs s p job shelf shelf' sink sink' keeper keeper' statuses.CheckRefused = ⊥
Ends told_files told told_jobs s p job shelf shelf' sink sink' keeper keeper' statuses.Settle = ⊥

-- How a command ends whose files, sink and keeper are in memory and never fail.
use Rattle.std.specs.Prelude.{ℕ, ◌≡◌, ◌≢◌, ◌⊎◌, List, ◌++◌, Option, IfSome}
use Rattle.fund_shelf.specs.Causes.{ShelfView, SinkView}
use Rattle.fund_files.specs.Chain.{chain_from}
use Rattle.fund_outside.specs.Kept.{KeeperView}
use Rattle.command_end.specs.Names.{Sources}
use Rattle.command_check.specs.Statuses.{IsVouched}
use Rattle.command_coins.specs.Statuses.{IsListed}
use Rattle.command_inputs.specs.Outcome.{plan_of}
use Rattle.command_fund.specs.Jobs.{IsLeft}
use Rattle.command_inputs.specs.Names.{Payment}
use Rattle.command_inputs.specs.Results.{IsFunded, IsNotFunded, IsUnfinished}
use Rattle.command_end.specs.declared.status.Status.{Status}
use Rattle.command_end.specs.declared.status.Status.TheVariants as statuses
use Rattle.command_resume.specs.Resumed as resumed
use Rattle.command_work.specs.Statuses.{IsSummary}
use Rattle.further_commands.specs.Statuses as further
use Rattle.block_feed.specs.Block.{ChainBlock}
use Rattle.wallet_text.specs.PlainWallet.{PlainWallet}
use Rattle.desk_machine.specs.State.{PlainDesk, new_desk}
use Rattle.command_desk.specs.Script.{lines_of}
use Rattle.command_desk.specs.Course.{Course}
use Rattle.command_desk.specs.Starts.{AreInputs}
use Rattle.fund_top.specs.Outcome.{ComesTo, Outcome}
use Rattle.fund_top.specs.Outside.{Outside}
use Rattle.fund_top.specs.Statuses.{GoesOnUninterrupted, WhereChecking, WhereDesk, WhereFunding, WhereFurther, WhereListing, WhereResuming, WhereWorking, status_of}
use Rattle.fund_top.specs.Words.{Command, Coins, Fund, Resume, Check, Work, Desk, Further}

-- the listing is printed whole
abbrev pub Lists : Sources → ShelfView → SinkView → SinkView → Type 0
Lists s shelf sink sink' = (listing : List ℕ) × IsListed (Unit {0}) shelf.files s listing × (sink'.written ≡ sink.written ++ listing)

-- the log is written, and the report of a payment is printed whole
abbrev pub Funds : Sources → Payment → ShelfView → ShelfView → SinkView → SinkView → Type 0
Funds s p shelf shelf' sink sink' =
    (report : List ℕ) × (log : List ℕ) × IsFunded (Unit {0}) shelf.files s p report log × (shelf'.files p.log ≡ log) × (sink'.written ≡ sink.written ++ report)

-- the same of a payment to which a run came that went on from a job
abbrev pub Resumes : Sources → Payment → List ℕ → ShelfView → ShelfView → SinkView → SinkView → KeeperView → Type 0
Resumes s p job shelf shelf' sink sink' keeper =
    (report : List ℕ) × (log : List ℕ) × resumed.IsFunded (Unit {0}) (Unit {0}) shelf.files s p (keeper.jobs job) report log × (shelf'.files p.log ≡ log) × (sink'.written ≡ sink.written ++ report)

-- that a report is accepted, and its first line, are printed whole
abbrev pub Accepts : Sources → Payment → (report : List ℕ) → ShelfView → SinkView → SinkView → Type 0
Accepts s p report shelf sink sink' = (text : List ℕ) × IsVouched (Unit {0}) shelf.files s p report text × (sink'.written ≡ sink.written ++ text)

-- the summary of a run with this status is printed whole
abbrev pub Sums : Status → ℕ → ℕ → SinkView → SinkView → Type 0
Sums status number count sink sink' = (summary : List ℕ) × IsSummary number count status summary × (sink'.written ≡ sink.written ++ summary)

-- to each line of the script its reply is printed whole
abbrev pub Replies : Sources → (script : List ℕ) → ShelfView → SinkView → SinkView → Type 0
Replies s script shelf sink sink' =
    (w : PlainWallet) × (blocks : List ChainBlock) × (printed : List ℕ) × (new : PlainDesk) × AreInputs shelf.files s script w blocks
    × Course shelf.files (lines_of (shelf.files script)) (new_desk (chain_from w blocks)) printed new × (sink'.written ≡ sink.written ++ printed)

-- the log is written, and the report of none is printed whole; or the summary is
abbrev pub FundsNot : Command → ShelfView → ShelfView → SinkView → SinkView → KeeperView → Type 0
FundsNot (Coins s) shelf shelf' sink sink' keeper = ⊥
FundsNot (Fund s p job) shelf shelf' sink sink' keeper =
    (report : List ℕ) × (log : List ℕ) × IsNotFunded (Unit {0}) shelf.files s p report log × (shelf'.files p.log ≡ log) × (sink'.written ≡ sink.written ++ report)
FundsNot (Resume s p job) shelf shelf' sink sink' keeper =
    (report : List ℕ) × (log : List ℕ) × resumed.IsNotFunded (Unit {0}) (Unit {0}) shelf.files s p (keeper.jobs job) report log × (shelf'.files p.log ≡ log) × (sink'.written ≡ sink.written ++ report)
FundsNot (Check s p report) shelf shelf' sink sink' keeper = ⊥
FundsNot (Work number count) shelf shelf' sink sink' keeper = Sums statuses.NoSelection number count sink sink'
FundsNot (Desk s script) shelf shelf' sink sink' keeper = ⊥
FundsNot (Further c) shelf shelf' sink sink' keeper = further.Ends (Unit {0}) (Unit {0}) c shelf shelf' sink sink' statuses.NoSelection

-- no file is written, the run is kept where there is a job, and the report of the open search, or the summary, is printed whole
abbrev pub FundsOpen : Command → ShelfView → ShelfView → SinkView → SinkView → KeeperView → KeeperView → Type 0
FundsOpen (Coins s) shelf shelf' sink sink' keeper keeper' = ⊥
FundsOpen (Fund s p job) shelf shelf' sink sink' keeper keeper' =
    (report : List ℕ) × (u : IsUnfinished (Unit {0}) shelf.files s p report) × (shelf'.files ≡ shelf.files) × (sink'.written ≡ sink.written ++ report)
    × IsLeft (Unit {0}) shelf.files s p (plan_of (chain_from u.wallet u.blocks) u.asked) u.asked.tries job keeper keeper'
FundsOpen (Resume s p job) shelf shelf' sink sink' keeper keeper' =
    (report : List ℕ) × (u : resumed.IsUnfinished (Unit {0}) (Unit {0}) shelf.files s p (keeper.jobs job) report) × (shelf'.files ≡ shelf.files) × (sink'.written ≡ sink.written ++ report)
    × resumed.IsLeftOn (Unit {0}) (Unit {0}) shelf.files s p job report keeper keeper' u
FundsOpen (Check s p report) shelf shelf' sink sink' keeper keeper' = ⊥
FundsOpen (Work number count) shelf shelf' sink sink' keeper keeper' = Sums statuses.Unfinished number count sink sink'
FundsOpen (Desk s script) shelf shelf' sink sink' keeper keeper' = ⊥
FundsOpen (Further c) shelf shelf' sink sink' keeper keeper' = further.Ends (Unit {0}) (Unit {0}) c shelf shelf' sink sink' statuses.Unfinished

-- What is true of a run over files, an output and jobs in memory that never fail.
pub record RunsInMemory (v : Outside) (words : Option Command) (status : Status) : Type 0 where
  -- No read fails.
  pub read : status ≢ statuses.ReadFault
  -- No write fails.
  pub written : status ≢ statuses.WriteFault
  -- No keeping of a job fails.
  pub kept : status ≢ statuses.KeepFault
  -- Done, with a payment: the log is written, and its report is printed whole.
  pub done : status ≡ statuses.Done → WhereFunding words (λ s p. Funds s p v.shelf v.shelf' v.sink v.sink')
  -- Done, where a job was gone on with: the same.
  pub resumed : status ≡ statuses.Done → WhereResuming words (λ s p job. Resumes s p job v.shelf v.shelf' v.sink v.sink' v.keeper)
  -- Done, where coins are listed: the listing is printed whole.
  pub listed : status ≡ statuses.Done → WhereListing words (λ s. Lists s v.shelf v.sink v.sink')
  -- Done, where a report is checked: that it is accepted is printed whole.
  pub accepted : status ≡ statuses.Done → WhereChecking words (λ s p report. Accepts s p report v.shelf v.sink v.sink')
  -- Done, where a script is run at a desk: each reply is printed whole.
  pub replied : status ≡ statuses.Done → WhereDesk words (λ s script. Replies s script v.shelf v.sink v.sink')
  -- Done, where a workload is summed up: the summary is printed whole.
  pub summed : status ≡ statuses.Done → WhereWorking words (λ number count. Sums statuses.Done number count v.sink v.sink')
  -- Done, by a command beside these: what is due is printed whole, and a log that is due is written.
  pub further : status ≡ statuses.Done → WhereFurther words (λ c. further.Ends (Unit {0}) (Unit {0}) c v.shelf v.shelf' v.sink v.sink' statuses.Done)
  -- Unfinished: no file is written, a job is kept, and the report is printed whole.
  pub unfinished : status ≡ statuses.Unfinished → IfSome words (λ c. FundsOpen c v.shelf v.shelf' v.sink v.sink' v.keeper v.keeper')
  -- No selection: the log is written, and the report is printed whole.
  pub none : status ≡ statuses.NoSelection → IfSome words (λ c. FundsNot c v.shelf v.shelf' v.sink v.sink' v.keeper)
  -- Going on gives the answer of a run without a stop.
  pub uninterrupted : WhereResuming words (λ s p job. GoesOnUninterrupted s p job v.shelf v.shelf' v.sink v.sink' v.keeper v.keeper' status)
  -- The status is that of what the files and the job come to, or out of memory.
  pub complete : IfSome words (λ c. (due : Outcome) → ComesTo v.shelf.files v.keeper.jobs c due → (status ≡ status_of due) ⊎ (status ≡ statuses.Memory))

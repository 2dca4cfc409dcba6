-- The run of a command over files with a request beside them.
use Rattle.std.specs.Prelude.{ℕ, Bool, false, ◌≡◌, ◌≢◌, ◌⊎◌, ◌↔◌, List, [], codes, None}
use Rattle.fund_shelf.specs.Causes.{Rose, SameElsewhere, ShelfView, SinkView}
use Rattle.fund_outside.specs.Kept.{KeeperView}
use Rattle.command_end.specs.Lines.{GotLine, fault_line}
use Rattle.command_end.specs.Printed.{TellsWhole, TookAll}
use Rattle.command_end.specs.declared.status.Status.{Status}
use Rattle.command_end.specs.declared.status.Status.TheVariants as statuses
use Rattle.command_inputs.specs.Results.{IsBeforeTheLog}
use Rattle.fund_top.specs.Asked.{AsksFor}
use Rattle.fund_top.specs.Outcome.{ComesTo, IsRefusal, IsTold, Outcome}
use Rattle.fund_top.specs.Statuses.{Ends, EndsUnwritten, KeepsOthers, NoneFailed, NoneUnkept, NoneUnread, status_of}
use Rattle.fund_top.specs.Words.{Command}
use Rattle.held_run.specs.Held.{IsBeside, held_view, log_name}

-- the files as they are, and beside them this request and an empty log
abbrev pub beside : ShelfView → (request : List ℕ) → ShelfView
beside files request = held_view files request [] []

-- a sink in which nothing is written
abbrev pub empty_sink : SinkView
empty_sink = record { written = []; faults = 0; refusals = 0 }

-- a keeper of no jobs
abbrev pub no_jobs : KeeperView
no_jobs = record { jobs = λ _. None; faults = 0 }

-- A command that writes no file but one by the name of the log that is held: it leaves each other file as it was; and where a
-- write of it failed, the writing of that log did, or the output.
pub record WritesHeld (told : Type 0) (c : Command) : Type 0 where
  pub others : (before now : List ℕ → List ℕ) → KeepsOthers c before now → SameElsewhere log_name before now
  pub causes : (shelf shelf' : ShelfView) (sink sink' : SinkView) (keeper keeper' : KeeperView) → EndsUnwritten told (Unit {0}) (Unit {0}) c shelf shelf' sink sink' keeper keeper'
      → Rose (shelf.writes log_name) (shelf'.writes log_name) ⊎ Rose sink.faults sink'.faults

-- A run of this command, whose words are one where its names stand, over the files with one more: the request. It had this status,
-- these bytes were printed, and this is the log that it left. All that is promised of that command is true of it: how it ends by its
-- status, what it asks for, and which status is due. Its log and what it prints are held in memory, so that no write of it fails, and
-- no job is kept, so that no keeper does. What it left of the files is what they are afterwards: a count of failed reads that rose is
-- one of theirs.
pub record IsRunOf (told : Type 0) (stands : Bool) (c : Command) (request : List ℕ) (files after : ShelfView) (status : Status) (said log : List ℕ) : Type 0 where
  pub shelf : ShelfView
  pub sink : SinkView
  pub keeper : KeeperView
  pub left : IsBeside after shelf
  pub usage : (status ≡ statuses.Usage) ↔ (stands ≡ false)
  pub usage_line : status ≡ statuses.Usage → GotLine (fault_line (codes "usage")) empty_sink sink
  pub ends : status ≢ statuses.Usage → Ends told (Unit {0}) (Unit {0}) c (beside files request) shelf empty_sink sink no_jobs keeper status
  pub asked : status ≢ statuses.Usage → told → AsksFor c (beside files request) shelf
  pub refused : status ≢ statuses.Usage → told → NoneUnread c (beside files request) shelf → (due : Outcome) → IsRefusal due → NoneUnkept (Unit {0}) due no_jobs keeper → ComesTo (beside files request).files no_jobs.jobs c due → (status ≡ status_of due) ⊎ (status ≡ statuses.Memory)
  pub complete : status ≢ statuses.Usage → IsTold told (Unit {0}) c → NoneFailed c (beside files request) shelf empty_sink sink no_jobs keeper → (due : Outcome) → ComesTo (beside files request).files no_jobs.jobs c due → (status ≡ status_of due) ⊎ (status ≡ statuses.Memory)
  pub untouched : status ≡ statuses.Usage → shelf ≡ beside files request
  pub others : status ≢ statuses.Usage → told → KeepsOthers c (beside files request).files shelf.files
  pub kept : told → IsBeforeTheLog status → shelf.files ≡ (beside files request).files
  pub all_read : status ≢ statuses.ReadFault → shelf.reads ≡ (beside files request).reads
  pub none_unwritten : status ≢ statuses.WriteFault
  pub all_written : shelf.writes ≡ (beside files request).writes
  pub all_put : TellsWhole status → TookAll empty_sink sink
  pub sink_sound : sink.faults ≡ 0
  pub keeper_sound : keeper.faults ≡ 0
  pub said_is : said ≡ sink.written
  pub log_is : log ≡ shelf.files log_name

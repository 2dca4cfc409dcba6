-- What a command on bytes comes to: all that is promised of the command, in terms of the bytes that went in and came out.
use Rattle.std.specs.Prelude.{ℕ, ◌≡◌, ◌≢◌, List, [], Option, IfSome}
use Rattle.fund_shelf.specs.Causes.{ShelfView, SinkView}
use Rattle.fund_outside.specs.Kept.{KeeperView}
use Rattle.packed_jobs.specs.Packed.{packed_if}
use Rattle.command_end.specs.declared.status.Status.{Status}
use Rattle.command_end.specs.declared.status.Status.TheVariants as statuses
use Rattle.fund_top.specs.InMemory.{RunsInMemory}
use Rattle.fund_top.specs.Outcome.{ComesTo, Outcome}
use Rattle.fund_top.specs.Outside.{Outside, in_memory}
use Rattle.fund_top.specs.Run.{EndsByStatus, LeavesOthers, ReadsInOrder, RefusesFirst, TellsFailures, TellsUsage}
use Rattle.fund_top.specs.Statuses.{status_of}
use Rattle.fund_top.specs.Words.{Command}
use Rattle.fund_calls.specs.Given.{IsKeptIn, PlainGiven, empty_sink, shelf_of}
use Rattle.fund_calls.specs.Names.{job_name, log_name}
use Rattle.fund_calls.specs.declared.answer.Answer.{Answer}

-- All that is promised of a run over files, an output and jobs in memory that never fail.
pub record Promises (v : Outside) (words : Option Command) (status : Status) : Type 0 where
  pub memory : RunsInMemory v words status
  pub usage : TellsUsage v words status
  pub ends : EndsByStatus v words status
  pub honest : TellsFailures v status
  pub stays : LeavesOthers v words status
  pub reads : ReadsInOrder v words
  pub refused : RefusesFirst v words status

-- The words were done on the files that were given, with a keeper of the job that was given, and came to this status, which isn't
-- out of memory. These bytes were printed, this is the log that it left, and where it is unfinished this is the job that is kept,
-- packed; otherwise no job is told. All that is promised of a run in memory is true of it, the status is the one that is due, and
-- the output got whole what was put.
pub record IsCall (words : Option Command) (g : PlainGiven) (job : Option (List ℕ)) (status : Status) (printed log kept : List ℕ) : Type 0 where
  pub before : KeeperView
  pub given : IsKeptIn job before.jobs
  pub shelf : ShelfView
  pub sink : SinkView
  pub after : KeeperView
  pub promises : Promises (in_memory (shelf_of g) shelf empty_sink sink before after) words status
  pub unfailed : sink.faults ≡ 0
  pub whole : sink.refusals ≡ 0
  pub printed_is : printed ≡ sink.written
  pub log_is : log ≡ shelf.files log_name
  pub kept_is : status ≡ statuses.Unfinished → kept ≡ packed_if (after.jobs job_name)
  pub none_kept : status ≢ statuses.Unfinished → kept ≡ []
  pub remembered : status ≢ statuses.Memory
  pub due : IfSome words (λ c. (due : Outcome) → ComesTo (shelf_of g).files before.jobs c due → status ≡ status_of due)

-- The same of an answer.
abbrev pub Answers : Option Command → PlainGiven → Option (List ℕ) → Answer → Type 0
Answers words g job a = IsCall words g job a.status a.printed.items a.log.items a.job.items

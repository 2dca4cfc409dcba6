-- What is promised of a run in memory is true of a call.
use Rattle.std.proofs.Common.{◌≡◌, ℕ, List, [], Option, Some, None, IfSome, inl, inr, sym, subst}
use Rattle.std.specs.Prelude.{◌≢◌, ◌⊎◌}
use Rattle.fund_shelf.specs.Causes.{ShelfView, SinkView}
use Rattle.fund_outside.specs.Kept.{KeeperView, KeptJob}
use Rattle.packed_jobs.specs.Packed.{packed_if}
use Rattle.command_end.specs.declared.status.Status.{Status}
use Rattle.command_end.specs.declared.status.Status.TheVariants as statuses
use Rattle.fund_top.specs.Outcome.{ComesTo, Outcome}
use Rattle.fund_top.specs.Outside.{in_memory}
use Rattle.fund_top.specs.Statuses.{status_of}
use Rattle.fund_top.specs.Words.{Command}
use Rattle.fund_calls.specs.Call.{Answers, IsCall, Promises}
use Rattle.fund_calls.specs.Given.{IsKeptIn, IsNoJob, PlainGiven, empty_sink, shelf_of}
use Rattle.fund_calls.specs.Names.{job_name, log_name}
use Rattle.fund_calls.specs.declared.answer.Answer.{Answer}

-- a packed job that is given, and kept, is one
pub given_is_job : (job : Option (List ℕ)) (jobs : List ℕ → Option KeptJob) → IsKeptIn job jobs → IsNoJob job → ⊥
given_is_job None jobs given h = h
given_is_job (Some bytes) jobs given h = h (record { job = given.0; fits = given.1; is = given.2 })

-- the status is due, since it isn't out of memory
due_alone : (o : Option Command) (files : List ℕ → List ℕ) (keeper : KeeperView) (status : Status) → status ≢ statuses.Memory
    → IfSome o (λ c. (due : Outcome) → ComesTo files keeper.jobs c due → (status ≡ status_of due) ⊎ (status ≡ statuses.Memory)) → IfSome o (λ c. (due : Outcome) → ComesTo files keeper.jobs c due → status ≡ status_of due)
due_alone None files keeper status remembered h = tt
due_alone (Some c) files keeper status remembered h = λ due comes. elim (h due comes) [ inl is ↦ is | inr short ↦ absurd (remembered short) ]

-- A run that was told: of these views, with memory for all that it printed.
pub record IsRun (o : Option Command) (g : PlainGiven) (job : Option (List ℕ)) (status : Status) (printed log : List ℕ) (after : KeeperView) : Type 0 where
  pub before : KeeperView
  pub given : IsKeptIn job before.jobs
  pub shelf : ShelfView
  pub sink : SinkView
  pub promises : Promises (in_memory (shelf_of g) shelf empty_sink sink before after) o status
  pub unfailed : sink.faults ≡ 0
  pub whole : sink.refusals ≡ 0
  pub printed_is : printed ≡ sink.written
  pub log_is : log ≡ shelf.files log_name

pub is_run : (o : Option Command) (g : PlainGiven) (job : Option (List ℕ)) (shelf shelf' : ShelfView) (sink sink' : SinkView) (keeper keeper' : KeeperView) (status : Status) (printed log : List ℕ)
    → Promises (in_memory shelf shelf' sink sink' keeper keeper') o status → shelf ≡ shelf_of g → sink ≡ empty_sink → IsKeptIn job keeper.jobs → sink'.faults ≡ 0 → sink'.refusals ≡ 0 → printed ≡ sink'.written → log ≡ shelf'.files log_name
    → IsRun o g job status printed log keeper'
is_run o g job shelf shelf' sink sink' keeper keeper' status printed log promises shelf_is sink_is given unfailed whole printed_is log_is =
    let by_shelf : Promises (in_memory (shelf_of g) shelf' sink sink' keeper keeper') o status = subst (λ (x : ShelfView). Promises (in_memory x shelf' sink sink' keeper keeper') o status) shelf_is promises in
    record {
      before = keeper;
      given = given;
      shelf = shelf';
      sink = sink';
      promises = subst (λ (x : SinkView). Promises (in_memory (shelf_of g) shelf' x sink' keeper keeper') o status) sink_is by_shelf;
      unfailed = unfailed;
      whole = whole;
      printed_is = printed_is;
      log_is = log_is;
    }

-- the call of a run that isn't out of memory, of which this job is told
pub is_call : (o : Option Command) (g : PlainGiven) (job : Option (List ℕ)) (status : Status) (printed log kept : List ℕ) (after : KeeperView) → IsRun o g job status printed log after → status ≢ statuses.Memory
    → (status ≡ statuses.Unfinished → kept ≡ packed_if (after.jobs job_name)) → (status ≢ statuses.Unfinished → kept ≡ []) → IsCall o g job status printed log kept
is_call o g job status printed log kept after run remembered kept_is none_kept = record {
  before = run.before;
  given = run.given;
  shelf = run.shelf;
  sink = run.sink;
  after = after;
  promises = run.promises;
  unfailed = run.unfailed;
  whole = run.whole;
  printed_is = run.printed_is;
  log_is = run.log_is;
  kept_is = kept_is;
  none_kept = none_kept;
  remembered = remembered;
  due = due_alone o (shelf_of g).files run.before status remembered run.promises.memory.complete;
}

-- the same of an answer that has this status, what was printed, and the log
pub answers : (o : Option Command) (g : PlainGiven) (job : Option (List ℕ)) (status : Status) (printed log : List ℕ) (after : KeeperView) (a : Answer) → IsRun o g job status printed log after → a.status ≡ status → a.printed.items ≡ printed → a.log.items ≡ log → status ≢ statuses.Memory
    → (status ≡ statuses.Unfinished → a.job.items ≡ packed_if (after.jobs job_name)) → (status ≢ statuses.Unfinished → a.job.items ≡ []) → Answers o g job a
answers o g job status printed log after a run status_is printed_is log_is remembered kept_is none_kept =
    let call : IsCall o g job status printed log a.job.items = is_call o g job status printed log a.job.items after run remembered kept_is none_kept in
    let by_log : IsCall o g job status printed a.log.items a.job.items = subst (λ (x : List ℕ). IsCall o g job status printed x a.job.items) (sym log_is) call in
    let by_printed : IsCall o g job status a.printed.items a.log.items a.job.items = subst (λ (x : List ℕ). IsCall o g job status x a.log.items a.job.items) (sym printed_is) by_log in
    subst (λ (x : Status). IsCall o g job x a.printed.items a.log.items a.job.items) (sym status_is) by_printed

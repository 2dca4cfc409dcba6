-- What a call on a desk does: a step of the machine, or, where it ran out of memory, a part of one.
use Rattle.std.specs.Prelude.{ℕ, ◌≡◌, ◌<◌, ◌%◌, ◌⊎◌, false, List, Option, Some, None, length, take}
use Rattle.fund_plan.specs.Selection.{PlainFunded}
use Rattle.fund_plan.specs.State.{IsCutShort}
use Rattle.desk_machine.specs.Commands.{Command, Open, Turn, Commit, Close, Release, Blocks, Pending}
use Rattle.desk_machine.specs.Machine.{Step, add_blocks, funded_of, records_at, step_of, with_jobs}
use Rattle.desk_machine.specs.Replies.{Reply, NoMemory}
use Rattle.desk_machine.specs.State.{Job, PlainDesk, has_job, job_at, put_job}

-- the machine's reply, and its next state
pub record IsStep (s : Step) (reply : Reply) (new : PlainDesk) : Type 0 where
  pub reply_is : reply ≡ s.reply
  pub next_is : new ≡ s.next

-- A job whose turn ran out of memory: its plan stands where some of the tries lead, and the answer of its last turn stays.
pub record IsLagging (old : Job) (tries : ℕ) (new : Job) : Type 0 where
  pub name : new.name ≡ old.name
  pub state : IsCutShort old.state tries new.state
  pub answer : new.answer ≡ old.answer

-- where the jobs are left by such a turn of the one that was found
abbrev pub LeavesJobs : List Job → List ℕ → ℕ → Option Job → List Job → Type 0
LeavesJobs jobs name n None new = new ≡ jobs
LeavesJobs jobs name n (Some j) new = (k : Job) × IsLagging j n k × (new ≡ put_job name k jobs)

-- Where a command is left that ran out of memory: a turn as above; blocks with some of them added; every other with the
-- desk as before.
abbrev pub Leaves : PlainDesk → Command → PlainDesk → Type 0
Leaves d (Open name request) new = new ≡ d
Leaves d (Turn name n) new = (jobs : List Job) × LeavesJobs d.jobs name n (job_at d.jobs name) jobs × (new ≡ with_jobs d jobs)
Leaves d (Commit name) new = new ≡ d
Leaves d (Close name) new = new ≡ d
Leaves d (Release txid) new = new ≡ d
Leaves d (Blocks bytes) new = (n : ℕ) × (new ≡ record { held = (add_blocks d.held (take n (records_at d.held bytes).blocks) None).held; committed = d.committed; jobs = d.jobs })
Leaves d (Pending hex) new = new ≡ d

-- Which commands take memory, and where: an open of a name that no open job has, where fewer than 64 are open; a turn of a job
-- that is open; a commit of a job whose last turn came to a payment; blocks; and a transaction whose hex digits are of an even
-- number. Closing a job and releasing a payment take none.
abbrev pub TakesMemory : PlainDesk → Command → Type 0
TakesMemory d (Open name request) = (has_job d.jobs name ≡ false) × (length d.jobs < 64)
TakesMemory d (Turn name n) = (j : Job) × (job_at d.jobs name ≡ Some j)
TakesMemory d (Commit name) = (j : Job) × (f : PlainFunded) × (job_at d.jobs name ≡ Some j) × (funded_of j.answer ≡ Some f)
TakesMemory d (Close name) = ⊥
TakesMemory d (Release txid) = ⊥
TakesMemory d (Blocks bytes) = Unit {0}
TakesMemory d (Pending hex) = (length hex % 2 ≡ 1) → ⊥

-- a call that ran out of memory
pub record IsShort (d : PlainDesk) (c : Command) (reply : Reply) (new : PlainDesk) : Type 0 where
  pub reply_is : reply ≡ NoMemory
  pub takes : TakesMemory d c
  pub leaves : Leaves d c new

-- what a call does
abbrev pub Does : PlainDesk → Command → Reply → PlainDesk → Type 0
Does d c reply new = IsStep (step_of d c) reply new ⊎ IsShort d c reply new

-- What is claimed of each job stays so through all commands.
use Rattle.std.specs.Prelude.{ℕ, ◌≡◌, List, [], ◌∷◌, All, Bool, true, false, not, Option, None, Some, Result, Ok, Err, length, nat_le}
use Rattle.std.specs.List.{list_any}
use Rattle.std.proofs.Common.{refl, sym, ap, subst, inl, inr, cond}
use Rattle.std.proofs.lemmas.List.Elements.{All-cons, All-filter, All-head, All-push, All-tail}
use Rattle.fund_base.specs.Cursor.{IsBytes}
use Rattle.coin_candidates.specs.declared.candidate.Candidate.{Candidate}
use Rattle.fund_plan.specs.Selection.{PlainFunded}
use Rattle.fund_plan.specs.Steps.{steps_of}
use Rattle.fund_steps.specs.Plan.{IsPlan, PlainPlan}
use Rattle.payment_states.proofs.MakerSteps.{found}
use Rattle.search_run.specs.Step.{AreSteps}
use Rattle.desk_machine.specs.Commands.{Command, Open, Turn, Commit, Close, Release, Blocks, Pending}
use Rattle.desk_machine.specs.Does.{Does, LeavesJobs}
use Rattle.desk_machine.specs.Machine.{by_funded, by_plan, by_taken, close_step, commit_by, commit_step, funded_of, has_txid, jobs_in, open_step, plan_for, release_step, stay, taken_at, turn_step, with_committed, with_jobs, without_payment}
use Rattle.desk_machine.specs.Replies.{Reply, Refusal, AllOpen, Closed, NoJob, NotCommitted, Released, TakenName}
use Rattle.desk_machine.specs.State.{Job, PlainDesk, has_job, is_named, job_at, new_job, put_job, without_job}
use Rattle.desk_machine.specs.Turns.{turned}
use Rattle.desk_laws.proofs.StandLaws.{lagging_claimed, new_claimed, turned_claimed}
use Rattle.desk_laws.specs.Claimed.{HasBytes, IsClaimed}

-- ---- lists

put_all : (P : Job → Type 0) (name : List ℕ) (y : Job) (jobs : List Job) → P y → All P jobs → All P (put_job name y jobs)
put_all P name y [] it h = h
put_all P name y (j ∷ rest) it h = by (is_named name j) (put_all P name y rest it (All-tail P j rest h))
  where
    by : (b : Bool) → All P (put_job name y rest) → All P (cond b (y ∷ rest) (j ∷ put_job name y rest))
    by true more = All-cons P y rest it (All-tail P j rest h)
    by false more = All-cons P j (put_job name y rest) (All-head P j rest h) more

at_all : (P : Job → Type 0) (name : List ℕ) (jobs : List Job) (j : Job) → All P jobs → job_at jobs name ≡ Some j → P j
at_all P name jobs j h at = (found P (is_named name) jobs j h at).1

-- ---- one command

-- the plan of a job that is opened keeps its rules, and its steps theirs
abbrev pub OpensWell : PlainDesk → List ℕ → Type 0
OpensWell d request = (p : PlainPlan) → plan_for d request ≡ Ok p → IsPlan p × AreSteps (steps_of p)

open_claimed : (d : PlainDesk) (name request : List ℕ) → OpensWell d request → All IsClaimed d.jobs → All IsClaimed (open_step d name request).next.jobs
unfolding open_step
open_claimed d name request well h = by (has_job d.jobs name) (nat_le 64 (length d.jobs)) (plan_for d request) refl
  where
    by : (a b : Bool) (p : Result PlainPlan Refusal) → plan_for d request ≡ p → All IsClaimed (cond a (stay d TakenName) (cond b (stay d AllOpen) (by_plan d name p))).next.jobs
    by true b p is = h
    by false true p is = h
    by false false (Err refusal) is = h
    by false false (Ok p) is = let w = well p is in All-push IsClaimed d.jobs (new_job name p) h (new_claimed name p w.0 w.1)

turn_claimed : (d : PlainDesk) (name : List ℕ) (n : ℕ) → All IsClaimed d.jobs → All IsClaimed (turn_step d name n).next.jobs
unfolding turn_step
turn_claimed d name n h = by (job_at d.jobs name) refl
  where
    by : (o : Option Job) → job_at d.jobs name ≡ o → All IsClaimed (jobs_in d.jobs name n o)
    by None at = h
    by (Some j) at = put_all IsClaimed name (turned j n) d.jobs (turned_claimed j n (at_all IsClaimed name d.jobs j h at)) h

left_claimed : (jobs new : List Job) (name : List ℕ) (n : ℕ) → LeavesJobs jobs name n (job_at jobs name) new → All IsClaimed jobs → All IsClaimed new
left_claimed jobs new name n left h = by (job_at jobs name) refl left
  where
    by : (o : Option Job) → job_at jobs name ≡ o → LeavesJobs jobs name n o new → All IsClaimed new
    by None at is = subst (All IsClaimed) (sym is) h
    by (Some j) at is = subst (All IsClaimed) (sym is.2) (put_all IsClaimed name is.0 jobs (lagging_claimed j is.0 n (at_all IsClaimed name jobs j h at) is.1) h)

fewer : (name : List ℕ) (jobs : List Job) → All IsClaimed jobs → All IsClaimed (without_job name jobs)
fewer name jobs h = All-filter (λ (j : Job). not (is_named name j)) IsClaimed jobs h

commit_claimed : (d : PlainDesk) (name : List ℕ) → All IsClaimed d.jobs → All IsClaimed (commit_step d name).next.jobs
unfolding commit_step
commit_claimed d name h = by_job (job_at d.jobs name)
  where
    by_coin : (i : Job) (f : PlainFunded) (o : Option Candidate) → All IsClaimed (by_taken d name i f o).next.jobs
    by_coin i f (Some c) = h
    by_coin i f None = fewer name d.jobs h

    by_payment : (i : Job) (o : Option PlainFunded) → All IsClaimed (by_funded d name i o).next.jobs
    by_payment i None = h
    by_payment i (Some f) = by_coin i f (taken_at d i f)

    by_job : (o : Option Job) → All IsClaimed (commit_by d name o).next.jobs
    by_job None = h
    by_job (Some i) = by_payment i (funded_of i.answer)

close_claimed : (d : PlainDesk) (name : List ℕ) → All IsClaimed d.jobs → All IsClaimed (close_step d name).next.jobs
unfolding close_step
close_claimed d name h = by (has_job d.jobs name)
  where
    by : (b : Bool) → All IsClaimed (cond b (record { reply = Closed; next = with_jobs d (without_job name d.jobs) }) (stay d NoJob)).next.jobs
    by true = fewer name d.jobs h
    by false = h

release_claimed : (d : PlainDesk) (txid : List ℕ) → All IsClaimed d.jobs → All IsClaimed (release_step d txid).next.jobs
unfolding release_step
release_claimed d txid h = by (list_any (has_txid txid) d.committed)
  where
    by : (b : Bool) → All IsClaimed (cond b (record { reply = Released; next = with_committed d (without_payment txid d.committed) }) (stay d NotCommitted)).next.jobs
    by true = h
    by false = h

pub one_claimed : (d new : PlainDesk) (c : Command) (reply : Reply) → Does d c reply new → HasBytes c → ((request : List ℕ) → IsBytes request → OpensWell d request) → All IsClaimed d.jobs → All IsClaimed new.jobs
one_claimed d new c reply does bytes well h = by c does bytes
  where
    from : (jobs : List Job) → new.jobs ≡ jobs → All IsClaimed jobs → All IsClaimed new.jobs
    from jobs is there = subst (All IsClaimed) (sym is) there

    jobs : PlainDesk → List Job
    jobs x = x.jobs

    by : (c : Command) → Does d c reply new → HasBytes c → All IsClaimed new.jobs
    by (Open name request) (inl k) b = from _ (ap jobs k.next_is) (open_claimed d name request (well request b) h)
    by (Open name request) (inr k) b = from _ (ap jobs k.leaves) h
    by (Turn name n) (inl k) b = from _ (ap jobs k.next_is) (turn_claimed d name n h)
    by (Turn name n) (inr k) b = from _ (ap jobs k.leaves.2) (left_claimed d.jobs k.leaves.0 name n k.leaves.1 h)
    by (Commit name) (inl k) b = from _ (ap jobs k.next_is) (commit_claimed d name h)
    by (Commit name) (inr k) b = from _ (ap jobs k.leaves) h
    by (Close name) (inl k) b = from _ (ap jobs k.next_is) (close_claimed d name h)
    by (Close name) (inr k) b = from _ (ap jobs k.leaves) h
    by (Release txid) (inl k) b = from _ (ap jobs k.next_is) (release_claimed d txid h)
    by (Release txid) (inr k) b = from _ (ap jobs k.leaves) h
    by (Blocks file) (inl k) b = from _ (ap jobs k.next_is) h
    by (Blocks file) (inr k) b = from _ (ap jobs k.leaves.1) h
    by (Pending hex) (inl k) b = from _ (ap jobs k.next_is) h
    by (Pending hex) (inr k) b = from _ (ap jobs k.leaves) h

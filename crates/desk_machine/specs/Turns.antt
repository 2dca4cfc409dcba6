-- The turns of a job.
use Rattle.std.specs.Prelude.{ℕ, ◌+◌, ◌&&◌, Bool, true, false, nat_le, Some, if◌then◌else◌}
use Rattle.fund_plan.specs.Outcome.{most_tries, outcome_at, tries_at}
use Rattle.fund_plan.specs.State.{PlanState, moved, told}
use Rattle.fund_plan.specs.declared.outcome.Outcome.{Outcome}
use Rattle.fund_plan.specs.declared.outcome.Outcome.TheVariants as answers
use Rattle.fund_steps.specs.Plan.{PlainPlan}
use Rattle.desk_machine.specs.Replies.{Reply, Spent, Unfinished, NoSelection, Funded}
use Rattle.desk_machine.specs.State.{Job}

abbrev pub is_unfinished : Outcome → Bool
is_unfinished answers.Unfinished = true
is_unfinished answers.NoSelection = false
is_unfinished (answers.Funded f) = false

-- what is replied to an outcome after so many tries
abbrev pub by_outcome : ℕ → Outcome → Reply
by_outcome tries answers.Unfinished = Unfinished tries
by_outcome tries answers.NoSelection = NoSelection tries
by_outcome tries (answers.Funded f) = Funded f.mark tries

-- ---- a job where it stands

-- it has no tries left, and is unfinished
abbrev pub is_spent : PlanState → ℕ → Bool
is_spent s n = nat_le most_tries s.stand.past.tries && is_unfinished (told (moved s n))

-- what is replied to a turn of so many tries
abbrev pub turn_reply : PlanState → ℕ → Reply
turn_reply s n = if is_spent s n then Spent else by_outcome (moved s n).stand.past.tries (told (moved s n))

-- the job behind that turn; the answer of one that is spent stays
abbrev pub turned : Job → ℕ → Job
turned j n = record {
  name = j.name;
  state = moved j.state n;
  answer = if is_spent j.state n then j.answer else Some (told (moved j.state n));
}

-- ---- the run of a plan

-- What is replied to a turn of m tries behind n tries, by the run of the plan with so many tries from its beginning.
abbrev pub run_reply : PlainPlan → (n m : ℕ) → Reply
run_reply p n m =
    if nat_le most_tries (tries_at p n) && is_unfinished (outcome_at p (n + m)) then Spent else by_outcome (tries_at p (n + m)) (outcome_at p (n + m))

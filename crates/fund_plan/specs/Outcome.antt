-- What a plan comes to.
use Rattle.std.specs.Prelude.{ℕ, ◌≡◌, min, Bool, true, false, Option, Some, None, if◌then◌else◌}
use Rattle.closing_log.specs.Log.{PlainLog}
use Rattle.closing_log.specs.declared.mark.Mark.TheVariants as mark
use Rattle.search_run.specs.Answer.{IsAnswer}
use Rattle.search_run.specs.Found.{PlainFound}
use Rattle.search_run.specs.Kept.{log_of}
use Rattle.search_run.specs.Run.{Stand, beginning, end_of, go_on}
use Rattle.search_run.specs.declared.ending.End.{End}
use Rattle.search_run.specs.declared.ending.End.TheVariants as ends
use Rattle.fund_steps.specs.Listed.{burden_in, presets_in}
use Rattle.fund_steps.specs.Plan.{PlainPlan}
use Rattle.fund_steps.specs.Presets.{presets_of}
use Rattle.fund_plan.specs.Steps.{is_given, steps_of}
use Rattle.fund_steps.specs.Terms.{load_of, rates_of}
use Rattle.fund_steps.specs.declared.presets.Presets.{Presets}
use Rattle.fund_steps.specs.declared.presets.Presets.TheVariants.{Short, Plain, Change}
use Rattle.fund_plan.specs.Answer.{given_from}
use Rattle.fund_plan.specs.Chosen.{funded_at, mark_of}
use Rattle.fund_plan.specs.declared.outcome.Outcome.{Outcome}
use Rattle.fund_plan.specs.declared.outcome.Outcome.TheVariants.{Funded, NoSelection, Unfinished}

-- ---- the presets alone

-- by how they pay
abbrev pub by_presets : PlainPlan → Presets → Outcome
by_presets p Short = NoSelection
by_presets p Plain = Funded (given_from p (presets_in p) None)
by_presets p (Change amount) = Funded (given_from p (presets_in p) (Some amount))

unfoldable pub given_of : PlainPlan → Outcome
given_of p = by_presets p (presets_of (rates_of p.request) (load_of p.request p.change (presets_in p) (burden_in p)))

-- ---- a run

-- What an end of the run comes to. Where the presets pay for all that is needed there is nothing to search for, and they
-- alone are what there is. Otherwise a result that was taken is a payment, and where none was there is no selection.
abbrev pub by_end : PlainPlan → End → Outcome
by_end p (ends.Ended None) = if is_given p then given_of p else NoSelection
by_end p (ends.Ended (Some f)) = Funded (funded_at p (mark_of f.stage) f)
by_end p (ends.Partial f) = Funded (funded_at p mark.Partial f)
by_end p ends.Unfinished = Unfinished

-- where the run of a plan begins
abbrev pub beginning_of : PlainPlan → Stand
beginning_of p = beginning p.request.seed (steps_of p)

-- where it leads from a stand with so many tries more
abbrev pub led : PlainPlan → Stand → ℕ → Stand
led p s n = go_on p.request.seed s n

-- what it comes to at a stand
abbrev pub end_at : PlainPlan → Stand → End
end_at p s = end_of p.request.take p.request.seed s

-- ---- a plan and a number of tries

-- all runs of a plan together make at most 10,000,000 tries
abbrev pub most_tries : ℕ
most_tries = 10_000_000

-- where the run of a new plan stands after these tries
abbrev pub stand_after : PlainPlan → ℕ → Stand
stand_after p n = led p (beginning_of p) (min n most_tries)

unfoldable pub outcome_at : PlainPlan → ℕ → Outcome
outcome_at p n = by_end p (end_at p (stand_after p n))

unfoldable pub tries_at : PlainPlan → ℕ → ℕ
tries_at p n = (stand_after p n).past.tries

-- a result was taken for want of tries
abbrev pub is_partial : End → Bool
is_partial (ends.Partial f) = true
is_partial _ = false

unfoldable pub log_at : PlainPlan → ℕ → PlainLog
log_at p n = log_of (is_partial (end_at p (stand_after p n))) (stand_after p n)

-- ---- the answer

-- The answer of a plan, of all that there is to find: the result that is taken of its first column that has one, as a
-- payment; or where no step has one, the presets alone, where they pay. It knows no tries.
pub record IsAnswerOf (p : PlainPlan) (o : Outcome) : Type 0 where
  pub found : Option PlainFound
  pub answer : IsAnswer p.request.seed (steps_of p) found
  pub is : o ≡ by_end p (ends.Ended found)

-- Plans that go on.
use Rattle.std.specs.Prelude.{ℕ, ◌≡◌, ◌≤◌, ◌⊎◌, ◌+◌, ◌-◌, min, List, [], ◌∷◌, Option, Some, None}
use Rattle.search_run.specs.Found.{PlainFound}
use Rattle.search_run.specs.Leads.{Leads}
use Rattle.search_run.specs.Run.{Stand, go_on}
use Rattle.search_run.specs.Runs.{PlainRun}
use Rattle.search_run.specs.Step.{PlainStep}
use Rattle.search_run.specs.declared.ending.End.{End}
use Rattle.search_run.specs.declared.ending.End.TheVariants as ends
use Rattle.fund_steps.specs.Plan.{PlainPlan}
use Rattle.fund_plan.specs.Outcome.{by_end, end_at, led, most_tries}
use Rattle.fund_plan.specs.declared.outcome.Place.{Place}
use Rattle.fund_plan.specs.declared.outcome.Outcome.{Outcome}

-- what it was made from, where its run stands, and the result that was taken for want of tries, if one was
pub record PlanState : Type 0 where
  pub plan : PlainPlan
  pub stand : Stand
  pub partial : Option PlainFound

-- of these tries, those that are left to it: all its runs together make at most 10,000,000
abbrev pub granted : PlanState → ℕ → ℕ
granted s budget = min budget (most_tries - s.stand.past.tries)

-- the result that an end takes for want of tries
abbrev pub partial_of : End → Option PlainFound
partial_of (ends.Partial f) = Some f
partial_of _ = None

-- where it stands after so many tries more; a result that was taken for want of tries has finished it
abbrev pub moved_by : PlanState → Option PlainFound → ℕ → PlanState
moved_by s (Some f) budget = s
moved_by s None budget = record {
  plan = s.plan;
  stand = led s.plan s.stand (granted s budget);
  partial = partial_of (end_at s.plan (led s.plan s.stand (granted s budget)));
}

abbrev pub moved : PlanState → ℕ → PlanState
moved s budget = moved_by s s.partial budget

-- how it ends where it stands
abbrev pub end_by : PlanState → Option PlainFound → End
end_by s (Some f) = ends.Partial f
end_by s None = end_at s.plan s.stand

abbrev pub end_in : PlanState → End
end_in s = end_by s s.partial

-- what it comes to where it stands
abbrev pub told : PlanState → Outcome
told s = by_end s.plan (end_in s)

-- Where it is left by a call that ran out of memory: it is the same plan, and its run stands where some of the tries lead,
-- or where all of them do. One of which a result was taken stays where it stands.
pub record IsCutShort (old : PlanState) (budget : ℕ) (new : PlanState) : Type 0 where
  pub plan : new.plan ≡ old.plan
  pub partial : new.partial ≡ old.partial
  pub stand : ((k : ℕ) × (k ≤ granted old budget) × Leads old.plan.request.seed old.stand k new.stand) ⊎ (new.stand ≡ led old.plan old.stand (granted old budget))
  pub taken : (f : PlainFound) → old.partial ≡ Some f → new.stand ≡ old.stand

-- Some of the tries were made, and from there it goes on as after them.
pub record GoesOnFrom (old : PlanState) (n : ℕ) (new : PlanState) : Type 0 where
  pub made : ℕ
  pub most : made ≤ granted old n
  pub goes : (m : ℕ) → moved new m ≡ moved old (made + m)

-- the run of a plan that ran out of memory, which was given n tries, as the plan is left
pub record IsRunCut (old : PlainRun) (n : ℕ) (new : PlainRun) : Type 0 where
  pub seed : new.seed ≡ old.seed
  pub steps : new.steps ≡ old.steps
  pub stand : ((k : ℕ) × (k ≤ n) × Leads old.seed old.stand k new.stand) ⊎ (new.stand ≡ go_on old.seed old.stand n)

-- the row and the stage of the first step that is left
abbrev pub place_of : List PlainStep → Option Place
place_of [] = None
place_of (x ∷ rest) = Some (record { row = x.row; stage = x.stage })

-- What a plan searches for: its rows with their pools, and its steps.
use Rattle.std.specs.Prelude.{Bool, List}
use Rattle.closing_log.specs.declared.log.Stage.{Stage}
use Rattle.fee_rates.specs.declared.terms.PaymentLoad.{PaymentLoad}
use Rattle.fee_rates.specs.declared.terms.Terms.{Terms}
use Rattle.output_groups.specs.PlainGroups.{PlainGroups}
use Rattle.output_groups.specs.PlainPool.{PlainPool}
use Rattle.output_groups.specs.declared.rows.Row.{Row}
use Rattle.pick_problem.specs.Problem.{PlainProblem}
use Rattle.search_run.specs.Step.{PlainStep}
use Rattle.fund_steps.specs.Basis.{basis_of}
use Rattle.fund_steps.specs.Making.{groups_for}
use Rattle.fund_steps.specs.Plan.{PlainPlan}
use Rattle.fund_steps.specs.Searches.{is_given as given_by, load_in as load_by, problem_by, row_in, steps_of as steps_by, terms_in as terms_by}
use Rattle.fund_steps.specs.Selection.{unlisted}

-- the groups that the candidates form which the request doesn't list
abbrev pub groups_of : PlainPlan → PlainGroups
groups_of p = groups_for p.request (unlisted p.request.coins p.candidates)

-- the pool of a row, of the candidates that the request doesn't list
abbrev pub pool_in : PlainPlan → Row → PlainPool
pool_in p row = (row_in (basis_of p) row).pool

-- what a payment from the presets and from coins of a row is to carry, and its terms
abbrev pub load_in : PlainPlan → Row → PaymentLoad
load_in p row = load_by (basis_of p) (row_in (basis_of p) row)

abbrev pub terms_in : PlainPlan → Row → Terms
terms_in p row = terms_by (basis_of p) (row_in (basis_of p) row)

-- what is searched for in a row at a stage
abbrev pub problem_at : PlainPlan → Row → Stage → PlainProblem
problem_at p row stage = problem_by (terms_in p row) (pool_in p row).items stage

-- the presets bring all that is needed, and nothing is searched for
abbrev pub is_given : PlainPlan → Bool
is_given p = given_by (basis_of p)

-- the steps, row by row
abbrev pub steps_of : PlainPlan → List PlainStep
steps_of p = steps_by (basis_of p)

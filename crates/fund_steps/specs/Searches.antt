-- The steps of a plan: the rows of the ladder with their pools, and in each the searches and draws of the method.
use Rattle.std.specs.Prelude.{ℕ, ◌+◌, ◌*◌, ◌&&◌, pos, Bool, List, [], length, map, sum_by, unsigned_abs, int_le, nat_lt, if◌then◌else◌}
use Rattle.std.specs.List.{flat_map}
use Rattle.closing_log.specs.declared.log.Stage.{Stage}
use Rattle.closing_log.specs.declared.log.Stage.TheVariants as stage
use Rattle.fee_rates.specs.Terms.{target_of, terms_of}
use Rattle.fee_rates.specs.declared.terms.PaymentLoad.{PaymentLoad}
use Rattle.fee_rates.specs.declared.terms.Rates.{Rates}
use Rattle.fee_rates.specs.declared.terms.Terms.{Terms}
use Rattle.coin_candidates.specs.declared.candidate.Candidate.{Candidate}
use Rattle.output_groups.specs.Ladder.{ladder_of}
use Rattle.output_groups.specs.PlainPool.{PlainPool}
use Rattle.output_groups.specs.PoolOf.{pool_of}
use Rattle.output_groups.specs.declared.rows.Row.{Row}
use Rattle.pick_problem.specs.Problem.{PlainProblem}
use Rattle.pick_problem.specs.declared.item.Item.{Item}
use Rattle.pick_problem.specs.declared.item.Kind.TheVariants as kind
use Rattle.request_text.specs.PlainRequest.{PlainRequest}
use Rattle.search_run.specs.Step.{PlainStep}
use Rattle.fund_steps.specs.Basis.{Basis, load_alone}
use Rattle.fund_steps.specs.Terms.{rates_of}
use Rattle.fund_steps.specs.Turns.{turns_of}
use Rattle.fund_steps.specs.declared.turns.Turn.{Turn}

-- ---- rows

-- a row of the ladder and its pool
pub record PlainRow : Type 0 where
  pub row : Row
  pub pool : PlainPool

-- a row with its pool of the coins that may be added
abbrev pub row_in : Basis → Row → PlainRow
row_in b row = record { row = row; pool = pool_of b.request.group row b.request.rate b.request.long_term b.rest }

-- the rows of the request's ladder, in order
abbrev pub rows_in : Basis → List PlainRow
rows_in b = map (row_in b) (ladder_of b.request.zero_conf b.request.include_unsafe)

-- how many coins each group has
abbrev pub sizes_of : List (List Candidate) → List ℕ
sizes_of groups = map (λ (g : List Candidate). length g) groups

-- with so many coins more
abbrev pub load_with : PaymentLoad → ℕ → PaymentLoad
load_with l n = record l { coins = l.coins + n }

-- What a payment from the presets and from a row's pool is to carry. As coins that it could have all of them count.
abbrev pub load_in : Basis → PlainRow → PaymentLoad
load_in b r = load_with (load_alone b) (sum_by (λ (g : List Candidate). length g) r.pool.groups)

abbrev pub terms_in : Basis → PlainRow → Terms
terms_in b r = terms_of (rates_of b.request) (load_in b r)

-- ---- what is looked for

-- Without change, an amount from the target to hi, within the weight that is left to coins alone. With change, an amount
-- from that of the least change on, or else from that of the change that is aimed at, within what is left beside a change.
abbrev pub problem_by : Terms → List Item → Stage → PlainProblem
problem_by t items stage.Changeless = record { items = items; lo = unsigned_abs t.target; hi = unsigned_abs t.hi; most_weight = t.plain_limit; kind = kind.Changeless }
problem_by t items stage.LeanSmall = record { items = items; lo = unsigned_abs t.small; hi = unsigned_abs t.small; most_weight = t.change_limit; kind = kind.Lean }
problem_by t items _ = record { items = items; lo = unsigned_abs t.big; hi = unsigned_abs t.big; most_weight = t.change_limit; kind = kind.Lean }

-- what making and spending a change costs, where the results of a stage have one
abbrev pub ending_by : Terms → Stage → ℕ
ending_by t stage.Changeless = 0
ending_by t _ = t.change_fee + t.change_spend

-- ---- steps

-- the step of a row at a stage, by the row's number, its terms, the items of its pool and how many coins each group has
abbrev pub step_with : Terms → ℕ → List Item → List ℕ → Turn → PlainStep
step_with t number items sizes u = record {
  row = number;
  stage = u.stage;
  problem = problem_by t items u.stage;
  ending = ending_by t u.stage;
  sizes = sizes;
  last = u.last;
}

-- the same by the row and its pool
abbrev pub step_by : Terms → PlainRow → Turn → PlainStep
step_by t r u = step_with t r.row.number r.pool.items (sizes_of r.pool.groups) u

-- There are presets, and they bring all that is needed: no coin is added, and nothing is searched for.
abbrev pub is_met : Rates → PaymentLoad → Bool
is_met r l = l.has_presets && int_le (target_of r l) (pos 0)

abbrev pub is_given : Basis → Bool
is_given b = is_met (rates_of b.request) (load_alone b)

-- fees are high: the rate is more than three times that of the long run
abbrev pub is_high : PlainRequest → Bool
is_high q = nat_lt (3 * q.long_term) q.rate

-- the stages of each row, none where the presets bring all that is needed
abbrev pub turns_for : PlainRequest → PaymentLoad → List Turn
turns_for q l = if is_met (rates_of q) l then [] else turns_of q.method (is_high q)

abbrev pub turns_in : Basis → List Turn
turns_in b = turns_for b.request (load_alone b)

-- the steps of a row
abbrev pub steps_at : Basis → PlainRow → List PlainStep
steps_at b r = map (step_by (terms_in b r) r) (turns_in b)

-- the steps of a plan, row by row
unfoldable pub steps_of : Basis → List PlainStep
steps_of b = flat_map (steps_at b) (rows_in b)

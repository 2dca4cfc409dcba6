-- What steps are made from, row by row.
use Rattle.std.specs.Prelude.{ℕ, pos, ◌<◌, ◌≤◌, ◌≤ℤ◌, ◌≡◌, List, length, map, sum, sum_by, All}
use Rattle.fee_rates.specs.Terms.{AreRates, IsLoad, target_of, terms_of}
use Rattle.fee_rates.specs.declared.terms.PaymentLoad.{PaymentLoad}
use Rattle.fee_rates.specs.declared.terms.Rates.{Rates}
use Rattle.fee_rates.specs.declared.terms.Terms.{Terms}
use Rattle.coin_candidates.specs.declared.candidate.Candidate.{Candidate}
use Rattle.output_groups.specs.PlainGroups.{PlainGroups}
use Rattle.output_groups.specs.PlainPool.{PlainPool}
use Rattle.output_groups.specs.Pool.{CountsKept}
use Rattle.output_groups.specs.PoolOf.{pool_of}
use Rattle.output_groups.specs.declared.rows.Row.{Row}
use Rattle.pick_problem.specs.Pool.{AreItems}
use Rattle.pick_problem.specs.declared.item.Item.{Item}
use Rattle.request_text.specs.PlainRequest.{PlainRequest}
use Rattle.search_run.specs.Step.{PlainStep}
use Rattle.fund_steps.specs.Searches.{PlainRow, load_with, step_by, step_with}
use Rattle.fund_steps.specs.Terms.{rates_of}
use Rattle.fund_steps.specs.Turns.{HasSteps}
use Rattle.fund_steps.specs.declared.turns.Turn.{Turn}

-- terms from which problems can be made
pub record AreSearchable (t : Terms) : Type 0 where
  pub some : pos 1 ≤ℤ t.target
  pub order : t.target ≤ℤ t.hi
  pub small : t.hi ≤ℤ t.small
  pub big : t.small ≤ℤ t.big
  pub fit : t.big ≤ℤ pos 18_446_744_073_709_551_615
  pub change_fee : t.change_fee ≤ 200_000_000_000_000
  pub change_spend : t.change_spend ≤ 200_000_000_000_000

-- the presets' load and the stages of each row: coins have to bring something wherever there is a stage
pub record AreReady (r : Rates) (l : PaymentLoad) (us : List Turn) : Type 0 where
  pub rates : AreRates r
  pub load : IsLoad l
  pub dust : l.change_dust ≤ 31_000
  pub coins : l.coins ≤ 100_000
  pub stages : All (λ (u : Turn). HasSteps u.stage) us
  pub some : 0 < length us → pos 1 ≤ℤ target_of r l

-- a pool that steps can be made from
pub record IsSearchablePool (pool : PlainPool) : Type 0 where
  pub items : AreItems pool.items
  pub groups : All (λ (g : List Candidate). length g ≤ 100) pool.groups
  pub same : length pool.items ≡ length pool.groups

-- the items of a pool, and how many coins each of its groups has, such that steps can be made from them
pub record AreSearched (items : List Item) (sizes : List ℕ) : Type 0 where
  pub fit : AreItems items
  pub small : All (λ n. n ≤ 100) sizes
  pub same : length items ≡ length sizes

-- the groups that coins form at a request's rates
abbrev pub groups_for : PlainRequest → List Candidate → PlainGroups
groups_for q cs = record { candidates = cs; group = q.group; rate = q.rate; long_term = q.long_term }

-- the row keeps at most 10,000 of the groups, and so many, which are more
abbrev pub KeepsFewOf : PlainGroups → Row → Type 0
KeepsFewOf g row = (n : ℕ) → CountsKept g.group row g.rate g.candidates n → n ≤ 10_000

abbrev pub KeepsManyOf : PlainGroups → Row → ℕ → Type 0
KeepsManyOf g row n = CountsKept g.group row g.rate g.candidates n × (10_000 < n)

-- the steps of a row with such items and sizes
abbrev pub steps_by : Rates → PaymentLoad → List Turn → ℕ → List Item → List ℕ → List PlainStep
steps_by r l us number items sizes = map (step_with (terms_of r (load_with l (sum sizes))) number items sizes) us

-- the steps of a row with a pool
abbrev pub steps_with : Rates → PaymentLoad → List Turn → PlainRow → List PlainStep
steps_with r l us row = map (step_by (terms_of r (load_with l (sum_by (λ (g : List Candidate). length g) row.pool.groups))) row) us

-- the same of a request's row, by its pool of these coins
abbrev pub steps_for : PlainRequest → PaymentLoad → List Candidate → List Turn → Row → List PlainStep
steps_for q l cs us row = steps_with (rates_of q) l us (record { row = row; pool = pool_of q.group row q.rate q.long_term cs })

-- What a desk holds.
use Rattle.std.specs.Prelude.{ℕ, not, ◌∷◌, [], List, Bool, Option, None, bytes_eq, filter, find, map, if◌then◌else◌}
use Rattle.std.specs.List.{list_any}
use Rattle.fund_base.specs.Outpoints.{same_outpoint}
use Rattle.coin_candidates.specs.declared.candidate.Candidate.{Candidate}
use Rattle.fund_base.specs.declared.outpoint.OutPoint.{OutPoint}
use Rattle.fund_files.specs.declared.chain.Chain.{Chain}
use Rattle.fund_plan.specs.Outcome.{beginning_of}
use Rattle.fund_plan.specs.State.{PlanState}
use Rattle.fund_plan.specs.declared.outcome.Outcome.{Outcome}
use Rattle.fund_steps.specs.Plan.{PlainPlan}
use Rattle.payment_states.specs.Candidates.{candidates_of}

-- a payment that was committed and isn't released: its txid, and the coins that it spends
pub record Payment : Type 0 where
  pub txid : List ℕ
  pub coins : List OutPoint

-- An open job: its name; its plan, which was made when it was opened, and where that stands; and what its last turn came
-- to, if it had one.
pub record Job : Type 0 where
  pub name : List ℕ
  pub state : PlanState
  pub answer : Option Outcome

-- The wallet, its book and its tip; the committed payments in order; and the open jobs in the order in which they were
-- opened. The wallet's pending list is the desk's.
pub record PlainDesk : Type 0 where
  pub held : Chain
  pub committed : List Payment
  pub jobs : List Job

-- a desk at which nothing was done yet
abbrev pub new_desk : Chain → PlainDesk
new_desk k = record { held = k; committed = []; jobs = [] }

-- a desk without jobs
abbrev pub desk_of : Chain → List Payment → PlainDesk
desk_of k committed = record { held = k; committed = committed; jobs = [] }

-- ---- jobs

abbrev pub is_named : List ℕ → Job → Bool
is_named name j = bytes_eq name j.name

-- the job of this name
abbrev pub job_at : List Job → List ℕ → Option Job
job_at jobs name = find (is_named name) jobs

-- a job of this name is open
abbrev pub has_job : List Job → List ℕ → Bool
has_job jobs name = list_any (is_named name) jobs

-- the others
abbrev pub without_job : List ℕ → List Job → List Job
without_job name jobs = filter (λ (j : Job). not (is_named name j)) jobs

-- the job of this name is exchanged for another
abbrev pub put_job : List ℕ → Job → List Job → List Job
put_job name j [] = []
put_job name j (k ∷ rest) = if is_named name k then j ∷ rest else k ∷ put_job name j rest

-- where a plan stands of which no try was made
abbrev pub new_plan : PlainPlan → PlanState
new_plan p = record { plan = p; stand = beginning_of p; partial = None }

-- a job that had no turn yet
abbrev pub new_job : List ℕ → PlainPlan → Job
new_job name p = record { name = name; state = new_plan p; answer = None }

-- ---- coins

abbrev pub points : List Candidate → List OutPoint
points coins = map (λ (c : Candidate). c.coin) coins

-- a payment spends the coin
abbrev pub has_point : List OutPoint → OutPoint → Bool
has_point coins o = list_any (λ x. same_outpoint x o) coins

-- a committed payment spends the coin: it is reserved
abbrev pub is_reserved : List Payment → OutPoint → Bool
is_reserved committed o = list_any (λ (p : Payment). has_point p.coins o) committed

-- the coins that may be spent now, with their prices at a rate
abbrev pub candidates_at : Chain → (rate : ℕ) → List Candidate
candidates_at k rate = candidates_of k.wallet k.book k.tip.height rate

-- the same at no price
abbrev pub candidates_in : Chain → List Candidate
candidates_in k = candidates_at k 0

-- of those at a rate, the ones that no committed payment spends
abbrev pub free_at : PlainDesk → (rate : ℕ) → List Candidate
free_at d rate = filter (λ (c : Candidate). not (is_reserved d.committed c.coin)) (candidates_at d.held rate)

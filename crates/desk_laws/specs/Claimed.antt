-- What is claimed of each job of a desk, and of what a commit gives out.
use Rattle.std.specs.Prelude.{ℕ, ◌≡◌, ◌≤◌, ◌+◌, ◌⊎◌, List, [], ◌∷◌, All, Contains, None, Some, IfSome}
use Rattle.coin_book.specs.Faults.{fault_of}
use Rattle.fund_base.specs.Cursor.{IsBytes}
use Rattle.fund_files.specs.Chain.{IsChain}
use Rattle.fund_files.specs.declared.chain.Chain.{Chain}
use Rattle.fund_plan.specs.Claims.{Claims, IsProvedNone, IsUsedUp}
use Rattle.fund_plan.specs.Outcome.{log_at, outcome_at}
use Rattle.fund_plan.specs.Selection.{PlainFunded}
use Rattle.fund_plan.specs.State.{PlanState, moved}
use Rattle.fund_plan.specs.Steps.{steps_of}
use Rattle.fund_plan.specs.declared.outcome.Outcome.{Outcome}
use Rattle.fund_plan.specs.declared.outcome.Outcome.TheVariants.{Funded, NoSelection, Unfinished}
use Rattle.fund_steps.specs.Plan.{IsPlan, PlainPlan}
use Rattle.psbt_codec.specs.Psbt.{written}
use Rattle.search_run.specs.Step.{AreSteps}
use Rattle.tx_codec.specs.Txid.{txid_of}
use Rattle.desk_machine.specs.Commands.{Command, Open, Blocks}
use Rattle.desk_machine.specs.Commits.{IsSpendable}
use Rattle.desk_machine.specs.Machine.{payment_at, psbt_at, with_payment}
use Rattle.desk_machine.specs.Rules.{AreApart}
use Rattle.desk_machine.specs.Runs.{Said}
use Rattle.desk_machine.specs.State.{Job, PlainDesk, candidates_in, job_at, new_plan}

-- ---- what a desk is given

-- a wallet and its chain keep their rules, and their book holds each coin
pub record IsBooked (k : Chain) : Type 0 where
  pub held : IsChain k
  pub sound : fault_of k.book ≡ None

-- the files of a command are bytes
abbrev pub HasBytes : Command → Type 0
HasBytes (Open name request) = IsBytes request
HasBytes (Blocks bytes) = IsBytes bytes
HasBytes _ = Unit {0}

-- and those of each of these
abbrev pub HaveBytes : List Said → Type 0
HaveBytes [] = Unit {0}
HaveBytes (s ∷ rest) = HasBytes s.command × HaveBytes rest

-- ---- a job

-- The state is that of a new plan after so many tries. Where memory ran out in its last turn it isn't known yet what these
-- tries come to, and each turn leads it where the new plan is led by these tries and the turn's.
abbrev pub StandsAfter : PlainPlan → ℕ → PlanState → Type 0
StandsAfter p n s = (s ≡ moved (new_plan p) n) ⊎ ((s.partial ≡ None) × ((m : ℕ) → moved s m ≡ moved (new_plan p) (n + m)))

-- What is claimed where a plan comes to this after so many tries: of a payment, what its mark promises; of no selection, that
-- there is none; and of a plan that is unfinished, that it made each of its tries.
abbrev pub AreClaims : PlainPlan → ℕ → Outcome → Type 0
AreClaims p n (Funded f) = Claims p n f
AreClaims p n NoSelection = IsProvedNone p (log_at p n)
AreClaims p n Unfinished = IsUsedUp p n

-- The plan comes to this after some of these tries, and its claims hold.
pub record IsComeTo (p : PlainPlan) (most : ℕ) (o : Outcome) : Type 0 where
  pub tries : ℕ
  pub few : tries ≤ most
  pub comes : outcome_at p tries ≡ o
  pub claims : AreClaims p tries o

-- Its plan keeps the rules of a plan, and its steps those of steps; it stands where so many tries lead from the plan's
-- beginning; and its answer is what the plan comes to after some of them, with all that this claims.
pub record IsClaimed (j : Job) : Type 0 where
  pub rules : IsPlan j.state.plan
  pub steps : AreSteps (steps_of j.state.plan)
  pub tries : ℕ
  pub stands : StandsAfter j.state.plan tries j.state
  pub answered : IfSome j.answer (IsComeTo j.state.plan tries)

-- ---- a commit

-- After so many tries the plan comes to this payment, and it keeps what its mark claims.
pub record IsPaidAsClaimed (p : PlainPlan) (f : PlainFunded) : Type 0 where
  pub tries : ℕ
  pub comes : outcome_at p tries ≡ Funded f
  pub claims : Claims p tries f

-- A commit gives out the payment that is the answer of the open job of this name. The payment keeps what its mark claims of
-- the job's plan, each coin of it could be spent, and no other committed payment spends one of them. The txid and the PSBT
-- are the payment's, the PSBT in the version that the job's request asks for. The payment is then committed, the job is
-- closed, and all else is as before.
pub record IsDueCommit (d : PlainDesk) (name txid psbt : List ℕ) (new : PlainDesk) : Type 0 where
  pub job : Job
  pub funded : PlainFunded
  pub stands : Contains d.jobs job
  pub named : job.name ≡ name
  pub found : job_at d.jobs name ≡ Some job
  pub answers : job.answer ≡ Some (Funded funded)
  pub claimed : IsClaimed job
  pub paid : IsPaidAsClaimed job.state.plan funded
  pub spendable : All (IsSpendable d.committed (candidates_in d.held) job.state.plan.request funded.row) funded.coins
  pub apart : AreApart new.committed
  pub txid_is : txid ≡ txid_of (payment_at d.held job funded)
  pub psbt_is : psbt ≡ written job.state.plan.request.psbt (psbt_at d.held job funded)
  pub next : new ≡ with_payment d name job funded

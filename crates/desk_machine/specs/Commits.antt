-- What it means that a coin can be spent when a payment is committed, and what a commit does.
use Rattle.std.specs.Prelude.{ℕ, ◌≡◌, ◌⊎◌, ◌++◌, ◌∷◌, All, List, Contains, Some, IsTrue}
use Rattle.coin_candidates.specs.declared.candidate.Candidate.{Candidate}
use Rattle.fund_base.specs.declared.outpoint.OutPoint.{OutPoint}
use Rattle.fund_payment.specs.Shown.{ShowsCoins}
use Rattle.fund_plan.specs.Answer.{IsPayment}
use Rattle.fund_plan.specs.Chosen.{load_for}
use Rattle.fund_plan.specs.Pays.{Pays}
use Rattle.fund_plan.specs.Selection.{PlainFunded}
use Rattle.fund_plan.specs.declared.outcome.Outcome.TheVariants.{Funded}
use Rattle.output_groups.specs.Ladder.{Meets, ladder_of}
use Rattle.output_groups.specs.declared.rows.Row.{Row}
use Rattle.psbt_codec.specs.Psbt.{IsPsbt, written}
use Rattle.request_text.specs.PlainRequest.{PlainRequest}
use Rattle.tx_codec.specs.Txid.{txid_of}
use Rattle.desk_machine.specs.Machine.{payment_at, psbt_at, with_payment}
use Rattle.desk_machine.specs.State.{Job, Payment, PlainDesk, candidates_in}

-- no payment spends the coin
abbrev pub IsFree : List Payment → OutPoint → Type 0
IsFree committed o = All (λ (p : Payment). Contains p.coins o → ⊥) committed

-- the same output, of the same value, weight and script
pub record IsSame (a b : Candidate) : Type 0 where
  pub coin : a.coin ≡ b.coin
  pub value : a.value ≡ b.value
  pub weight : a.weight ≡ b.weight
  pub script : a.script ≡ b.script

-- the row of this number is one of the request's, and the coin meets it
pub record MeetsRow (r : PlainRequest) (number : ℕ) (c : Candidate) : Type 0 where
  pub row : Row
  pub stands : Contains (ladder_of r.zero_conf r.include_unsafe) row
  pub number_is : row.number ≡ number
  pub meets : Meets row c

-- It is good for a payment of this row: the request lists it and it is safe, or the request takes unsafe ones; or the
-- request doesn't list it, and it meets the row.
abbrev pub IsGood : PlainRequest → ℕ → Candidate → Type 0
IsGood r number c =
    (Contains r.coins c.coin × (IsTrue c.safe ⊎ IsTrue r.include_unsafe)) ⊎ ((Contains r.coins c.coin → ⊥) × MeetsRow r number c)

-- The coin can be spent by a payment of this row: no committed payment spends it, and it is one of those that may be spent
-- now and good for the row.
pub record IsSpendable (committed : List Payment) (now : List Candidate) (r : PlainRequest) (number : ℕ) (c : Candidate) : Type 0 where
  pub free : IsFree committed c.coin
  pub there : Candidate
  pub stands : Contains now there
  pub same : IsSame c there
  pub good : IsGood r number there

-- the first of these coins that can't be spent
pub record IsFirstTaken (committed : List Payment) (now : List Candidate) (r : PlainRequest) (number : ℕ) (coins : List Candidate) (o : OutPoint) : Type 0 where
  pub front : List Candidate
  pub coin : Candidate
  pub rest : List Candidate
  pub parts : coins ≡ front ++ coin ∷ rest
  pub before : All (IsSpendable committed now r number) front
  pub taken : IsSpendable committed now r number coin → ⊥
  pub shown : coin.coin ≡ o

-- What a commit does. The job's last turn came to a payment of its plan, and each coin of it can be spent now. The payment
-- pays, the PSBT is its in the version that the job's request asks for, and each input shows its coin. It is then one of the
-- committed ones, the job is closed, and all else is as before.
pub record IsCommit (d : PlainDesk) (name txid psbt : List ℕ) (new : PlainDesk) : Type 0 where
  pub job : Job
  pub funded : PlainFunded
  pub stands : Contains d.jobs job
  pub named : job.name ≡ name
  pub answers : job.answer ≡ Some (Funded funded)
  pub payment : IsPayment job.state.plan funded
  pub spendable : All (IsSpendable d.committed (candidates_in d.held) job.state.plan.request funded.row) funded.coins
  pub pays : Pays job.state.plan.request d.held.wallet.change (load_for job.state.plan funded.row) funded.coins funded.change (payment_at d.held job funded)
  pub fits : IsPsbt (psbt_at d.held job funded)
  pub shows : ShowsCoins funded.coins (psbt_at d.held job funded)
  pub txid_is : txid ≡ txid_of (payment_at d.held job funded)
  pub psbt_is : psbt ≡ written job.state.plan.request.psbt (psbt_at d.held job funded)
  pub next : new ≡ with_payment d name job funded

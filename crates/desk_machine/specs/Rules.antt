-- The rules that each desk keeps.
use Rattle.std.specs.Prelude.{◌≡◌, ◌≢◌, ◌≤◌, List, All, IfSome, length}
use Rattle.std.specs.List.{AllPairs}
use Rattle.fund_base.specs.declared.outpoint.OutPoint.{OutPoint}
use Rattle.fund_files.specs.Chain.{IsChain}
use Rattle.fund_plan.specs.Answer.{ArePayments, HasSelection}
use Rattle.wallet_text.specs.declared.wallet.Watch.{Watch}
use Rattle.desk_machine.specs.State.{Job, Payment, PlainDesk}

-- two payments spend no coin together
abbrev pub ShareNone : Payment → Payment → Type 0
ShareNone p q = All (λ (a : OutPoint). All (λ (b : OutPoint). a ≢ b) q.coins) p.coins

-- no two payments do
abbrev pub AreApart : List Payment → Type 0
AreApart ps = AllPairs ShareNone ps

-- what the last turn of a job came to, if that was a payment, is one of its plan
pub record IsAnswered (j : Job) : Type 0 where
  pub pays : IfSome j.answer (ArePayments j.state.plan)
  pub fits : IfSome j.answer (HasSelection j.state.plan.request)

-- a job keeps that rule, and pays its change to this script
pub record IsJob (change : Watch) (j : Job) : Type 0 where
  pub answered : IsAnswered j
  pub change_is : j.state.plan.change ≡ change

-- The wallet and its chain keep their rules; no two committed payments spend one coin; no two open jobs have one name, and
-- there are at most 64, each of which keeps its rules.
pub record IsDesk (d : PlainDesk) : Type 0 where
  pub held : IsChain d.held
  pub apart : AreApart d.committed
  pub names : AllPairs (λ (a b : Job). a.name ≢ b.name) d.jobs
  pub most : length d.jobs ≤ 64
  pub each : All (IsJob d.held.wallet.change) d.jobs

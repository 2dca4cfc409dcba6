-- What the refusal of a payment means by itself.
use Rattle.std.specs.Prelude.{ℕ, ◌≡◌, ◌≢◌, ◌⊎◌, List, [], Some}
use Rattle.block_feed.specs.Block.{ChainBlock}
use Rattle.fee_bump.specs.Meant.{IsBumpFault}
use Rattle.fee_bump.specs.declared.fault.BumpFault.{BumpFault}
use Rattle.fee_bump.specs.declared.fault.BumpFault.TheVariants as bumps
use Rattle.fund_plan.specs.Outcome.{stand_after}
use Rattle.fund_plan.specs.Steps.{steps_of}
use Rattle.search_run.specs.Step.{AreSteps}
use Rattle.fund_steps.specs.Plan.{IsPlanFault, IsPlan, PlainPlan}
use Rattle.fund_steps.specs.declared.fault.PlanFault.TheVariants as plans
use Rattle.request_text.specs.PlainRequest.{PlainRequest}
use Rattle.wallet_text.specs.PlainWallet.{PlainWallet}
use Rattle.wallet_text.specs.WalletRules.{IsWallet}
use Rattle.fund_files.specs.Chain.{chain_from, history_of}
use Rattle.fund_files.specs.Contents.{HasChain, HasRequest}
use Rattle.fund_files.specs.Refusals.{IsAskedMeant, IsChainMeant}
use Rattle.command_end.specs.Names.{Sources}
use Rattle.command_inputs.specs.Cause.{Cause, Files, Bump, Plan}
use Rattle.command_inputs.specs.Outcome.{Refused, outcome_of, plan_of}
use Rattle.command_inputs.specs.Inputs.{AreInputs}
use Rattle.command_inputs.specs.Names.{Payment}

-- The files hold a wallet that keeps its rules, blocks, and a request that names a payment to be replaced. This keeps that from
-- being replaced, and it isn't being out of memory.
pub record IsNotReplaced (files : List ℕ → List ℕ) (s : Sources) (p : Payment) (fault : BumpFault) : Type 0 where
  pub wallet : PlainWallet
  pub blocks : List ChainBlock
  pub asked : PlainRequest
  pub txid : List ℕ
  pub chain : HasChain (files s.wallet) (files s.blocks) wallet blocks
  pub rules : IsWallet wallet
  pub request : HasRequest (files p.request) asked
  pub named : asked.bump ≡ Some txid
  pub keeps : IsBumpFault wallet (history_of wallet blocks) asked fault
  pub real : fault ≢ bumps.Memory

-- What a cause means by itself, the files before the one that is refused being in order: a cause of the wallet file or of
-- the block file means what it says; or both are in order, and one of the request file does; or the payment that the request
-- names can't be replaced for it; or nothing keeps that from being replaced, if the request names one, and this keeps a plan
-- from being made, which isn't being out of memory.
abbrev pub IsMeant : (List ℕ → List ℕ) → Sources → Payment → Cause → Type 0
IsMeant files s p (Files cause) =
    IsChainMeant (files s.wallet) (files s.blocks) cause
    ⊎ ((w : PlainWallet) × (blocks : List ChainBlock) × HasChain (files s.wallet) (files s.blocks) w blocks × IsAskedMeant (files p.request) cause)
IsMeant files s p (Bump fault) = IsNotReplaced files s p fault
IsMeant files s p (Plan fault) =
    (w : PlainWallet) × (blocks : List ChainBlock) × (r : PlainRequest) × AreInputs files s p w blocks r × IsPlanFault (plan_of (chain_from w blocks) r) fault × (fault ≢ plans.Memory)

-- The files come to a refusal of this cause, and it means what it says.
abbrev pub AreRefusedFor : (List ℕ → List ℕ) → Sources → Payment → Cause → Type 0
AreRefusedFor files s p cause = (outcome_of files s p ≡ Refused cause) × IsMeant files s p cause

-- A plan that keeps its rules and whose run comes to its end within the request's tries. Its steps are searches and draws,
-- each with a problem that keeps its rules.
pub record IsEndedPlan (p : PlainPlan) : Type 0 where
  pub rules : IsPlan p
  pub steps : AreSteps (steps_of p)
  pub over : (stand_after p p.request.tries).left ≡ []

-- The files of a wide search, and what their refusal means by itself.
use Rattle.std.specs.Prelude.{ℕ, ◌≡◌, ◌≢◌, List}
use Rattle.block_feed.specs.Block.{ChainBlock}
use Rattle.fund_steps.specs.Plan.{IsPlanFault}
use Rattle.fund_steps.specs.declared.fault.PlanFault.TheVariants as plans
use Rattle.request_text.specs.PlainRequest.{PlainRequest}
use Rattle.wallet_text.specs.PlainWallet.{PlainWallet}
use Rattle.fund_files.specs.Chain.{IsChain, chain_from}
use Rattle.fund_files.specs.Contents.{HasChain, HasRequest}
use Rattle.fund_files.specs.declared.chain.Chain.{Chain}
use Rattle.command_end.specs.Names.{Sources}
use Rattle.command_inputs.specs.Cause.{Cause, Files, Bump, Plan}
use Rattle.command_inputs.specs.Meant.{IsMeant as IsMeantOfPayment}
use Rattle.command_inputs.specs.Names.{Payment}
use Rattle.command_inputs.specs.Outcome.{plan_of}
use Rattle.wide_plan.specs.Asked.{IsForWide}
use Rattle.command_wide.specs.Outcome.{NotWide, Refused, outcome_of}

-- the files hold this wallet, these blocks and this request, which the wide search takes
pub record AreInputs (files : List ℕ → List ℕ) (s : Sources) (p : Payment) (w : PlainWallet) (bs : List ChainBlock) (r : PlainRequest) : Type 0 where
  pub chain : HasChain (files s.wallet) (files s.blocks) w bs
  pub request : HasRequest (files p.request) r
  pub wide : IsForWide r

-- A wallet, its book and its tip, and a request that the wide search takes. Where the files are told, they hold these.
pub record AreAsked (told : Type 0) (files : List ℕ → List ℕ) (s : Sources) (p : Payment) (k : Chain) (r : PlainRequest) : Type 0 where
  pub held : IsChain k
  pub inputs : told → AreInputs files s p k.wallet held.blocks r
  pub wide : IsForWide r

-- The files hold a wallet, blocks and a request that the wide search doesn't take: its method is another than `changeless`, it
-- lists coins, or it names a payment to be replaced.
pub record IsNotWide (files : List ℕ → List ℕ) (s : Sources) (p : Payment) : Type 0 where
  pub wallet : PlainWallet
  pub blocks : List ChainBlock
  pub asked : PlainRequest
  pub chain : HasChain (files s.wallet) (files s.blocks) wallet blocks
  pub request : HasRequest (files p.request) asked
  pub other : IsForWide asked → ⊥

-- What a cause means by itself. That of a file means what it does for a payment. That of a plan: the files are in order, the
-- wide search takes the request, and this keeps a plan from being made, which isn't being out of memory. No payment is replaced,
-- so nothing keeps one from that.
abbrev pub IsMeant : (List ℕ → List ℕ) → Sources → Payment → Cause → Type 0
IsMeant files s p (Files cause) = IsMeantOfPayment files s p (Files cause)
IsMeant files s p (Bump fault) = ⊥
IsMeant files s p (Plan fault) =
    (w : PlainWallet) × (blocks : List ChainBlock) × (r : PlainRequest) × AreInputs files s p w blocks r × IsPlanFault (plan_of (chain_from w blocks) r) fault × (fault ≢ plans.Memory)

-- The files come to a refusal of this cause, and it means what it says.
abbrev pub AreRefusedFor : (List ℕ → List ℕ) → Sources → Payment → Cause → Type 0
AreRefusedFor files s p cause = (outcome_of files s p ≡ Refused cause) × IsMeant files s p cause

-- they come to a request that the wide search doesn't take, and hold such a one
abbrev pub AreNotWide : (List ℕ → List ℕ) → Sources → Payment → Type 0
AreNotWide files s p = (outcome_of files s p ≡ NotWide) × IsNotWide files s p

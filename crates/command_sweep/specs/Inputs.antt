-- The files of a sweep, and what their refusal means by itself.
use Rattle.std.specs.Prelude.{ℕ, ◌≡◌, ◌≤◌, ◌<◌, List}
use Rattle.block_feed.specs.Block.{ChainBlock}
use Rattle.fee_sharing.specs.Sweep.{KeepsAlone, last_row, sweep_weight, swept_of}
use Rattle.fund_steps.specs.Amounts.{value_of}
use Rattle.fund_steps.specs.declared.fault.PlanFault.{PlanFault}
use Rattle.fund_steps.specs.declared.fault.PlanFault.TheVariants as plans
use Rattle.request_text.specs.PlainRequest.{PlainRequest}
use Rattle.wallet_text.specs.PlainWallet.{PlainWallet}
use Rattle.fund_files.specs.Chain.{IsChain, chain_from}
use Rattle.fund_files.specs.declared.chain.Chain.{Chain}
use Rattle.command_end.specs.Names.{Sources}
use Rattle.command_inputs.specs.Cause.{Cause, Files, Bump, Plan}
use Rattle.command_inputs.specs.Meant.{IsMeant as IsMeantOfPayment}
use Rattle.command_inputs.specs.Names.{Payment}
use Rattle.command_amounts.specs.Coins.{coins_for}
use Rattle.command_amounts.specs.Files.{HoldAll}
use Rattle.command_sweep.specs.Asked.{IsForSweep}
use Rattle.command_sweep.specs.Outcome.{NotSweep, Refused, TooHeavy, outcome_of}

-- the files hold this wallet, these blocks and this request, which a sweep takes
pub record AreInputs (files : List ℕ → List ℕ) (s : Sources) (p : Payment) (w : PlainWallet) (bs : List ChainBlock) (r : PlainRequest) : Type 0 where
  pub all : HoldAll files s p w bs r
  pub taken : IsForSweep r

-- A wallet, its book and its tip, and a request that a sweep takes. Where the files are told, they hold these.
pub record AreAsked (told : Type 0) (files : List ℕ → List ℕ) (s : Sources) (p : Payment) (k : Chain) (r : PlainRequest) : Type 0 where
  pub held : IsChain k
  pub inputs : told → AreInputs files s p k.wallet held.blocks r
  pub taken : IsForSweep r

-- The files hold a wallet, blocks and a request that a sweep doesn't take: it has several recipients, lists coins, or names a
-- payment to be replaced.
pub record IsNotSweep (files : List ℕ → List ℕ) (s : Sources) (p : Payment) : Type 0 where
  pub wallet : PlainWallet
  pub blocks : List ChainBlock
  pub asked : PlainRequest
  pub all : HoldAll files s p wallet blocks asked
  pub other : IsForSweep asked → ⊥

-- Why the coins of a chain aren't swept for a request. Total: they are worth this much together, which is more than 21,000,000
-- bitcoin. Too many: they aren't, and the last row of the ladder keeps so many, which are more than 10,000.
abbrev pub KeepsFromSweep : Chain → PlainRequest → PlanFault → Type 0
KeepsFromSweep k r (plans.Total sum) = (sum ≡ value_of (coins_for k r)) × (2_100_000_000_000_000 < sum)
KeepsFromSweep k r (plans.NotEligible point) = ⊥
KeepsFromSweep k r (plans.TooMany number n) =
    (value_of (coins_for k r) ≤ 2_100_000_000_000_000) × (number ≡ (last_row r).number) × KeepsAlone r (coins_for k r) n × (10_000 < n)
KeepsFromSweep k r plans.Memory = ⊥

-- The payment of all coins of the last row weighs so many weight units, which are more than 400,000. What comes before isn't
-- there.
pub record IsTooHeavy (k : Chain) (r : PlainRequest) (weight : ℕ) : Type 0 where
  pub worth : value_of (coins_for k r) ≤ 2_100_000_000_000_000
  pub few : (n : ℕ) → KeepsAlone r (coins_for k r) n → n ≤ 10_000
  pub weight_is : weight ≡ sweep_weight r (swept_of r (coins_for k r))
  pub heavy : 400_000 < weight

-- nothing of that keeps them from being swept
pub record CanSweep (k : Chain) (r : PlainRequest) : Type 0 where
  pub worth : value_of (coins_for k r) ≤ 2_100_000_000_000_000
  pub few : (n : ℕ) → KeepsAlone r (coins_for k r) n → n ≤ 10_000
  pub light : sweep_weight r (swept_of r (coins_for k r)) ≤ 400_000

-- What a cause means by itself. That of a file means what it does for a payment. That of a plan: the files are in order, a sweep
-- takes the request, and this keeps its coins from being swept.
abbrev pub IsMeant : (List ℕ → List ℕ) → Sources → Payment → Cause → Type 0
IsMeant files s p (Files cause) = IsMeantOfPayment files s p (Files cause)
IsMeant files s p (Bump fault) = ⊥
IsMeant files s p (Plan fault) =
    (w : PlainWallet) × (blocks : List ChainBlock) × (r : PlainRequest) × AreInputs files s p w blocks r × KeepsFromSweep (chain_from w blocks) r fault

-- The files come to a refusal of this cause, and it means what it says.
abbrev pub AreRefusedFor : (List ℕ → List ℕ) → Sources → Payment → Cause → Type 0
AreRefusedFor files s p cause = (outcome_of files s p ≡ Refused cause) × IsMeant files s p cause

-- they come to a request that a sweep doesn't take, and hold such a one
abbrev pub AreNotSweep : (List ℕ → List ℕ) → Sources → Payment → Type 0
AreNotSweep files s p = (outcome_of files s p ≡ NotSweep) × IsNotSweep files s p

-- they come to a payment of this weight, which is too heavy, and hold what makes it so
abbrev pub AreTooHeavy : (List ℕ → List ℕ) → Sources → Payment → ℕ → Type 0
AreTooHeavy files s p weight =
    (outcome_of files s p ≡ TooHeavy weight)
    × ((w : PlainWallet) × (blocks : List ChainBlock) × (r : PlainRequest) × AreInputs files s p w blocks r × IsTooHeavy (chain_from w blocks) r weight)

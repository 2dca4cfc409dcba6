-- The files of a payment whose recipients bear the fee, and what their refusal means by itself.
use Rattle.std.specs.Prelude.{ℕ, ◌≡◌, ◌≤◌, ◌<◌, ◌⊎◌, List, Ok}
use Rattle.block_feed.specs.Block.{ChainBlock}
use Rattle.closing_log.specs.Log.{PlainSection}
use Rattle.fee_sharing.specs.RowShares.{KeepsWorth}
use Rattle.fee_sharing.specs.Shares.{IsFirstShortAt}
use Rattle.fund_steps.specs.Amounts.{value_of}
use Rattle.fund_steps.specs.declared.fault.PlanFault.{PlanFault}
use Rattle.fund_steps.specs.declared.fault.PlanFault.TheVariants as plans
use Rattle.request_text.specs.PlainRequest.{PlainRequest}
use Rattle.wallet_text.specs.PlainWallet.{PlainWallet}
use Rattle.fund_files.specs.Chain.{IsChain, chain_from}
use Rattle.fund_files.specs.declared.chain.Chain.{Chain}
use Rattle.command_end.specs.Names.{Sources}
use Rattle.command_inputs.specs.Cause.{Cause, Files, Bump, Plan}
use Rattle.command_inputs.specs.Meant.{IsMeant as IsMeantOfPayment}
use Rattle.command_inputs.specs.Names.{Payment}
use Rattle.command_amounts.specs.Amounts.{amounts_of}
use Rattle.command_amounts.specs.Coins.{coins_for}
use Rattle.command_amounts.specs.Files.{HoldAll}
use Rattle.command_share.specs.Asked.{IsForShare}
use Rattle.command_share.specs.Outcome.{NotShare, Refused, ShareDust, outcome_of}
use Rattle.command_share.specs.Paying.{PlainPaying, dusts_of}
use Rattle.command_share.specs.Rows.{FoundFirst, FoundSecond, HasNone, PlainRun, first_row, searched, second_row}
use Rattle.command_share.specs.declared.rows.RowsEnd.TheVariants as ends

-- the files hold this wallet, these blocks and this request, which is taken
pub record AreInputs (files : List ℕ → List ℕ) (s : Sources) (p : Payment) (w : PlainWallet) (bs : List ChainBlock) (r : PlainRequest) : Type 0 where
  pub all : HoldAll files s p w bs r
  pub taken : IsForShare r

-- A wallet, its book and its tip, and a request that is taken. Where the files are told, they hold these.
pub record AreAsked (told : Type 0) (files : List ℕ → List ℕ) (s : Sources) (p : Payment) (k : Chain) (r : PlainRequest) : Type 0 where
  pub held : IsChain k
  pub inputs : told → AreInputs files s p k.wallet held.blocks r
  pub taken : IsForShare r

-- The files hold a wallet, blocks and a request that isn't taken: its method isn't `weight`, it lists coins, or it names a payment
-- to be replaced.
pub record IsNotShare (files : List ℕ → List ℕ) (s : Sources) (p : Payment) : Type 0 where
  pub wallet : PlainWallet
  pub blocks : List ChainBlock
  pub asked : PlainRequest
  pub all : HoldAll files s p wallet blocks asked
  pub other : IsForShare asked → ⊥

-- A row keeps so many groups of the coins that may be spent, which are more than 10,000: row 1; or row 2, and row 1 has no
-- selection, as the request's tries show.
abbrev pub IsCrowded : Chain → PlainRequest → (number n : ℕ) → Type 0
IsCrowded k r number n =
    ((number ≡ first_row.number) × KeepsWorth r first_row (coins_for k r) n × (10_000 < n))
    ⊎ ((number ≡ second_row.number) × ((s : PlainSection) × HasNone r k.wallet.change first_row (coins_for k r) s) × KeepsWorth r second_row (coins_for k r) n × (10_000 < n))

-- Why the coins of a chain aren't searched for a request. Total: they are worth this much together, which is more than 21,000,000
-- bitcoin. Too many: they aren't, and a row keeps too many groups.
abbrev pub KeepsFromSharing : Chain → PlainRequest → PlanFault → Type 0
KeepsFromSharing k r (plans.Total sum) = (sum ≡ value_of (coins_for k r)) × (2_100_000_000_000_000 < sum)
KeepsFromSharing k r (plans.NotEligible point) = ⊥
KeepsFromSharing k r (plans.TooMany number n) = (value_of (coins_for k r) ≤ 2_100_000_000_000_000) × IsCrowded k r number n
KeepsFromSharing k r plans.Memory = ⊥

-- a payment from coins of the first of the two rows that has a selection
abbrev pub IsFoundIn : Chain → PlainRequest → List PlainSection → PlainPaying → Type 0
IsFoundIn k r sections f = FoundFirst r k.wallet.change (coins_for k r) sections f ⊎ FoundSecond r k.wallet.change (coins_for k r) sections f

-- The recipient of this index is the first that is below its share and its dust threshold together, by the payment to which the
-- searches come.
pub record CantBear (k : Chain) (r : PlainRequest) (index : ℕ) : Type 0 where
  pub worth : value_of (coins_for k r) ≤ 2_100_000_000_000_000
  pub run : PlainRun
  pub paying : PlainPaying
  pub comes_to : searched r k.wallet.change (coins_for k r) ≡ Ok run
  pub end_is : run.end ≡ ends.Found paying
  pub found : IsFoundIn k r run.sections paying
  pub short : IsFirstShortAt paying.borne (amounts_of r) (dusts_of r) index

-- What a cause means by itself. That of a file means what it does for a payment. That of a plan: the files are in order, the
-- request is taken, and this keeps its coins from being searched.
abbrev pub IsMeant : (List ℕ → List ℕ) → Sources → Payment → Cause → Type 0
IsMeant files s p (Files cause) = IsMeantOfPayment files s p (Files cause)
IsMeant files s p (Bump fault) = ⊥
IsMeant files s p (Plan fault) =
    (w : PlainWallet) × (blocks : List ChainBlock) × (r : PlainRequest) × AreInputs files s p w blocks r × KeepsFromSharing (chain_from w blocks) r fault

-- The files come to a refusal of this cause, and it means what it says.
abbrev pub AreRefusedFor : (List ℕ → List ℕ) → Sources → Payment → Cause → Type 0
AreRefusedFor files s p cause = (outcome_of files s p ≡ Refused cause) × IsMeant files s p cause

-- they come to a request that isn't taken, and hold such a one
abbrev pub AreNotShare : (List ℕ → List ℕ) → Sources → Payment → Type 0
AreNotShare files s p = (outcome_of files s p ≡ NotShare) × IsNotShare files s p

-- they come to a recipient that can't bear its share, and hold what makes it so
abbrev pub AreShareDust : (List ℕ → List ℕ) → Sources → Payment → ℕ → Type 0
AreShareDust files s p index =
    (outcome_of files s p ≡ ShareDust index)
    × ((w : PlainWallet) × (blocks : List ChainBlock) × (r : PlainRequest) × AreInputs files s p w blocks r × CantBear (chain_from w blocks) r index)

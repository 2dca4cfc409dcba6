-- The numbers of a fault have 128 bits at most, its hashes 32 bytes, and its names are bytes, as those of every fault of the
-- program are.
use Rattle.std.specs.Prelude.{ℕ, ◌<◌, ◌^◌, IfSome}
use Rattle.block_feed.specs.declared.fault.FeedFault.{FeedFault}
use Rattle.block_feed.specs.declared.fault.FeedFault.TheVariants as feeds
use Rattle.fee_bump.specs.declared.fault.BumpFault.{BumpFault}
use Rattle.fee_bump.specs.declared.fault.BumpFault.TheVariants as bumps
use Rattle.fund_base.specs.Cursor.{IsBytes}
use Rattle.fund_steps.specs.declared.fault.PlanFault.{PlanFault}
use Rattle.fund_steps.specs.declared.fault.PlanFault.TheVariants as plans
use Rattle.json_fields.specs.Fields.{IsHash, IsPoint}
use Rattle.log_checker.specs.declared.fault.LogFault.{LogFault}
use Rattle.log_checker.specs.declared.fault.LogFault.TheVariants as logs
use Rattle.payment_states.specs.declared.state.State.{State}
use Rattle.payment_states.specs.declared.state.State.TheVariants as states
use Rattle.psbt_codec.specs.declared.fault.PsbtFault.{PsbtFault}
use Rattle.psbt_codec.specs.declared.fault.PsbtFault.TheVariants as psbts
use Rattle.request_text.specs.declared.fault.RequestFault.{RequestFault}
use Rattle.request_text.specs.declared.fault.RequestFault.TheVariants as requests
use Rattle.tx_codec.specs.declared.fault.TxFault.{TxFault}
use Rattle.tx_codec.specs.declared.fault.TxFault.TheVariants as txs
use Rattle.wallet_text.specs.declared.fault.WalletFault.{WalletFault}
use Rattle.wallet_text.specs.declared.fault.WalletFault.TheVariants as wallets

-- a number of 128 bits
abbrev pub IsNumber : ℕ → Type 0
IsNumber n = n < 2 ^ 128

abbrev pub HasTxNumbers : TxFault → Type 0
HasTxNumbers (txs.Truncated place) = IsNumber place
HasTxNumbers (txs.LongCompact place) = IsNumber place
HasTxNumbers (txs.ValueRange output) = IsNumber output
HasTxNumbers (txs.Trailing place) = IsNumber place
HasTxNumbers _ = Unit {0}

abbrev pub HasWalletNumbers : WalletFault → Type 0
HasWalletNumbers (wallets.Kind name) = IsBytes name
HasWalletNumbers (wallets.Missing name) = IsBytes name
HasWalletNumbers (wallets.Script index) = IsNumber index
HasWalletNumbers (wallets.Weight index) = IsNumber index
HasWalletNumbers (wallets.Tx list index fault) = IsBytes list × IsNumber index × HasTxNumbers fault
HasWalletNumbers (wallets.Repeat list index) = IsBytes list × IsNumber index
HasWalletNumbers (wallets.ParentLater index) = IsNumber index
HasWalletNumbers _ = Unit {0}

abbrev pub HasRequestNumbers : RequestFault → Type 0
HasRequestNumbers (requests.Kind name) = IsBytes name
HasRequestNumbers (requests.Missing name) = IsBytes name
HasRequestNumbers (requests.RateRange name) = IsBytes name
HasRequestNumbers (requests.Address index fault) = IsNumber index
HasRequestNumbers (requests.Script index) = IsNumber index
HasRequestNumbers (requests.AmountRange index) = IsNumber index
HasRequestNumbers (requests.Dust index) = IsNumber index
HasRequestNumbers (requests.Repeat index) = IsNumber index
HasRequestNumbers _ = Unit {0}

abbrev pub HasFeedNumbers : FeedFault → Type 0
HasFeedNumbers (feeds.Magic place) = IsNumber place
HasFeedNumbers (feeds.Length place) = IsNumber place
HasFeedNumbers (feeds.Tx height fault) = IsNumber height × HasTxNumbers fault
HasFeedNumbers (feeds.Merkle height) = IsNumber height
HasFeedNumbers (feeds.Mutated height) = IsNumber height
HasFeedNumbers (feeds.NotLinked kept found) = IsHash kept × IsHash found
HasFeedNumbers (feeds.Trailing height) = IsNumber height
HasFeedNumbers (feeds.Empty height) = IsNumber height
HasFeedNumbers _ = Unit {0}

abbrev pub HasLogNumbers : LogFault → Type 0
HasLogNumbers (logs.UnknownToken place) = IsNumber place
HasLogNumbers (logs.ReasonFalse place) = IsNumber place
HasLogNumbers (logs.TooLong place) = IsNumber place
HasLogNumbers (logs.BetterMet place) = IsNumber place
HasLogNumbers _ = Unit {0}

abbrev pub HasPsbtNumbers : PsbtFault → Type 0
HasPsbtNumbers (psbts.Truncated place) = IsNumber place
HasPsbtNumbers (psbts.LongCompact place) = IsNumber place
HasPsbtNumbers (psbts.RepeatKey place) = IsNumber place
HasPsbtNumbers (psbts.Unsigned fault) = HasTxNumbers fault
HasPsbtNumbers (psbts.Field place) = IsNumber place
HasPsbtNumbers (psbts.Version version) = IsNumber version
HasPsbtNumbers (psbts.Mixed place) = IsNumber place
HasPsbtNumbers (psbts.Lacking kind) = IsNumber kind
HasPsbtNumbers (psbts.RequiredLock input) = IsNumber input
HasPsbtNumbers (psbts.WrongParent input) = IsNumber input
HasPsbtNumbers (psbts.Trailing place) = IsNumber place
HasPsbtNumbers _ = Unit {0}

abbrev pub HasStateNumbers : State → Type 0
HasStateNumbers (states.Confirmed height) = IsNumber height
HasStateNumbers (states.Conflicted txid) = IsHash txid
HasStateNumbers (states.Replaced txid) = IsHash txid
HasStateNumbers _ = Unit {0}

abbrev pub HasBumpNumbers : BumpFault → Type 0
HasBumpNumbers (bumps.NotPending found) = IfSome found HasStateNumbers
HasBumpNumbers (bumps.ForeignInput coin) = IsPoint coin
HasBumpNumbers (bumps.TooManyEvicted n) = IsNumber n
HasBumpNumbers (bumps.RateNotHigher fee vsize) = IsNumber fee × IsNumber vsize
HasBumpNumbers _ = Unit {0}

abbrev pub HasPlanNumbers : PlanFault → Type 0
HasPlanNumbers (plans.Total sum) = IsNumber sum
HasPlanNumbers (plans.NotEligible coin) = IsPoint coin
HasPlanNumbers _ = Unit {0}

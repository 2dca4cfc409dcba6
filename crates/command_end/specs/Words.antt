-- The words of faults: the variant's name and its fields, each after one blank; numbers in decimal.
use Rattle.std.specs.Prelude.{ℕ, List, ◌∷◌, ◌++◌, codes, string_bytes, Option, Some, None}
use Rattle.std.specs.Fmt.{decimal}
use Rattle.tx_codec.specs.declared.fault.TxFault.{TxFault}
use Rattle.tx_codec.specs.declared.fault.TxFault.TheVariants as txs
use Rattle.block_feed.specs.declared.fault.FeedFault.{FeedFault}
use Rattle.block_feed.specs.declared.fault.FeedFault.TheVariants as feeds
use Rattle.segwit_addr.specs.declared.fault.AddrFault.{AddrFault}
use Rattle.segwit_addr.specs.declared.fault.AddrFault.TheVariants as addresses
use Rattle.wallet_text.specs.declared.fault.WalletFault.{WalletFault}
use Rattle.wallet_text.specs.declared.fault.WalletFault.TheVariants as wallets
use Rattle.payment_states.specs.declared.state.State.{State}
use Rattle.payment_states.specs.declared.state.State.TheVariants as states
use Rattle.fee_bump.specs.declared.fault.BumpFault.{BumpFault}
use Rattle.fee_bump.specs.declared.fault.BumpFault.TheVariants as bumps
use Rattle.fund_steps.specs.declared.fault.PlanFault.{PlanFault}
use Rattle.fund_steps.specs.declared.fault.PlanFault.TheVariants as plans
use Rattle.request_text.specs.declared.fault.RequestFault.{RequestFault}
use Rattle.request_text.specs.declared.fault.RequestFault.TheVariants as requests
use Rattle.log_checker.specs.declared.fault.LogFault.{LogFault}
use Rattle.log_checker.specs.declared.fault.LogFault.TheVariants as logs
use Rattle.psbt_codec.specs.declared.fault.PsbtFault.{PsbtFault}
use Rattle.psbt_codec.specs.declared.fault.PsbtFault.TheVariants as psbts
use Rattle.command_end.specs.Coin.{coin_text, shown_hash}
use Rattle.command_end.specs.Name.{shown_name}

-- a fault of a transaction
unfoldable pub tx_fault_words : TxFault → List ℕ
tx_fault_words (txs.Truncated place) = codes "Truncated " ++ decimal place
tx_fault_words (txs.LongCompact place) = codes "LongCompact " ++ decimal place
tx_fault_words (txs.ValueRange output) = codes "ValueRange " ++ decimal output
tx_fault_words txs.NoInputs = codes "NoInputs"
tx_fault_words txs.NoOutputs = codes "NoOutputs"
tx_fault_words txs.BadFlag = codes "BadFlag"
tx_fault_words txs.EmptyWitness = codes "EmptyWitness"
tx_fault_words (txs.Trailing place) = codes "Trailing " ++ decimal place
tx_fault_words txs.Memory = codes "Memory"

-- a fault of a block file
unfoldable pub feed_fault_words : FeedFault → List ℕ
feed_fault_words (feeds.Magic place) = codes "Magic " ++ decimal place
feed_fault_words (feeds.Length place) = codes "Length " ++ decimal place
feed_fault_words (feeds.Tx height fault) = codes "Tx " ++ (decimal height ++ (32 ∷ tx_fault_words fault))
feed_fault_words (feeds.Merkle height) = codes "Merkle " ++ decimal height
feed_fault_words (feeds.Mutated height) = codes "Mutated " ++ decimal height
feed_fault_words (feeds.NotLinked kept found) = codes "NotLinked " ++ (shown_hash kept ++ (32 ∷ shown_hash found))
feed_fault_words (feeds.Trailing height) = codes "Trailing " ++ decimal height
feed_fault_words (feeds.Empty height) = codes "Empty " ++ decimal height
feed_fault_words feeds.Read = codes "Read"
feed_fault_words feeds.Limit = codes "Limit"
feed_fault_words feeds.Memory = codes "Memory"

-- a fault of an address
abbrev pub address_fault_words : AddrFault → List ℕ
address_fault_words addresses.Case = codes "Case"
address_fault_words addresses.Separator = codes "Separator"
address_fault_words addresses.Letter = codes "Letter"
address_fault_words addresses.Checksum = codes "Checksum"
address_fault_words addresses.Network = codes "Network"
address_fault_words addresses.Version = codes "Version"
address_fault_words addresses.Length = codes "Length"
address_fault_words addresses.Padding = codes "Padding"
address_fault_words addresses.Memory = codes "Memory"

-- a fault of a wallet file
unfoldable pub wallet_fault_words : WalletFault → List ℕ
wallet_fault_words wallets.NotJson = codes "NotJson"
wallet_fault_words (wallets.Kind name) = codes "Kind " ++ shown_name name
wallet_fault_words (wallets.Member name) = codes "Member " ++ shown_name (string_bytes name)
wallet_fault_words (wallets.Missing name) = codes "Missing " ++ shown_name name
wallet_fault_words (wallets.Script index) = codes "Script " ++ decimal index
wallet_fault_words (wallets.Weight index) = codes "Weight " ++ decimal index
wallet_fault_words (wallets.Tx list index fault) = codes "Tx " ++ (shown_name list ++ (32 ∷ decimal index ++ (32 ∷ tx_fault_words fault)))
wallet_fault_words (wallets.Repeat list index) = codes "Repeat " ++ (shown_name list ++ (32 ∷ decimal index))
wallet_fault_words (wallets.ParentLater index) = codes "ParentLater " ++ decimal index
wallet_fault_words wallets.Memory = codes "Memory"

-- a fault of a request file
unfoldable pub request_fault_words : RequestFault → List ℕ
request_fault_words requests.NotJson = codes "NotJson"
request_fault_words (requests.Kind name) = codes "Kind " ++ shown_name name
request_fault_words (requests.Member name) = codes "Member " ++ shown_name (string_bytes name)
request_fault_words (requests.Missing name) = codes "Missing " ++ shown_name name
request_fault_words (requests.Address index fault) = codes "Address " ++ (decimal index ++ (32 ∷ address_fault_words fault))
request_fault_words (requests.Script index) = codes "Script " ++ decimal index
request_fault_words (requests.AmountRange index) = codes "AmountRange " ++ decimal index
request_fault_words (requests.Dust index) = codes "Dust " ++ decimal index
request_fault_words requests.SumRange = codes "SumRange"
request_fault_words requests.NoRecipients = codes "NoRecipients"
request_fault_words (requests.RateRange name) = codes "RateRange " ++ shown_name name
request_fault_words requests.TriesRange = codes "TriesRange"
request_fault_words (requests.Repeat index) = codes "Repeat " ++ decimal index
request_fault_words requests.Memory = codes "Memory"

-- a fault of a closing log
unfoldable pub log_fault_words : LogFault → List ℕ
log_fault_words (logs.UnknownToken place) = codes "UnknownToken " ++ decimal place
log_fault_words (logs.ReasonFalse place) = codes "ReasonFalse " ++ decimal place
log_fault_words (logs.TooLong place) = codes "TooLong " ++ decimal place
log_fault_words logs.Open = codes "Open"
log_fault_words logs.AnswerNotMet = codes "AnswerNotMet"
log_fault_words (logs.BetterMet place) = codes "BetterMet " ++ decimal place
log_fault_words logs.AnswerNotAdmissible = codes "AnswerNotAdmissible"
log_fault_words logs.Memory = codes "Memory"

-- a fault of a PSBT
unfoldable pub psbt_fault_words : PsbtFault → List ℕ
psbt_fault_words psbts.Magic = codes "Magic"
psbt_fault_words (psbts.Truncated place) = codes "Truncated " ++ decimal place
psbt_fault_words (psbts.LongCompact place) = codes "LongCompact " ++ decimal place
psbt_fault_words (psbts.RepeatKey place) = codes "RepeatKey " ++ decimal place
psbt_fault_words psbts.NoUnsigned = codes "NoUnsigned"
psbt_fault_words (psbts.Unsigned fault) = codes "Unsigned " ++ tx_fault_words fault
psbt_fault_words psbts.NotBare = codes "NotBare"
psbt_fault_words (psbts.Field place) = codes "Field " ++ decimal place
psbt_fault_words (psbts.Version version) = codes "Version " ++ decimal version
psbt_fault_words (psbts.Mixed place) = codes "Mixed " ++ decimal place
psbt_fault_words (psbts.Lacking kind) = codes "Lacking " ++ decimal kind
psbt_fault_words (psbts.RequiredLock input) = codes "RequiredLock " ++ decimal input
psbt_fault_words (psbts.WrongParent input) = codes "WrongParent " ++ decimal input
psbt_fault_words (psbts.Trailing place) = codes "Trailing " ++ decimal place
psbt_fault_words psbts.NotBase64 = codes "NotBase64"
psbt_fault_words psbts.Memory = codes "Memory"

-- the state of a payment
unfoldable pub state_words : State → List ℕ
state_words (states.Confirmed height) = codes "Confirmed " ++ decimal height
state_words (states.Conflicted txid) = codes "Conflicted " ++ shown_hash txid
state_words states.Abandoned = codes "Abandoned"
state_words (states.Replaced txid) = codes "Replaced " ++ shown_hash txid
state_words states.Pending = codes "Pending"

-- the state of a payment, if there is the payment
unfoldable pub found_words : Option State → List ℕ
found_words None = codes "None"
found_words (Some state) = state_words state

-- why a payment isn't replaced, with the words of its fault line before it
unfoldable pub bump_fault_words : BumpFault → List ℕ
bump_fault_words (bumps.NotPending found) = codes "input bump NotPending " ++ found_words found
bump_fault_words bumps.NotSignalling = codes "input bump NotSignalling"
bump_fault_words (bumps.ForeignInput coin) = codes "input bump ForeignInput " ++ coin_text coin
bump_fault_words (bumps.TooManyEvicted n) = codes "input bump TooManyEvicted " ++ decimal n
bump_fault_words bumps.RateBelowIncrement = codes "input bump RateBelowIncrement"
bump_fault_words (bumps.RateNotHigher fee vsize) = codes "input bump RateNotHigher " ++ (decimal fee ++ (32 ∷ decimal vsize))
bump_fault_words bumps.Memory = codes "memory"

-- a fault of a plan, with the word of its fault line before it
unfoldable pub plan_fault_words : PlanFault → List ℕ
plan_fault_words (plans.Total sum) = codes "input plan Total " ++ decimal sum
plan_fault_words (plans.NotEligible coin) = codes "input plan NotEligible " ++ coin_text coin
plan_fault_words (plans.TooMany number n) = codes "limit groups"
plan_fault_words plans.Memory = codes "memory"

-- The sentence of a fault line, or of a report without a payment: by its words, from the front.
use Rattle.std.specs.Prelude.{ℕ, pos, ◌≡◌, ◌++◌, List, bytes_eq, codes, Option, Some, None, if◌then◌else◌}
use Rattle.fault_lines.specs.Sentences.{address_sentence, blocks_sentence, bump_sentence, check_sentence, differing_sentence, kept_sentence, key_global_sentence, key_input_sentence, key_output_sentence, keys_form_sentence, keys_kind_sentence, keys_member_sentence, keys_missing_sentence, keys_sentence, missing_sentence, none_sentence, not_pending_sentence, other_output_sentence, other_pairs_sentence, plan_sentence, psbt_sentence, rate_range_sentence, request_kind_sentence, request_member_sentence, request_missing_sentence, request_sentence, settle_sentence, signed_sentence, stop_sentence, tx_sentence, unfinished_sentence, unsuited_sentence, wallet_kind_sentence, wallet_member_sentence, wallet_missing_sentence, wallet_repeat_sentence, wallet_sentence}
use Rattle.fault_lines.specs.declared.stop.Stop.TheVariants as stops
use Rattle.fault_lines.specs.declared.unsuited.Unsuited.TheVariants as unsuited
use Rattle.tx_codec.specs.declared.fault.TxFault.TheVariants as txs
use Rattle.block_feed.specs.declared.fault.FeedFault.TheVariants as feeds
use Rattle.segwit_addr.specs.declared.fault.AddrFault.TheVariants as addresses
use Rattle.wallet_text.specs.declared.fault.WalletFault.TheVariants as wallets
use Rattle.json_fields.specs.declared.fault.FieldFault.TheVariants as fields
use Rattle.keys_text.specs.declared.fault.KeysFault.TheVariants as keys
use Rattle.request_text.specs.declared.fault.RequestFault.TheVariants as requests
use Rattle.fund_steps.specs.declared.fault.PlanFault.TheVariants as plans
use Rattle.kept_job.specs.declared.fault.KeptFault.TheVariants as jobs
use Rattle.log_checker.specs.declared.fault.LogFault.TheVariants as logs
use Rattle.report_check.specs.declared.fault.CheckFault.TheVariants as checks
use Rattle.psbt_codec.specs.declared.fault.PsbtFault.TheVariants as psbts
use Rattle.payment_states.specs.declared.state.State.TheVariants as states
use Rattle.fee_bump.specs.declared.fault.BumpFault.TheVariants as bumps
use Rattle.settle_check.specs.declared.fault.Differing.TheVariants as parts
use Rattle.settle_check.specs.declared.fault.SettleFault.TheVariants as settles
use Rattle.command_end.specs.Lines.{fault_line}
use Rattle.fault_lines.specs.Word.{after_word, begins, behind, no_coin, told, word, zeros}

-- the sentence of a transaction's fault, by its words
unfoldable pub tx_line : List ℕ → Option (List ℕ)
tx_line words =
    if begins (codes "Truncated ") words then Some (tx_sentence (txs.Truncated 0)) else
    if begins (codes "LongCompact ") words then Some (tx_sentence (txs.LongCompact 0)) else
    if begins (codes "ValueRange ") words then Some (tx_sentence (txs.ValueRange 0)) else
    if begins (codes "NoInputs") words then Some (tx_sentence txs.NoInputs) else
    if begins (codes "NoOutputs") words then Some (tx_sentence txs.NoOutputs) else
    if begins (codes "BadFlag") words then Some (tx_sentence txs.BadFlag) else
    if begins (codes "EmptyWitness") words then Some (tx_sentence txs.EmptyWitness) else
    if begins (codes "Trailing ") words then Some (tx_sentence (txs.Trailing 0)) else
    if begins (codes "Memory") words then Some (tx_sentence txs.Memory) else
    None

-- the sentence of an address's fault, by its word
unfoldable pub address_line : List ℕ → Option (List ℕ)
address_line words =
    if begins (codes "Case") words then Some (address_sentence addresses.Case) else
    if begins (codes "Separator") words then Some (address_sentence addresses.Separator) else
    if begins (codes "Letter") words then Some (address_sentence addresses.Letter) else
    if begins (codes "Checksum") words then Some (address_sentence addresses.Checksum) else
    if begins (codes "Network") words then Some (address_sentence addresses.Network) else
    if begins (codes "Version") words then Some (address_sentence addresses.Version) else
    if begins (codes "Length") words then Some (address_sentence addresses.Length) else
    if begins (codes "Padding") words then Some (address_sentence addresses.Padding) else
    if begins (codes "Memory") words then Some (address_sentence addresses.Memory) else
    None

-- the sentence of a wallet file's fault, by its words
unfoldable pub wallet_line : List ℕ → Option (List ℕ)
wallet_line words =
    if begins (codes "NotJson") words then Some (wallet_sentence wallets.NotJson) else
    told (behind (codes "Kind ") words) (λ rest. Some (wallet_kind_sentence (word rest))) (
    if begins (codes "Member ") words then Some (wallet_member_sentence) else
    if begins (codes "Missing ") words then Some (wallet_missing_sentence) else
    if begins (codes "Script ") words then Some (wallet_sentence (wallets.Script 0)) else
    if begins (codes "Weight ") words then Some (wallet_sentence (wallets.Weight 0)) else
    told (behind (codes "Tx ") words) (λ rest. tx_line (after_word (after_word rest))) (
    if begins (codes "Repeat ") words then Some (wallet_repeat_sentence) else
    if begins (codes "ParentLater ") words then Some (wallet_sentence (wallets.ParentLater 0)) else
    if begins (codes "Memory") words then Some (wallet_sentence wallets.Memory) else
    None))

-- the sentence of one of the other faults of a request file
unfoldable pub request_rest : List ℕ → Option (List ℕ)
request_rest words =
    if begins (codes "Dust ") words then Some (request_sentence (requests.Dust 0)) else
    if begins (codes "SumRange") words then Some (request_sentence requests.SumRange) else
    if begins (codes "NoRecipients") words then Some (request_sentence requests.NoRecipients) else
    if begins (codes "RateRange ") words then Some (rate_range_sentence) else
    if begins (codes "TriesRange") words then Some (request_sentence requests.TriesRange) else
    if begins (codes "Repeat ") words then Some (request_sentence (requests.Repeat 0)) else
    if begins (codes "Memory") words then Some (request_sentence requests.Memory) else
    None

-- the sentence of a request file's fault, by its words
unfoldable pub request_line : List ℕ → Option (List ℕ)
request_line words =
    if begins (codes "NotJson") words then Some (request_sentence requests.NotJson) else
    told (behind (codes "Kind ") words) (λ rest. Some (request_kind_sentence (word rest))) (
    told (behind (codes "Member ") words) (λ rest. Some (request_member_sentence (word rest))) (
    if begins (codes "Missing ") words then Some (request_missing_sentence) else
    told (behind (codes "Address ") words) (λ rest. address_line (after_word rest)) (
    if begins (codes "Script ") words then Some (request_sentence (requests.Script 0)) else
    if begins (codes "AmountRange ") words then Some (request_sentence (requests.AmountRange 0)) else
    request_rest words)))

-- the sentence of a fault of a keys file behind its form, by its words
unfoldable pub keys_rest : List ℕ → Option (List ℕ)
keys_rest words =
    if begins (codes "Script ") words then Some (keys_sentence (keys.Script 0)) else
    if begins (codes "Redeem ") words then Some (keys_sentence (keys.Redeem 0)) else
    if begins (codes "Witness ") words then Some (keys_sentence (keys.Witness 0)) else
    if begins (codes "Internal ") words then Some (keys_sentence (keys.Internal 0)) else
    if begins (codes "Key ") words then Some (keys_sentence (keys.Key 0 0)) else
    if begins (codes "RepeatKey ") words then Some (keys_sentence (keys.RepeatKey 0 0)) else
    if begins (codes "Xpub ") words then Some (keys_sentence (keys.Xpub 0)) else
    if begins (codes "RepeatXpub ") words then Some (keys_sentence (keys.RepeatXpub 0)) else
    None

-- the sentence of a keys file's fault, by its words
unfoldable pub keys_line : List ℕ → Option (List ℕ)
keys_line words =
    if begins (codes "NotJson") words then Some (keys_form_sentence fields.NotJson) else
    if begins (codes "Kind ") words then Some keys_kind_sentence else
    if begins (codes "Member ") words then Some keys_member_sentence else
    if begins (codes "Missing ") words then Some keys_missing_sentence else
    if begins (codes "Memory") words then Some (keys_form_sentence fields.Memory) else
    keys_rest words

-- the sentence of a block file's fault, by its words
unfoldable pub blocks_line : List ℕ → Option (List ℕ)
blocks_line words =
    if begins (codes "Magic ") words then Some (blocks_sentence (feeds.Magic 0)) else
    if begins (codes "Length ") words then Some (blocks_sentence (feeds.Length 0)) else
    if begins (codes "Tx ") words then Some (blocks_sentence (feeds.Tx 0 txs.NoInputs)) else
    if begins (codes "Merkle ") words then Some (blocks_sentence (feeds.Merkle 0)) else
    if begins (codes "Mutated ") words then Some (blocks_sentence (feeds.Mutated 0)) else
    if begins (codes "NotLinked ") words then Some (blocks_sentence (feeds.NotLinked zeros zeros)) else
    if begins (codes "Trailing ") words then Some (blocks_sentence (feeds.Trailing 0)) else
    if begins (codes "Empty ") words then Some (blocks_sentence (feeds.Empty 0)) else
    if begins (codes "Read") words then Some (blocks_sentence feeds.Read) else
    if begins (codes "Limit") words then Some (blocks_sentence feeds.Limit) else
    if begins (codes "Memory") words then Some (blocks_sentence feeds.Memory) else
    None

-- the sentence of why `wide`, `share` or `sweep` doesn't pay, by its words
unfoldable pub unsuited_line : List ℕ → Option (List ℕ)
unsuited_line words =
    if begins (codes "NotWide") words then Some (unsuited_sentence unsuited.NotWide) else
    if begins (codes "NotShare") words then Some (unsuited_sentence unsuited.NotShare) else
    if begins (codes "NotSweep") words then Some (unsuited_sentence unsuited.NotSweep) else
    if begins (codes "ShareDust ") words then Some (unsuited_sentence (unsuited.ShareDust 0)) else
    if begins (codes "TooHeavy ") words then Some (unsuited_sentence (unsuited.TooHeavy 0)) else
    None

-- the sentence of a plan's fault, by its words
unfoldable pub plan_line : List ℕ → Option (List ℕ)
plan_line words =
    if begins (codes "Total ") words then Some (plan_sentence (plans.Total 0)) else
    if begins (codes "NotEligible ") words then Some (plan_sentence (plans.NotEligible no_coin)) else
    unsuited_line words

-- the sentence of a payment that isn't there or doesn't wait, by the words of its state
unfoldable pub state_line : List ℕ → Option (List ℕ)
state_line words =
    if begins (codes "None") words then Some (not_pending_sentence None) else
    if begins (codes "Confirmed ") words then Some (not_pending_sentence (Some (states.Confirmed 0))) else
    if begins (codes "Conflicted ") words then Some (not_pending_sentence (Some (states.Conflicted zeros))) else
    if begins (codes "Abandoned") words then Some (not_pending_sentence (Some states.Abandoned)) else
    if begins (codes "Replaced ") words then Some (not_pending_sentence (Some (states.Replaced zeros))) else
    if begins (codes "Pending") words then Some (not_pending_sentence (Some states.Pending)) else
    None

-- the sentence of why a payment isn't replaced, by its words
unfoldable pub bump_line : List ℕ → Option (List ℕ)
bump_line words =
    told (behind (codes "NotPending ") words) (λ rest. state_line rest) (
    if begins (codes "NotSignalling") words then Some (bump_sentence bumps.NotSignalling) else
    if begins (codes "ForeignInput ") words then Some (bump_sentence (bumps.ForeignInput no_coin)) else
    if begins (codes "TooManyEvicted ") words then Some (bump_sentence (bumps.TooManyEvicted 0)) else
    if begins (codes "RateBelowIncrement") words then Some (bump_sentence bumps.RateBelowIncrement) else
    if begins (codes "RateNotHigher ") words then Some (bump_sentence (bumps.RateNotHigher 0 0)) else
    None)

-- the sentence of one of the other faults of a PSBT
unfoldable pub psbt_rest : List ℕ → Option (List ℕ)
psbt_rest words =
    if begins (codes "Version ") words then Some (psbt_sentence (psbts.Version 0)) else
    if begins (codes "Mixed ") words then Some (psbt_sentence (psbts.Mixed 0)) else
    if begins (codes "Lacking ") words then Some (psbt_sentence (psbts.Lacking 0)) else
    if begins (codes "RequiredLock ") words then Some (psbt_sentence (psbts.RequiredLock 0)) else
    if begins (codes "WrongParent ") words then Some (psbt_sentence (psbts.WrongParent 0)) else
    if begins (codes "Trailing ") words then Some (psbt_sentence (psbts.Trailing 0)) else
    if begins (codes "NotBase64") words then Some (psbt_sentence psbts.NotBase64) else
    if begins (codes "OtherPairs") words then Some (other_pairs_sentence) else
    if begins (codes "Missing ") words then Some (missing_sentence) else
    if begins (codes "OtherOutput ") words then Some (other_output_sentence) else
    if begins (codes "KeyGlobal ") words then Some key_global_sentence else
    if begins (codes "KeyInput ") words then Some key_input_sentence else
    if begins (codes "KeyOutput ") words then Some key_output_sentence else
    if begins (codes "Memory") words then Some (psbt_sentence psbts.Memory) else
    None

-- the sentence of a PSBT's fault, by its words
unfoldable pub psbt_line : List ℕ → Option (List ℕ)
psbt_line words =
    if begins (codes "Magic") words then Some (psbt_sentence psbts.Magic) else
    if begins (codes "Truncated ") words then Some (psbt_sentence (psbts.Truncated 0)) else
    if begins (codes "LongCompact ") words then Some (psbt_sentence (psbts.LongCompact 0)) else
    if begins (codes "RepeatKey ") words then Some (psbt_sentence (psbts.RepeatKey 0)) else
    if begins (codes "NoUnsigned") words then Some (psbt_sentence psbts.NoUnsigned) else
    if begins (codes "Unsigned ") words then Some (psbt_sentence (psbts.Unsigned txs.NoInputs)) else
    if begins (codes "NotBare") words then Some (psbt_sentence psbts.NotBare) else
    if begins (codes "Field ") words then Some (psbt_sentence (psbts.Field 0)) else
    psbt_rest words

-- the sentence of a kept job's fault, by its words
unfoldable pub kept_line : List ℕ → Option (List ℕ)
kept_line words =
    if begins (codes "NoJob") words then Some (kept_sentence jobs.NoJob) else
    if begins (codes "SavedForm ") words then Some (kept_sentence (jobs.Form 0)) else
    if begins (codes "JobElse ") words then Some (kept_sentence (jobs.JobElse zeros zeros)) else
    if begins (codes "SavedFalse Part ") words then Some (kept_sentence (jobs.Part 0)) else
    if begins (codes "SavedFalse Parts ") words then Some (kept_sentence (jobs.Parts zeros zeros)) else
    if begins (codes "SavedFalse Section ") words then Some (kept_sentence (jobs.Section 0)) else
    if begins (codes "SavedFalse IllFormed") words then Some (kept_sentence jobs.IllFormed) else
    if begins (codes "SavedFalse Log ") words then Some (kept_sentence (jobs.Log 0 logs.Open)) else
    None

-- the sentence of a rule that a report breaks, by its words
unfoldable pub check_line : List ℕ → Option (List ℕ)
check_line words =
    if begins (codes "Report ") words then Some (check_sentence (checks.Report 0)) else
    if begins (codes "Psbt ") words then Some (check_sentence (checks.Psbt psbts.Magic)) else
    if begins (codes "Coin ") words then Some (check_sentence (checks.Coin no_coin)) else
    if begins (codes "Pays") words then Some (check_sentence checks.Pays) else
    if begins (codes "LogForm ") words then Some (check_sentence (checks.LogForm 0)) else
    if begins (codes "Section ") words then Some (check_sentence (checks.Section 0)) else
    if begins (codes "Log ") words then Some (check_sentence (checks.Log 0 logs.Open)) else
    if begins (codes "Answer") words then Some (check_sentence checks.Answer) else
    if begins (codes "Memory") words then Some (check_sentence checks.Memory) else
    None

-- the sentence of what is wrong with the file of a signed transaction, by its words
unfoldable pub signed_line : List ℕ → Option (List ℕ)
signed_line words =
    if begins (codes "Hex") words then Some (stop_sentence stops.NotHex) else
    if begins (codes "Truncated ") words then Some (signed_sentence (txs.Truncated 0)) else
    if begins (codes "LongCompact ") words then Some (signed_sentence (txs.LongCompact 0)) else
    if begins (codes "ValueRange ") words then Some (signed_sentence (txs.ValueRange 0)) else
    if begins (codes "NoInputs") words then Some (signed_sentence txs.NoInputs) else
    if begins (codes "NoOutputs") words then Some (signed_sentence txs.NoOutputs) else
    if begins (codes "BadFlag") words then Some (signed_sentence txs.BadFlag) else
    if begins (codes "EmptyWitness") words then Some (signed_sentence txs.EmptyWitness) else
    if begins (codes "Trailing ") words then Some (signed_sentence (txs.Trailing 0)) else
    if begins (codes "Memory") words then Some (signed_sentence txs.Memory) else
    None

-- the sentence of in what a signed transaction is another payment, by its words
unfoldable pub differing_line : List ℕ → Option (List ℕ)
differing_line words =
    if begins (codes "Version") words then Some (differing_sentence parts.Version) else
    if begins (codes "Locktime") words then Some (differing_sentence parts.Locktime) else
    if begins (codes "Count") words then Some (differing_sentence parts.Count) else
    if begins (codes "Input ") words then Some (differing_sentence (parts.Input 0)) else
    if begins (codes "Output ") words then Some (differing_sentence (parts.Output 0)) else
    None

-- the sentence of a rule that a signed transaction breaks, or the report beside it, by its words
unfoldable pub settle_line : List ℕ → Option (List ℕ)
settle_line words =
    if begins (codes "Report ") words then Some (settle_sentence (settles.Report 0)) else
    if begins (codes "NotFunded") words then Some (settle_sentence settles.NotFunded) else
    if begins (codes "Psbt ") words then Some (settle_sentence (settles.Psbt psbts.Magic)) else
    if begins (codes "NoValue ") words then Some (settle_sentence (settles.NoValue 0)) else
    if begins (codes "Foreign ") words then Some (settle_sentence (settles.Foreign 0)) else
    told (behind (codes "Differs ") words) (λ rest. differing_line rest) (
    if begins (codes "Unsigned ") words then Some (settle_sentence (settles.Unsigned 0)) else
    if begins (codes "Heavier ") words then Some (settle_sentence (settles.Heavier 0 0 0)) else
    if begins (codes "TooHeavy ") words then Some (settle_sentence (settles.TooHeavy 0)) else
    if begins (codes "BelowRate ") words then Some (settle_sentence (settles.BelowRate (pos 0) 0)) else
    None)

-- the sentence of a limit, by the word of what is above it
unfoldable pub limit_line : List ℕ → Option (List ℕ)
limit_line words =
    if begins (codes "wallet") words then Some (stop_sentence stops.WalletLimit) else
    if begins (codes "blocks") words then Some (stop_sentence stops.BlocksLimit) else
    if begins (codes "request") words then Some (stop_sentence stops.RequestLimit) else
    if begins (codes "coins") words then Some (stop_sentence stops.CoinsLimit) else
    if begins (codes "groups") words then Some (plan_sentence (plans.TooMany 0 0)) else
    if begins (codes "tries") words then Some (kept_sentence jobs.Spent) else
    if begins (codes "report") words then Some (stop_sentence stops.ReportLimit) else
    if begins (codes "log") words then Some (stop_sentence stops.LogLimit) else
    if begins (codes "script") words then Some (stop_sentence stops.ScriptLimit) else
    if begins (codes "psbt") words then Some (stop_sentence stops.PsbtLimit) else
    if begins (codes "keys") words then Some (stop_sentence stops.KeysLimit) else
    if begins (codes "tx") words then Some (stop_sentence stops.TxLimit) else
    None

-- the sentence of an input that is refused, by the word of the input and its fault
unfoldable pub input_line : List ℕ → Option (List ℕ)
input_line words =
    told (behind (codes "wallet ") words) (λ rest. wallet_line rest) (
    told (behind (codes "blocks ") words) (λ rest. blocks_line rest) (
    told (behind (codes "request ") words) (λ rest. request_line rest) (
    told (behind (codes "plan ") words) (λ rest. plan_line rest) (
    told (behind (codes "bump ") words) (λ rest. bump_line rest) (
    told (behind (codes "psbt ") words) (λ rest. psbt_line rest) (
    told (behind (codes "tx ") words) (λ rest. signed_line rest) (
    told (behind (codes "keys ") words) (λ rest. keys_line rest) (
    if begins (codes "book RepeatCoin ") words then Some (stop_sentence stops.RepeatCoin) else
    None))))))))

-- the sentence of what stands behind the word `fault`
unfoldable pub words_sentence : List ℕ → Option (List ℕ)
words_sentence words =
    told (behind (codes "input ") words) (λ rest. input_line rest) (
    told (behind (codes "limit ") words) (λ rest. limit_line rest) (
    told (behind (codes "saved ") words) (λ rest. kept_line rest) (
    told (behind (codes "check ") words) (λ rest. check_line rest) (
    told (behind (codes "settle ") words) (λ rest. settle_line rest) (
    if begins (codes "read ") words then Some (stop_sentence stops.Read) else
    if begins (codes "write ") words then Some (stop_sentence stops.Write) else
    if begins (codes "keep") words then Some (stop_sentence stops.Keep) else
    if begins (codes "memory") words then Some (stop_sentence stops.Memory) else
    if begins (codes "usage") words then Some (stop_sentence stops.Usage) else
    None)))))

-- the sentence of a report without a payment, by its first word
unfoldable pub unpaid_line : List ℕ → Option (List ℕ)
unpaid_line line =
    if bytes_eq (word line) (codes "none") then Some none_sentence else
    if bytes_eq (word line) (codes "unfinished") then Some unfinished_sentence else
    None

-- the sentence of a fault line, behind the word `fault`, or of a report without a payment
unfoldable pub line_sentence : List ℕ → Option (List ℕ)
line_sentence line = told (behind (codes "fault ") line) (λ words. words_sentence words) (unpaid_line line)

-- the fault line of these words has this sentence
abbrev pub HasSentence : List ℕ → List ℕ → Type 0
HasSentence words sentence = line_sentence (fault_line words) ≡ Some sentence

-- each fault line whose words begin so has this sentence, whatever stands after these
abbrev pub AllHaveSentence : List ℕ → List ℕ → Type 0
AllHaveSentence front sentence = (rest : List ℕ) → HasSentence (front ++ rest) sentence

-- The sentence of each line by which a command refuses its files.
use Rattle.std.specs.Prelude.{ℕ, List}
use Rattle.command_check.specs.declared.stop.CheckedFile.{CheckedFile}
use Rattle.command_check.specs.declared.stop.CheckedFile.TheVariants as proofs
use Rattle.command_complete.specs.declared.stop.Refusal as completions
use Rattle.command_complete.specs.declared.stop.Refusal.TheVariants as incomplete
use Rattle.command_inputs.specs.declared.refusal.Refusal as payments
use Rattle.command_inputs.specs.declared.refusal.Refusal.TheVariants as unpaid
use Rattle.command_settle.specs.declared.stop.Refusal as settlings
use Rattle.command_settle.specs.declared.stop.Refusal.TheVariants as unsettled
use Rattle.fault_laws.specs.Numbers.{HasRequestNumbers, HasWalletNumbers}
use Rattle.fault_lines.specs.Sentences.{blocks_sentence, bump_sentence, key_global_sentence, key_input_sentence, key_output_sentence, missing_sentence, other_output_sentence, other_pairs_sentence, plan_sentence, psbt_sentence, request_sentence, settle_sentence, signed_sentence, stop_sentence, wallet_sentence}
use Rattle.fault_lines.specs.declared.stop.Stop.TheVariants as stops
use Rattle.fund_files.specs.declared.refusal.File.{File}
use Rattle.fund_files.specs.declared.refusal.File.TheVariants as files
use Rattle.fund_files.specs.declared.refusal.FileRefusal.{FileRefusal}
use Rattle.fund_files.specs.declared.refusal.FileRefusal.TheVariants as refused
use Rattle.command_complete.specs.declared.fault.CompleteFault.TheVariants as inputs
use Rattle.psbt_keys.specs.declared.fault.KeyFault.{KeyFault}
use Rattle.psbt_keys.specs.declared.fault.KeyFault.TheVariants as unkeyed

-- a file that is longer than its limit
abbrev pub limit_sentence : File → List ℕ
limit_sentence files.Wallet = stop_sentence stops.WalletLimit
limit_sentence files.Blocks = stop_sentence stops.BlocksLimit
limit_sentence files.Request = stop_sentence stops.RequestLimit

-- a report or a log that is longer than its limit
abbrev pub evidence_sentence : CheckedFile → List ℕ
evidence_sentence proofs.Report = stop_sentence stops.ReportLimit
evidence_sentence proofs.Log = stop_sentence stops.LogLimit

-- a file that is refused
abbrev pub file_sentence : FileRefusal → List ℕ
file_sentence (refused.TooLong file) = limit_sentence file
file_sentence (refused.BadWallet fault) = wallet_sentence fault
file_sentence (refused.BadBlocks fault) = blocks_sentence fault
file_sentence (refused.RepeatCoin coin) = stop_sentence stops.RepeatCoin
file_sentence refused.ManyCoins = stop_sentence stops.CoinsLimit
file_sentence (refused.BadRequest fault) = request_sentence fault

-- a payment that is refused
abbrev pub payment_sentence : payments.Refusal → List ℕ
payment_sentence (unpaid.Files refusal) = file_sentence refusal
payment_sentence (unpaid.Bump fault) = bump_sentence fault
payment_sentence (unpaid.Plan fault) = plan_sentence fault

-- a PSBT file that is refused
abbrev pub completion_sentence : completions.Refusal → List ℕ
completion_sentence (incomplete.Psbt fault) = psbt_sentence fault
completion_sentence incomplete.OtherPairs = other_pairs_sentence
completion_sentence (incomplete.Input (inputs.Missing index coin)) = missing_sentence
completion_sentence (incomplete.Input (inputs.OtherOutput index coin)) = other_output_sentence
completion_sentence (incomplete.Input inputs.Memory) = stop_sentence stops.Memory

-- a PSBT to which keys aren't added
abbrev pub keyed_sentence : KeyFault → List ℕ
keyed_sentence (unkeyed.Psbt fault) = psbt_sentence fault
keyed_sentence (unkeyed.Global number) = key_global_sentence
keyed_sentence (unkeyed.Input index kind) = key_input_sentence
keyed_sentence (unkeyed.Output index kind) = key_output_sentence

-- a signed transaction that is refused, or a file beside it
abbrev pub settling_sentence : settlings.Refusal → List ℕ
settling_sentence (unsettled.File refusal) = file_sentence refusal
settling_sentence unsettled.LongReport = stop_sentence stops.ReportLimit
settling_sentence unsettled.LongTx = stop_sentence stops.TxLimit
settling_sentence unsettled.NotHex = stop_sentence stops.NotHex
settling_sentence (unsettled.NotTx fault) = signed_sentence fault
settling_sentence (unsettled.Unsettled fault) = settle_sentence fault

-- the indexes of a refusal have 128 bits at most
abbrev pub HasFileNumbers : FileRefusal → Type 0
HasFileNumbers (refused.BadWallet fault) = HasWalletNumbers fault
HasFileNumbers (refused.BadRequest fault) = HasRequestNumbers fault
HasFileNumbers _ = Unit {0}

abbrev pub HasPaymentNumbers : payments.Refusal → Type 0
HasPaymentNumbers (unpaid.Files refusal) = HasFileNumbers refusal
HasPaymentNumbers _ = Unit {0}

abbrev pub HasSettlingNumbers : settlings.Refusal → Type 0
HasSettlingNumbers (unsettled.File refusal) = HasFileNumbers refusal
HasSettlingNumbers _ = Unit {0}

-- What is printed of a payment that is settled, and how one that isn't is answered.
use Rattle.std.specs.Prelude.{ℕ, ◌-◌, List, ◌∷◌, ◌++◌, codes, sum, sum_by}
use Rattle.std.specs.Fmt.{decimal, signed_decimal}
use Rattle.fee_rates.specs.Fee.{vsize_of}
use Rattle.fund_report.specs.ReportText.{line}
use Rattle.settle_check.specs.Settled.{true_weight_of, worth_of}
use Rattle.settle_check.specs.declared.fault.Differing.{Differing}
use Rattle.settle_check.specs.declared.fault.Differing.TheVariants.{Version, Locktime, Count, Input, Output}
use Rattle.settle_check.specs.declared.fault.SettleFault.{SettleFault}
use Rattle.settle_check.specs.declared.fault.SettleFault.TheVariants as faults
use Rattle.tx_codec.specs.Transaction.{Transaction}
use Rattle.tx_codec.specs.Txid.{txid_of}
use Rattle.tx_codec.specs.Weight.{weight_of}
use Rattle.tx_codec.specs.declared.tx.TxOut.{TxOut}
use Rattle.command_end.specs.Coin.{shown_hash}
use Rattle.command_end.specs.Lines.{file_refusal_words}
use Rattle.command_end.specs.Words.{psbt_fault_words, tx_fault_words}
use Rattle.command_settle.specs.declared.stop.Refusal.{Refusal}
use Rattle.command_settle.specs.declared.stop.Refusal.TheVariants as refusals

-- ---- a payment that is settled

-- the lines of these: the txid, the weight, the size, the fee and what the inputs weigh less than declared
unfoldable pub figures_text : (txid : List ℕ) → (weight vsize fee spare : ℕ) → List ℕ
figures_text txid weight vsize fee spare =
    line (codes "settled ") (shown_hash txid)
    ++ (line (codes "weight ") (decimal weight) ++ (line (codes "vsize ") (decimal vsize) ++ (line (codes "fee ") (decimal fee) ++ line (codes "spare ") (decimal spare))))

-- what is printed of a signed transaction that spends these outputs, its inputs having been declared to weigh so
abbrev pub settled_text : Transaction → List TxOut → (declared : List ℕ) → List ℕ
settled_text signed spent declared =
    figures_text (txid_of signed) (weight_of signed) (vsize_of (weight_of signed)) (worth_of spent - worth_of signed.outputs) (sum declared - sum_by (true_weight_of signed.segwit) signed.inputs)

-- ---- one that isn't

-- in what a transaction is another payment
unfoldable pub differing_words : Differing → List ℕ
differing_words Version = codes "Version"
differing_words Locktime = codes "Locktime"
differing_words Count = codes "Count"
differing_words (Input index) = codes "Input " ++ decimal index
differing_words (Output index) = codes "Output " ++ decimal index

-- a broken rule: the variant's name and its fields, each after one blank
unfoldable pub settle_fault_words : SettleFault → List ℕ
settle_fault_words (faults.Report place) = codes "Report " ++ decimal place
settle_fault_words faults.NotFunded = codes "NotFunded"
settle_fault_words (faults.Psbt fault) = codes "Psbt " ++ psbt_fault_words fault
settle_fault_words (faults.NoValue index) = codes "NoValue " ++ decimal index
settle_fault_words (faults.Foreign index) = codes "Foreign " ++ decimal index
settle_fault_words (faults.Differs part) = codes "Differs " ++ differing_words part
settle_fault_words (faults.Unsigned index) = codes "Unsigned " ++ decimal index
settle_fault_words (faults.Heavier index declared weight) = codes "Heavier " ++ (decimal index ++ (32 ∷ decimal declared ++ (32 ∷ decimal weight)))
settle_fault_words (faults.TooHeavy weight) = codes "TooHeavy " ++ decimal weight
settle_fault_words (faults.BelowRate fee needed) = codes "BelowRate " ++ (signed_decimal fee ++ (32 ∷ decimal needed))

-- what the line of a refusal says behind the word fault
abbrev pub refusal_words : Refusal → List ℕ
refusal_words (refusals.File refusal) = file_refusal_words refusal
refusal_words refusals.LongReport = codes "limit report"
refusal_words refusals.LongTx = codes "limit tx"
refusal_words refusals.NotHex = codes "input tx Hex"
refusal_words (refusals.NotTx fault) = codes "input tx " ++ tx_fault_words fault
refusal_words (refusals.Unsettled fault) = codes "settle " ++ settle_fault_words fault

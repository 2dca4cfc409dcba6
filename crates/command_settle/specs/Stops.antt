-- Why the command stops before it says that a payment is settled.
use Rattle.std.specs.Prelude.{ℕ, ◌≡◌, ◌⊎◌, List, [], ◌++◌, codes, Ok, Err}
use Rattle.fund_files.specs.Cause as causes
use Rattle.fund_files.specs.FileStops.{IsWalletCause}
use Rattle.fund_files.specs.Refusals.{IsRequestCause}
use Rattle.fund_files.specs.declared.stop.Stop.{Stop as FileStop}
use Rattle.fund_files.specs.declared.stop.Stop.TheVariants as files
use Rattle.fund_report.specs.declared.fault.ReportFault.{ReportFault}
use Rattle.fund_report.specs.declared.fault.ReportFault.TheVariants as forms
use Rattle.fund_shelf.specs.Causes.{Rose, ShelfView, SinkView}
use Rattle.psbt_codec.specs.Text.{HasPsbtFault}
use Rattle.psbt_codec.specs.declared.fault.PsbtFault.{PsbtFault}
use Rattle.psbt_codec.specs.declared.fault.PsbtFault.TheVariants as psbts
use Rattle.request_text.specs.PlainRequest.{PlainRequest}
use Rattle.settle_check.specs.declared.fault.SettleFault.{SettleFault}
use Rattle.settle_check.specs.declared.fault.SettleFault.TheVariants as faults
use Rattle.tx_codec.specs.Transaction.{Transaction}
use Rattle.tx_codec.specs.declared.tx.TxOut.{TxOut}
use Rattle.wallet_text.specs.PlainWallet.{PlainWallet}
use Rattle.wallet_text.specs.declared.wallet.Watch.{Watch}
use Rattle.command_end.specs.AnswerLines.{IsAnswered}
use Rattle.command_end.specs.declared.status.Status.{Status}
use Rattle.command_end.specs.declared.status.Status.TheVariants as statuses
use Rattle.command_settle.specs.Files.{Cause, File, IsLongReport, IsLongTx, IsReached, IsUnread, LongReport, LongTx, NotHex, NotTx, Unsettled, judged_with, signed_of}
use Rattle.command_settle.specs.Names.{Names, name_of}
use Rattle.command_settle.specs.Outcome.{BreaksBy, ComesTo, IsSettledIn, IsUnsettled, Refused, status_of_cause}
use Rattle.command_settle.specs.Payment.{IsFirstNone, IsPaymentFault, Known, output_of, weight_of}
use Rattle.command_settle.specs.Words.{refusal_words}
use Rattle.command_settle.specs.declared.stop.Refusal.{Refusal}
use Rattle.command_settle.specs.declared.stop.Refusal.TheVariants as refusals
use Rattle.command_settle.specs.declared.stop.SettleFile.{SettleFile}
use Rattle.command_settle.specs.declared.stop.SettleFile.TheVariants.{Wallet, Request, Report, Tx}
use Rattle.command_settle.specs.declared.stop.Stop.{Stop}
use Rattle.command_settle.specs.declared.stop.Stop.TheVariants as stops

-- the cause of a refusal
abbrev pub cause_of : Refusal → Cause
cause_of (refusals.File refusal) = File (causes.cause_of refusal)
cause_of refusals.LongReport = LongReport
cause_of refusals.LongTx = LongTx
cause_of refusals.NotHex = NotHex
cause_of (refusals.NotTx fault) = NotTx fault
cause_of (refusals.Unsettled fault) = Unsettled fault

-- ---- one file

-- the stop of a wallet or a request that isn't read
abbrev pub file_stop_of : SettleFile → FileStop → Stop
file_stop_of file (files.Read other) = stops.Read file
file_stop_of file (files.Refused refusal) = stops.Refused (refusals.File refusal)
file_stop_of file files.Memory = stops.Memory

-- a read of this file failed, or it is refused for a cause
abbrev pub StopsAt : SettleFile → Type 0 → (Cause → Type 0) → Stop → Type 0
StopsAt file failed refused (stops.Read other) = (other ≡ file) × failed
StopsAt file failed refused (stops.Refused refusal) = refused (cause_of refusal)
StopsAt file failed refused stops.Memory = Unit {0}

-- of the wallet
abbrev pub StopsAtWallet : Type 0 → (name : List ℕ) → ShelfView → ShelfView → Stop → Type 0
StopsAtWallet told name old new stop =
    StopsAt Wallet (Rose (old.reads name) (new.reads name)) (λ cause. told → (c : causes.FileCause) × (cause ≡ File c) × IsWalletCause (old.files name) c) stop

-- of the request
abbrev pub StopsAtRequest : Type 0 → (name : List ℕ) → ShelfView → ShelfView → Stop → Type 0
StopsAtRequest told name old new stop =
    StopsAt Request (Rose (old.reads name) (new.reads name)) (λ cause. told → (c : causes.FileCause) × (cause ≡ File c) × IsRequestCause (old.files name) c) stop

-- of the report
abbrev pub StopsAtReport : Type 0 → (name : List ℕ) → ShelfView → ShelfView → Stop → Type 0
StopsAtReport told name old new stop = StopsAt Report (Rose (old.reads name) (new.reads name)) (λ cause. told → (cause ≡ LongReport) × IsLongReport (old.files name)) stop

-- of the transaction
abbrev pub StopsAtTx : Type 0 → (name : List ℕ) → ShelfView → ShelfView → Stop → Type 0
StopsAtTx told name old new stop = StopsAt Tx (Rose (old.reads name) (new.reads name)) (λ cause. told → (cause ≡ LongTx) × IsLongTx (old.files name)) stop

-- a refusal that says nothing of what the report and the transaction are
abbrev pub IsFileCause : Cause → Type 0
IsFileCause (File cause) = Unit {0}
IsFileCause LongReport = Unit {0}
IsFileCause LongTx = Unit {0}
IsFileCause NotHex = ⊥
IsFileCause (NotTx fault) = ⊥
IsFileCause (Unsettled fault) = ⊥

-- a stop that doesn't
abbrev pub IsFileStop : Stop → Type 0
IsFileStop (stops.Read file) = Unit {0}
IsFileStop (stops.Refused refusal) = IsFileCause (cause_of refusal)
IsFileStop stops.Memory = Unit {0}

-- ---- what they hold

-- no file is read, and what was read is refused for such a cause
abbrev pub StopsAs : (Cause → Type 0) → Stop → Type 0
StopsAs refused (stops.Read file) = ⊥
StopsAs refused (stops.Refused refusal) = refused (cause_of refusal)
StopsAs refused stops.Memory = Unit {0}

-- for a broken rule
abbrev pub StopsBy : (SettleFault → Type 0) → Stop → Type 0
StopsBy broken stop = StopsAs (BreaksBy broken) stop

-- the bytes leave the reports at a place, or are the report of no payment
abbrev pub IsFormFault : List ℕ → SettleFault → Type 0
IsFormFault report (faults.Report place) = IsPaymentFault report [] (faults.Report place)
IsFormFault report faults.NotFunded = IsPaymentFault report [] faults.NotFunded
IsFormFault report fault = ⊥

-- the text of the PSBT has this fault first
abbrev pub IsTextFault : List ℕ → SettleFault → Type 0
IsTextFault text fault = (e : PsbtFault) × (fault ≡ faults.Psbt e) × HasPsbtFault text e

-- the output that this input spends isn't told
abbrev pub IsValueFault : List Known → SettleFault → Type 0
IsValueFault known fault = (index : ℕ) × (fault ≡ faults.NoValue index) × IsFirstNone output_of known index

-- this output's script isn't listed
abbrev pub IsScriptFault : List Watch → List TxOut → SettleFault → Type 0
IsScriptFault scripts spent fault = (index : ℕ) × (fault ≡ faults.Foreign index) × IsFirstNone (weight_of scripts) spent index

-- the stop of a report that isn't read
abbrev pub report_stop_of : ReportFault → Stop
report_stop_of (forms.Form place) = stops.Refused (refusals.Unsettled (faults.Report place))
report_stop_of forms.Memory = stops.Memory

-- the stop of a PSBT that isn't read
abbrev pub psbt_stop_of : PsbtFault → Stop
psbt_stop_of psbts.Memory = stops.Memory
psbt_stop_of fault = stops.Refused (refusals.Unsettled (faults.Psbt fault))

-- why what was read is refused: for the transaction, or else for the first broken rule
abbrev pub IsContentCause : PlainWallet → PlainRequest → (report tx : List ℕ) → Cause → Type 0
IsContentCause w r report tx cause =
    (signed_of tx ≡ Err cause) ⊎ ((t : Transaction) × (signed_of tx ≡ Ok t) × BreaksBy (IsUnsettled report (judged_with w r t)) cause)

-- what is printed where no rule is broken
abbrev pub IsContentSettled : PlainWallet → PlainRequest → (report tx : List ℕ) → (text : List ℕ) → Type 0
IsContentSettled w r report tx text = (t : Transaction) × (signed_of tx ≡ Ok t) × IsSettledIn report (judged_with w r t) text

-- ---- the files

-- A read of a file failed, those before it being in order; or the files come to a refusal.
abbrev pub StopsFor : Type 0 → Names → ShelfView → ShelfView → Stop → Type 0
StopsFor told n old new (stops.Read file) = IsUnread n file old new × (told → IsReached old.files n file)
StopsFor told n old new (stops.Refused refusal) = told → ComesTo old.files n (Refused (cause_of refusal))
StopsFor told n old new stops.Memory = Unit {0}

-- ---- the answer

-- the status of a stop
abbrev pub stop_status : Stop → Status
stop_status (stops.Read file) = statuses.ReadFault
stop_status (stops.Refused refusal) = status_of_cause (cause_of refusal)
stop_status stops.Memory = statuses.Memory

-- what the line of a stop says behind the word fault
abbrev pub stop_words : Names → Stop → List ℕ
stop_words n (stops.Read file) = codes "read " ++ name_of n file
stop_words n (stops.Refused refusal) = refusal_words refusal
stop_words n stops.Memory = codes "memory"

-- the answer to a stop: its status, with its line
abbrev pub IsStopped : Type 0 → Names → Stop → SinkView → SinkView → Status → Type 0
IsStopped told n stop old new result = IsAnswered told (stop_words n stop) (stop_status stop) old new result

-- Why a signed transaction isn't shown to settle a payment.
use Rattle.std.specs.Prelude.{ℕ, ◌≡◌, ◌⊎◌, List, Err}
use Rattle.fund_shelf.specs.Causes.{ShelfView}
use Rattle.psbt_codec.specs.declared.fault.PsbtFault.TheVariants.{Memory as OutOfMemory}
use Rattle.request_text.specs.PlainRequest.{PlainRequest}
use Rattle.settle_check.specs.declared.fault.SettleFault.{SettleFault}
use Rattle.signed_psbt.specs.Signed.{IsSignedFault, IsSignedTextFault}
use Rattle.signed_psbt.specs.declared.fault.SignedFault.{SignedFault}
use Rattle.signed_psbt.specs.declared.fault.SignedFault.TheVariants as signed
use Rattle.tx_codec.specs.Transaction.{Transaction}
use Rattle.wallet_text.specs.PlainWallet.{PlainWallet}
use Rattle.command_settle.specs.Files.{AreFiles, Cause, IsReached, IsUnread, judged_of, judged_with, line_of, signed_of}
use Rattle.command_settle.specs.Names.{Names}
use Rattle.command_settle.specs.Outcome.{BreaksBy, IsUnsettled}
use Rattle.command_settle.specs.Stops.{IsFileCause, StopsAs, StopsBy, cause_of}
use Rattle.command_settle.specs.declared.stop.Stop.{Stop as SettleStop}
use Rattle.command_settle.specs.declared.stop.Stop.TheVariants as stops
use Rattle.settle_table.specs.Forms.{Holds, form_of}
use Rattle.settle_table.specs.declared.forms.Form.{Form}
use Rattle.settle_table.specs.declared.forms.Form.TheVariants.{Hex, Base64, Binary}
use Rattle.settle_table.specs.declared.stop.Stop.{Stop}
use Rattle.settle_table.specs.declared.stop.Stop.TheVariants.{Settle, Psbt}

-- ---- the transaction

-- the stop of a PSBT from which no transaction is taken
abbrev pub psbt_stop_of : SignedFault → Stop
psbt_stop_of (signed.Psbt OutOfMemory) = Settle stops.Memory
psbt_stop_of fault = Psbt fault

-- there was not enough memory
abbrev pub IsMemory : SettleStop → Type 0
IsMemory (stops.Read file) = ⊥
IsMemory (stops.Refused refusal) = ⊥
IsMemory stops.Memory = Unit {0}

-- A file in this form holds no signed transaction, for such a cause; or there was not enough memory.
abbrev pub StopsAtForm : Form → List ℕ → Stop → Type 0
StopsAtForm Hex file (Settle stop) = StopsAs (λ cause. signed_of file ≡ Err cause) stop
StopsAtForm Hex file (Psbt fault) = ⊥
StopsAtForm Base64 file (Settle stop) = IsMemory stop
StopsAtForm Base64 file (Psbt fault) = IsSignedTextFault (line_of file) fault
StopsAtForm Binary file (Settle stop) = IsMemory stop
StopsAtForm Binary file (Psbt fault) = IsSignedFault file fault

-- in its own form
abbrev pub StopsAt : List ℕ → Stop → Type 0
StopsAt file stop = StopsAtForm (form_of file) file stop

-- ---- the payment

-- such a rule is broken, or there was not enough memory
abbrev pub StopsBroken : (SettleFault → Type 0) → Stop → Type 0
StopsBroken broken (Settle stop) = StopsBy broken stop
StopsBroken broken (Psbt fault) = ⊥

-- What was read is refused: the file of the transaction holds none, or else it holds one with which a rule is broken, of the
-- payment first.
abbrev pub StopsInside : PlainWallet → PlainRequest → (report tx : List ℕ) → Stop → Type 0
StopsInside w r report tx stop = StopsAt tx stop ⊎ ((t : Transaction) × Holds tx t × StopsBroken (IsUnsettled report (judged_with w r t)) stop)

-- ---- all of it

-- the files hold a wallet and a request, and for the other two it stops
pub record StopsBehind (files : List ℕ → List ℕ) (n : Names) (stop : Stop) : Type 0 where
  pub wallet : PlainWallet
  pub request : PlainRequest
  pub held : AreFiles files n wallet request (files n.report) (files n.tx)
  pub stops : StopsInside wallet request (files n.report) (files n.tx) stop

-- The files are refused for this cause before the last two are looked into, as the command `settle` refuses them; or because
-- of these.
abbrev pub IsRefused : (List ℕ → List ℕ) → Names → Stop → Cause → Type 0
IsRefused files n stop cause = (IsFileCause cause × (judged_of files n ≡ Err cause)) ⊎ StopsBehind files n stop

-- A read of a file failed, those before it being in order; or the files are refused so.
abbrev pub StopsFor : Type 0 → Names → ShelfView → ShelfView → Stop → Type 0
StopsFor told n old new (Settle (stops.Read file)) = IsUnread n file old new × (told → IsReached old.files n file)
StopsFor told n old new (Settle (stops.Refused refusal)) = told → IsRefused old.files n (Settle (stops.Refused refusal)) (cause_of refusal)
StopsFor told n old new (Settle stops.Memory) = Unit {0}
StopsFor told n old new (Psbt fault) = told → StopsBehind old.files n (Psbt fault)

-- a read failed, or there was not enough memory
abbrev pub IsUntold : Stop → Type 0
IsUntold (Settle (stops.Read file)) = Unit {0}
IsUntold (Settle (stops.Refused refusal)) = ⊥
IsUntold (Settle stops.Memory) = Unit {0}
IsUntold (Psbt fault) = ⊥

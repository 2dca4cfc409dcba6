-- The first broken field of a transaction's text, and its fault.
use Rattle.std.specs.Prelude.{ℕ, List}
use Rattle.tx_codec.specs.declared.fault.TxFault.{TxFault}
use Rattle.tx_codec.specs.TransactionText.{IsTransaction, IsLegacy}
use Rattle.tx_laws.specs.Broken.{IsBroken}
use Rattle.tx_laws.specs.Fields.{Breaks}
use Rattle.tx_laws.specs.Order.{TransactionComes, LegacyTransactionComes, WholeComes}

-- The bytes, of which the first stands at this place, don't begin with a transaction: this fault has the first field that
-- isn't as it must be.
abbrev pub IsTxFaultFrom : ℕ → List ℕ → TxFault → Type 0
IsTxFaultFrom place bytes fault = IsBroken TransactionComes Breaks place bytes fault

-- The bytes aren't a transaction, where the end counts as a field.
abbrev pub IsTxFault : List ℕ → TxFault → Type 0
IsTxFault bytes fault = IsBroken (WholeComes IsTransaction TransactionComes) Breaks 0 bytes fault

-- They aren't one in the legacy form, where no marker is looked for.
abbrev pub IsLegacyFault : List ℕ → TxFault → Type 0
IsLegacyFault bytes fault = IsBroken (WholeComes IsLegacy LegacyTransactionComes) Breaks 0 bytes fault

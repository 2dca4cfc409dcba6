-- The first broken field of a PSBT's bytes, and its fault.
use Rattle.std.specs.Prelude.{ℕ, List}
use Rattle.psbt_codec.specs.declared.fault.PsbtFault.{PsbtFault}
use Rattle.tx_laws.specs.Broken.{IsBroken}
use Rattle.psbt_laws.specs.Fields.{Breaks}
use Rattle.psbt_laws.specs.Order.{PsbtComes}

-- The bytes aren't a PSBT, where the end counts as a field: this fault has the first field that isn't as it must be.
abbrev pub IsPsbtFault : List ℕ → PsbtFault → Type 0
IsPsbtFault bytes fault = IsBroken PsbtComes Breaks 0 bytes fault

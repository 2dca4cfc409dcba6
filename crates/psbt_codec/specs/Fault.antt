-- How the faults of what stands within a PSBT are reported.
use Rattle.std.specs.Prelude.{ℕ, min}
use Rattle.base64.specs.declared.decode.DecodeAllocError.{DecodeAllocError}
use Rattle.base64.specs.declared.decode.DecodeAllocError.TheVariants as texts
use Rattle.fund_base.specs.declared.cursor.CutFault.{CutFault}
use Rattle.fund_base.specs.declared.cursor.CutFault.TheVariants as cuts
use Rattle.tx_codec.specs.declared.fault.TxFault.{TxFault}
use Rattle.tx_codec.specs.declared.fault.TxFault.TheVariants as txs
use Rattle.psbt_codec.specs.declared.fault.PsbtFault.{PsbtFault}
use Rattle.psbt_codec.specs.declared.fault.PsbtFault.TheVariants.{Truncated, LongCompact, Field, Unsigned, NotBase64, Memory}

-- a fault of the cursor
abbrev pub cut_fault : CutFault → PsbtFault
cut_fault (cuts.Truncated place) = Truncated place
cut_fault (cuts.LongCompact place) = LongCompact place

-- a fault of the type that the key at this place begins with, where its pair begins at the first place
abbrev pub type_fault : ℕ → ℕ → CutFault → PsbtFault
type_fault pair_place key_place (cuts.Truncated place) = Field pair_place
type_fault pair_place key_place (cuts.LongCompact place) = LongCompact key_place

-- a fault of the unsigned transaction
abbrev pub unsigned_fault : TxFault → PsbtFault
unsigned_fault txs.Memory = Memory
unsigned_fault fault = Unsigned fault

-- a fault of the text
abbrev pub text_fault : DecodeAllocError → PsbtFault
text_fault texts.OutOfMemory = Memory
text_fault (texts.DecodeError fault) = NotBase64

-- an index as a fault shows it: one that doesn't fit counts as the greatest that does
abbrev pub shown : ℕ → ℕ
shown index = min index 4_294_967_295

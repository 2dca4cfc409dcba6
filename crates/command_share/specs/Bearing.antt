-- Why a recipient can't bear its share.
use Rattle.std.specs.Prelude.{ℕ}
use Rattle.fee_sharing.specs.Shares.{IsFirstShortAt}
use Rattle.fee_sharing.specs.declared.fault.ShareFault.{ShareFault}
use Rattle.fee_sharing.specs.declared.fault.ShareFault.TheVariants as faults
use Rattle.request_text.specs.PlainRequest.{PlainRequest}
use Rattle.command_amounts.specs.Amounts.{amounts_of}
use Rattle.command_share.specs.Paying.{dusts_of}

-- the recipient of this index is the first that is below its share and its dust threshold together
abbrev pub IsBearFault : PlainRequest → (borne : ℕ) → ShareFault → Type 0
IsBearFault r borne (faults.ShareDust index) = IsFirstShortAt borne (amounts_of r) (dusts_of r) index
IsBearFault r borne faults.Memory = Unit {0}

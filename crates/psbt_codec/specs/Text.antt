-- PSBTs as text.
use Rattle.std.specs.Prelude.{ℕ, ◌≡◌, ◌≢◌, ◌⊎◌, List, Err}
use Rattle.base64.specs.Engines.{standard}
use Rattle.base64.specs.GeneralPurpose.{encode_of}
use Rattle.fund_base.specs.Cursor.{IsBytes}
use Rattle.psbt_codec.specs.declared.fault.PsbtFault.{PsbtFault}
use Rattle.psbt_codec.specs.declared.fault.PsbtFault.TheVariants.{NotBase64}
use Rattle.psbt_codec.specs.PartialTransaction.{PartialTransaction}
use Rattle.psbt_codec.specs.Psbt.{written, IsReadable}
use Rattle.psbt_codec.specs.Reading.{read_of}

-- the bytes in this version in base64, with the standard alphabet and padding (RFC 4648, section 4)
abbrev pub psbt_text : ℕ → PartialTransaction → List ℕ
psbt_text version p = encode_of standard (written version p)

-- The text is base64, with the standard alphabet and padding, of bytes that are a PSBT (BIP 174; RFC 4648, section 4).
pub record IsPsbtText (text : List ℕ) (t : PartialTransaction) : Type 0 where
  pub bytes : List ℕ
  pub are_bytes : IsBytes bytes
  pub text_is : text ≡ encode_of standard bytes
  pub readable : IsReadable bytes t

-- and they are of this version
abbrev pub IsPsbtTextIn : ℕ → List ℕ → PartialTransaction → Type 0
IsPsbtTextIn version text t = (h : IsPsbtText text t) × (h.readable.version ≡ version)

-- why it isn't: it is base64 of no bytes, or of bytes that have this fault first, in reading order
abbrev pub HasPsbtFault : List ℕ → PsbtFault → Type 0
HasPsbtFault text e =
    ((e ≡ NotBase64) × ((bytes : List ℕ) → IsBytes bytes → text ≢ encode_of standard bytes))
    ⊎ ((bytes : List ℕ) × IsBytes bytes × (text ≡ encode_of standard bytes) × (read_of bytes ≡ Err e))

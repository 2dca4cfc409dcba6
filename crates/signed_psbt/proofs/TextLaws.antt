-- A signed PSBT as text.
use Rattle.std.proofs.Common.{◌≡◌, ◌≢◌, List, ℕ, Result, Ok, Err, inl, inr, ap}
use Rattle.std.specs.Prelude.{IfErr, IfOk}
use Rattle.base64.specs.Engines.{standard}
use Rattle.base64.specs.GeneralPurpose.{encode_of}
use Rattle.fund_base.specs.Cursor.{IsBytes}
use Rattle.psbt_codec.specs.declared.fault.PsbtFault.{PsbtFault}
use Rattle.psbt_codec.specs.declared.fault.PsbtFault.TheVariants.{Memory, NotBase64}
use Rattle.tx_codec.specs.Transaction.{Transaction}
use Rattle.signed_psbt.specs.Signed.{IsSignedFault, IsSignedPsbt, IsSignedText, IsSignedTextFault}
use Rattle.signed_psbt.specs.declared.fault.SignedFault.{SignedFault}
use Rattle.signed_psbt.specs.declared.fault.SignedFault.TheVariants.{Psbt}

pub text_found : (text bytes : List ℕ) → IsBytes bytes → text ≡ encode_of standard bytes → (r : Result Transaction SignedFault) → IfOk r (λ tx. IsSignedPsbt bytes tx) → IfOk r (λ tx. IsSignedText text tx)
text_found text bytes fits is (Ok tx) h = record { bytes = bytes; are_bytes = fits; text_is = is; signed = h }
text_found text bytes fits is (Err e) h = tt

pub text_fault : (text bytes : List ℕ) → IsBytes bytes → text ≡ encode_of standard bytes → (r : Result Transaction SignedFault) → IfErr r (λ e. e ≢ Psbt Memory → IsSignedFault bytes e) → IfErr r (λ e. e ≢ Psbt Memory → IsSignedTextFault text e)
text_fault text bytes fits is (Ok tx) h = tt
text_fault text bytes fits is (Err e) h = λ other. inr (bytes, fits, is, h other)

pub text_refused : (text : List ℕ) (e : PsbtFault) → (e ≢ Memory → e ≡ NotBase64) → ((bytes : List ℕ) → IsBytes bytes → text ≡ encode_of standard bytes → e ≡ Memory) → Psbt e ≢ Psbt Memory → IsSignedTextFault text (Psbt e)
text_refused text e fault only never =
    let other : e ≢ Memory = λ memory. never (ap Psbt memory) in
    inl (ap Psbt (fault other), λ bytes fits is. other (only bytes fits is))

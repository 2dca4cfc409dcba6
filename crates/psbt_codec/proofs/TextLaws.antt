-- A text in base64 has one meaning.
use Rattle.std.proofs.Common.{◌≡◌, ℕ, List, Result, Ok, Err, refl, sym, subst, ◌∙◌}
use Rattle.std.specs.Prelude.{◌↔◌, IfOk, MatchResult}
use Rattle.base64.specs.Engines.{standard}
use Rattle.base64.specs.GeneralPurpose.{decode_of, encode_of, IsBytes as AreBytes, IsDecodeFailure}
use Rattle.base64.specs.declared.decode.DecodeAllocError.{DecodeAllocError}
use Rattle.base64.specs.declared.decode.DecodeAllocError.TheVariants as texts
use Rattle.fund_base.specs.Cursor.{IsBytes}
use Rattle.fund_base.proofs.Laws.{ok_is}
use Rattle.fund_base.proofs.LawsOfNumbers.{byte_at}
use Rattle.psbt_codec.specs.declared.fault.PsbtFault.TheVariants.{Memory}
use Rattle.psbt_codec.specs.declared.fault.PsbtFault.{PsbtFault}
use Rattle.psbt_codec.specs.declared.psbt.Versioned.{Versioned}
use Rattle.psbt_codec.specs.Fault.{text_fault}
use Rattle.psbt_codec.specs.PartialTransaction.{PartialTransaction}
use Rattle.psbt_codec.specs.Psbt.{IsReadableIn}
use Rattle.psbt_codec.specs.Text.{IsPsbtTextIn}

pub decoded_is : (text read bytes : List ℕ) → decode_of standard text ≡ Ok read → ((b : List ℕ) → AreBytes b → (decode_of standard text ≡ Ok b) ↔ (text ≡ encode_of standard b)) → IsBytes bytes → text ≡ encode_of standard bytes → read ≡ bytes
decoded_is text read bytes e strict fits is = ok_is read bytes (decode_of standard text) e ((strict bytes (λ i. byte_at bytes i fits)).1 is)

pub failed_is : (text bytes : List ℕ) (fault : DecodeAllocError) → IsDecodeFailure standard text fault → ((b : List ℕ) → AreBytes b → (decode_of standard text ≡ Ok b) ↔ (text ≡ encode_of standard b)) → IsBytes bytes → text ≡ encode_of standard bytes → text_fault fault ≡ Memory
failed_is text bytes texts.OutOfMemory failed strict fits is = refl
failed_is text bytes (texts.DecodeError d) failed strict fits is = let e = sym failed ∙ (strict bytes (λ i. byte_at bytes i fits)).1 is in absurd cc

-- what the bytes of a text are readable as
pub text_found : (text bytes : List ℕ) → IsBytes bytes → text ≡ encode_of standard bytes → (result : Result Versioned PsbtFault) → IfOk result (λ v. IsReadableIn v.version bytes v.psbt) → IfOk result (λ v. IsPsbtTextIn v.version text v.psbt)
text_found text bytes fits is (Ok v) readable = (record { bytes = bytes; are_bytes = fits; text_is = is; readable = readable.0 }, readable.1)
text_found text bytes fits is (Err e) readable = tt

-- a version of a PSBT was read, unless memory was short
abbrev IsReadAs : Result Versioned PsbtFault → ℕ → PartialTransaction → Type 0
IsReadAs result version p = MatchResult result (λ v. (v.version ≡ version) × (v.psbt ≡ p)) (λ e. e ≡ Memory)

-- what a text is readable as is read of its bytes
pub text_only : (text bytes : List ℕ) → ((b : List ℕ) → IsBytes b → text ≡ encode_of standard b → bytes ≡ b) → (result : Result Versioned PsbtFault)
    → ((version : ℕ) (p : PartialTransaction) → IsReadableIn version bytes p → IsReadAs result version p) → (version : ℕ) (p : PartialTransaction) → IsPsbtTextIn version text p → IsReadAs result version p
text_only text bytes same result only version p is =
    only version p (subst (λ (l : List ℕ). IsReadableIn version l p) (sym (same is.0.bytes is.0.are_bytes is.0.text_is)) (is.0.readable, is.1))

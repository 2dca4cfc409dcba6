-- The text of a PSBT with keys, or why it has none.
use Rattle.std.proofs.Common.{◌≡◌, ◌≢◌, ℕ, List, ap, inl, inr}
use Rattle.base64.specs.Engines.{standard}
use Rattle.base64.specs.GeneralPurpose.{encode_of}
use Rattle.fund_base.specs.Cursor.{IsBytes}
use Rattle.keys_text.specs.PlainKeys.{PlainKeys}
use Rattle.psbt_codec.specs.declared.fault.PsbtFault.{PsbtFault}
use Rattle.psbt_codec.specs.declared.fault.PsbtFault.TheVariants.{NotBase64, Memory}
use Rattle.psbt_keys.specs.Keyed.{IsKeyFault, IsKeyed, IsSamePayment}
use Rattle.psbt_keys.specs.declared.fault.KeyFault.{KeyFault}
use Rattle.psbt_keys.specs.declared.fault.KeyFault.TheVariants.{Psbt}
use Rattle.keys_files.specs.Keyed.{IsKeyedText, IsTextFault}

pub text_keyed : (k : PlainKeys) (old new before after : List ℕ) → old ≡ encode_of standard before → new ≡ encode_of standard after → IsKeyed k before after → IsSamePayment before after → IsKeyedText k old new
text_keyed k old new before after old_is new_is keyed same = record { before = before; after = after; old_is = old_is; new_is = new_is; keyed = keyed; same = same }

-- a text that isn't base64
pub no_text : (k : PlainKeys) (text : List ℕ) (f : PsbtFault) → (f ≢ Memory → f ≡ NotBase64) → ((bytes : List ℕ) → IsBytes bytes → text ≡ encode_of standard bytes → f ≡ Memory) → Psbt f ≢ Psbt Memory → IsTextFault k text (Psbt f)
no_text k text f first only other =
    let known : f ≢ Memory = λ e. other (ap (λ (x : PsbtFault). Psbt x) e) in
    inl (ap (λ (x : PsbtFault). Psbt x) (first known), λ bytes are is. known (only bytes are is))

-- bytes with a fault
pub bytes_fault : (k : PlainKeys) (text bytes : List ℕ) (fault : KeyFault) → text ≡ encode_of standard bytes → IsKeyFault k bytes fault → IsTextFault k text fault
bytes_fault k text bytes fault is has = inr (bytes, is, has)

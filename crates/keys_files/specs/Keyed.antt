-- The text of a PSBT with what the keys tell of it.
use Rattle.std.specs.Prelude.{ℕ, ◌≡◌, ◌≢◌, ◌⊎◌, List}
use Rattle.base64.specs.Engines.{standard}
use Rattle.base64.specs.GeneralPurpose.{encode_of}
use Rattle.fund_base.specs.Cursor.{IsBytes}
use Rattle.keys_text.specs.PlainKeys.{PlainKeys}
use Rattle.psbt_codec.specs.declared.fault.PsbtFault.TheVariants.{NotBase64}
use Rattle.psbt_keys.specs.Keyed.{IsKeyed, IsKeyFault, IsSamePayment}
use Rattle.psbt_keys.specs.declared.fault.KeyFault.{KeyFault}
use Rattle.psbt_keys.specs.declared.fault.KeyFault.TheVariants.{Psbt}

-- Both texts are base64, with the standard alphabet and padding (RFC 4648, section 4). The bytes of the new one are those of
-- the old one, a PSBT, with what the keys tell of it; and the payment that is signed is the same.
pub record IsKeyedText (k : PlainKeys) (old new : List ℕ) : Type 0 where
  pub before : List ℕ
  pub after : List ℕ
  pub old_is : old ≡ encode_of standard before
  pub new_is : new ≡ encode_of standard after
  pub keyed : IsKeyed k before after
  pub same : IsSamePayment before after

-- Why nothing is added to a text: it is base64 of no bytes; or its bytes have this fault.
abbrev pub IsTextFault : PlainKeys → (text : List ℕ) → KeyFault → Type 0
IsTextFault k text fault =
    ((fault ≡ Psbt NotBase64) × ((bytes : List ℕ) → IsBytes bytes → text ≢ encode_of standard bytes))
    ⊎ ((bytes : List ℕ) × (text ≡ encode_of standard bytes) × IsKeyFault k bytes fault)

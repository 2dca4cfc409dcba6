-- A file is of one form, and holds one signed transaction or none.
use Rattle.std.proofs.Common.{◌≡◌, ◌∙◌, ◌⊎◌, inl, inr, ℕ, List, Result, Ok, Err, refl, sym, ap, subst}
use Rattle.std.specs.Prelude.{◌≢◌, IfErr, IfOk, MatchResult}
use Rattle.psbt_codec.specs.declared.fault.PsbtFault.TheVariants as psbts
use Rattle.signed_psbt.specs.Signed.{IsSignedFault, IsSignedTextFault}
use Rattle.signed_psbt.specs.declared.fault.SignedFault.{SignedFault}
use Rattle.signed_psbt.specs.declared.fault.SignedFault.TheVariants as signed
use Rattle.tx_codec.specs.Transaction.{Transaction}
use Rattle.command_settle.specs.Files.{Cause, line_of, signed_of}
use Rattle.command_settle.specs.Stops.{StopsAs, cause_of}
use Rattle.command_settle.specs.declared.stop.Stop.{Stop as SettleStop}
use Rattle.command_settle.specs.declared.stop.Stop.TheVariants as stops
use Rattle.settle_table.specs.Forms.{Holds, HoldsAs, form_of}
use Rattle.settle_table.specs.Stops.{StopsAt, StopsAtForm, psbt_stop_of}
use Rattle.settle_table.specs.declared.forms.Form.{Form}
use Rattle.settle_table.specs.declared.forms.Form.TheVariants.{Hex, Base64, Binary}
use Rattle.settle_table.specs.declared.stop.Stop.{Stop}
use Rattle.settle_table.specs.declared.stop.Stop.TheVariants.{Settle, Psbt}

-- ---- in hex

-- a transaction that is there is refused for want of memory alone
pub hex_only : (file : List ℕ) (t : Transaction) → signed_of file ≡ Ok t → (stop : SettleStop) → StopsAs (λ cause. signed_of file ≡ Err cause) stop → Settle stop ≡ Settle stops.Memory
hex_only file t e (stops.Read other) h = absurd h
hex_only file t e (stops.Refused refusal) h = let both : ◌≡◌ {A = Result Transaction Cause} (Ok t) (Err (cause_of refusal)) = sym e ∙ h in absurd cc
hex_only file t e stops.Memory h = refl

-- ---- a PSBT

-- a fault is want of memory, or is told as it is
told_or_short : (fault : SignedFault) → (fault ≡ signed.Psbt psbts.Memory) ⊎ ((fault ≢ signed.Psbt psbts.Memory) × (psbt_stop_of fault ≡ Psbt fault))
told_or_short (signed.Psbt psbts.Magic) = inr ((λ e. absurd cc), refl)
told_or_short (signed.Psbt (psbts.Truncated n)) = inr ((λ e. absurd cc), refl)
told_or_short (signed.Psbt (psbts.LongCompact n)) = inr ((λ e. absurd cc), refl)
told_or_short (signed.Psbt (psbts.RepeatKey n)) = inr ((λ e. absurd cc), refl)
told_or_short (signed.Psbt psbts.NoUnsigned) = inr ((λ e. absurd cc), refl)
told_or_short (signed.Psbt (psbts.Unsigned n)) = inr ((λ e. absurd cc), refl)
told_or_short (signed.Psbt psbts.NotBare) = inr ((λ e. absurd cc), refl)
told_or_short (signed.Psbt (psbts.Field n)) = inr ((λ e. absurd cc), refl)
told_or_short (signed.Psbt (psbts.Version n)) = inr ((λ e. absurd cc), refl)
told_or_short (signed.Psbt (psbts.Mixed n)) = inr ((λ e. absurd cc), refl)
told_or_short (signed.Psbt (psbts.Lacking n)) = inr ((λ e. absurd cc), refl)
told_or_short (signed.Psbt (psbts.RequiredLock n)) = inr ((λ e. absurd cc), refl)
told_or_short (signed.Psbt (psbts.WrongParent n)) = inr ((λ e. absurd cc), refl)
told_or_short (signed.Psbt (psbts.Trailing n)) = inr ((λ e. absurd cc), refl)
told_or_short (signed.Psbt psbts.NotBase64) = inr ((λ e. absurd cc), refl)
told_or_short (signed.Psbt psbts.Memory) = inl refl
told_or_short (signed.Unsigned n) = inr ((λ e. absurd cc), refl)
told_or_short (signed.Witness n) = inr ((λ e. absurd cc), refl)

-- where it is want of memory, so is the stop
pub psbt_only : (fault : SignedFault) (stop : Stop) → stop ≡ psbt_stop_of fault → fault ≡ signed.Psbt psbts.Memory → stop ≡ Settle stops.Memory
psbt_only fault stop is e = is ∙ ap psbt_stop_of e

module _ (file : List ℕ) (fault : SignedFault) (stop : Stop) (is : stop ≡ psbt_stop_of fault) where
  text_by : (fault ≢ signed.Psbt psbts.Memory → IsSignedTextFault (line_of file) fault) → (fault ≡ signed.Psbt psbts.Memory) ⊎ ((fault ≢ signed.Psbt psbts.Memory) × (psbt_stop_of fault ≡ Psbt fault)) → StopsAtForm Base64 file stop
  text_by h (inl e) = subst (λ (s : Stop). StopsAtForm Base64 file s) (sym (psbt_only fault stop is e)) tt
  text_by h (inr (other, e)) = subst (λ (s : Stop). StopsAtForm Base64 file s) (sym (is ∙ e)) (h other)

  -- else it is the fault of the text
  pub text_stops : (fault ≢ signed.Psbt psbts.Memory → IsSignedTextFault (line_of file) fault) → StopsAtForm Base64 file stop
  text_stops h = text_by h (told_or_short fault)

  bytes_by : (fault ≢ signed.Psbt psbts.Memory → IsSignedFault file fault) → (fault ≡ signed.Psbt psbts.Memory) ⊎ ((fault ≢ signed.Psbt psbts.Memory) × (psbt_stop_of fault ≡ Psbt fault)) → StopsAtForm Binary file stop
  bytes_by h (inl e) = subst (λ (s : Stop). StopsAtForm Binary file s) (sym (psbt_only fault stop is e)) tt
  bytes_by h (inr (other, e)) = subst (λ (s : Stop). StopsAtForm Binary file s) (sym (is ∙ e)) (h other)

  -- or of the bytes
  pub bytes_stop : (fault ≢ signed.Psbt psbts.Memory → IsSignedFault file fault) → StopsAtForm Binary file stop
  bytes_stop h = bytes_by h (told_or_short fault)

-- ---- in its own form

module _ (file : List ℕ) (f : Form) (own : f ≡ form_of file) (result : Result Transaction Stop) where
  pub own_signed : IfOk result (HoldsAs f file) → IfOk result (Holds file)
  own_signed h = subst (λ (g : Form). IfOk result (HoldsAs g file)) own h

  pub own_stop : IfErr result (StopsAtForm f file) → IfErr result (StopsAt file)
  own_stop h = subst (λ (g : Form). IfErr result (StopsAtForm g file)) own h

  pub own_only : ((t : Transaction) → HoldsAs f file t → MatchResult result (λ u. u ≡ t) (λ stop. stop ≡ Settle stops.Memory)) → (t : Transaction) → Holds file t → MatchResult result (λ u. u ≡ t) (λ stop. stop ≡ Settle stops.Memory)
  own_only h = subst (λ (g : Form). (t : Transaction) → HoldsAs g file t → MatchResult result (λ u. u ≡ t) (λ stop. stop ≡ Settle stops.Memory)) own h

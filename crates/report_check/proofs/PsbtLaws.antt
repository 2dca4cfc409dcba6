-- A text that is no PSBT.
use Rattle.std.specs.Prelude.{ℕ, ◌≡◌, ◌≢◌, List}
use Rattle.std.proofs.Common.{refl, sym, subst}
use Rattle.psbt_codec.specs.Text.{HasPsbtFault}
use Rattle.psbt_codec.specs.declared.fault.PsbtFault.{PsbtFault}
use Rattle.psbt_codec.specs.declared.fault.PsbtFault.TheVariants as psbt
use Rattle.report_check.specs.Refused.{IsPsbtRefusal}
use Rattle.report_check.specs.declared.fault.CheckFault.{CheckFault}
use Rattle.report_check.specs.declared.fault.CheckFault.TheVariants as check

-- by the fault: out of memory, or another
pub refused_by : (text : List ℕ) (f : PsbtFault) (e : CheckFault) → (f ≡ psbt.Memory → e ≡ check.Memory) → (f ≢ psbt.Memory → e ≡ check.Psbt f) → (f ≢ psbt.Memory → HasPsbtFault text f) → IsPsbtRefusal text e
refused_by text psbt.Memory e memory other has = subst (IsPsbtRefusal text) (sym (memory refl)) tt
refused_by text psbt.Magic e memory other has = subst (IsPsbtRefusal text) (sym (other (λ h. cc))) (has (λ h. cc))
refused_by text (psbt.Truncated n) e memory other has = subst (IsPsbtRefusal text) (sym (other (λ h. cc))) (has (λ h. cc))
refused_by text (psbt.LongCompact n) e memory other has = subst (IsPsbtRefusal text) (sym (other (λ h. cc))) (has (λ h. cc))
refused_by text (psbt.RepeatKey n) e memory other has = subst (IsPsbtRefusal text) (sym (other (λ h. cc))) (has (λ h. cc))
refused_by text psbt.NoUnsigned e memory other has = subst (IsPsbtRefusal text) (sym (other (λ h. cc))) (has (λ h. cc))
refused_by text (psbt.Unsigned t) e memory other has = subst (IsPsbtRefusal text) (sym (other (λ h. cc))) (has (λ h. cc))
refused_by text psbt.NotBare e memory other has = subst (IsPsbtRefusal text) (sym (other (λ h. cc))) (has (λ h. cc))
refused_by text (psbt.Field n) e memory other has = subst (IsPsbtRefusal text) (sym (other (λ h. cc))) (has (λ h. cc))
refused_by text (psbt.Version n) e memory other has = subst (IsPsbtRefusal text) (sym (other (λ h. cc))) (has (λ h. cc))
refused_by text (psbt.WrongParent n) e memory other has = subst (IsPsbtRefusal text) (sym (other (λ h. cc))) (has (λ h. cc))
refused_by text (psbt.Trailing n) e memory other has = subst (IsPsbtRefusal text) (sym (other (λ h. cc))) (has (λ h. cc))
refused_by text psbt.NotBase64 e memory other has = subst (IsPsbtRefusal text) (sym (other (λ h. cc))) (has (λ h. cc))
refused_by text (psbt.Mixed n) e memory other has = subst (IsPsbtRefusal text) (sym (other (λ h. cc))) (has (λ h. cc))
refused_by text (psbt.Lacking n) e memory other has = subst (IsPsbtRefusal text) (sym (other (λ h. cc))) (has (λ h. cc))
refused_by text (psbt.RequiredLock n) e memory other has = subst (IsPsbtRefusal text) (sym (other (λ h. cc))) (has (λ h. cc))

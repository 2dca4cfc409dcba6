-- How a payment with keys ends, by how its parts do.
use Rattle.std.proofs.Common.{◌≡◌, ◌≢◌, ◌⊎◌, ℕ, List, Option, Vec, Global, inl, inr, refl, sym, subst}
use Rattle.fund_shelf.specs.Causes.{ShelfView}
use Rattle.keys_text.specs.PlainKeys.{PlainKeys}
use Rattle.psbt_codec.specs.declared.fault.PsbtFault.TheVariants as psbts
use Rattle.psbt_codec.specs.declared.fault.PsbtFault.TheVariants.{Memory as OutOfMemory}
use Rattle.psbt_keys.specs.declared.fault.KeyFault.{KeyFault}
use Rattle.psbt_keys.specs.declared.fault.KeyFault.TheVariants as faults
use Rattle.psbt_keys.specs.declared.fault.KeyFault.TheVariants.{Psbt}
use Rattle.pay_words.specs.declared.asked.Asked.{Asked}
use Rattle.keys_files.specs.Keyed.{IsKeyedText, IsTextFault}
use Rattle.command_pay.specs.Paid.{psbt_in}
use Rattle.command_pay.specs.Pays.{Pays}
use Rattle.payment_files.specs.Written.{HasFileIf, IsStill, IsUnwritten}
use Rattle.command_pay.specs.declared.outcome.Ending.{Ending}
use Rattle.command_pay.specs.declared.outcome.Ending.TheVariants.{Paid}
use Rattle.command_pay.specs.declared.report.PaidReport.{PaidReport}
use Rattle.keyed_pay.specs.Pays.{IsNoPayment, IsPaid, PaysKeyed, unkeyed_ending}
use Rattle.keyed_pay.specs.declared.outcome.KeyedEnding.{KeyedEnding}
use Rattle.keyed_pay.specs.declared.outcome.KeyedEnding.TheVariants.{Keyed, Unkeyed, Unwritten, Memory, Unpaid}

module _ (told told_new : Type 0) (a : Asked) (name : Option (List ℕ)) (k : PlainKeys) (files after old paid new : ShelfView) (report : PaidReport) (log : Vec ℕ Global) (is : IsPaid told told_new a files after old paid report log) where
  pub keyed_pays : (text : Vec ℕ Global) → IsKeyedText k (psbt_in report) text.items → HasFileIf told_new name text.items paid new → PaysKeyed told told_new a name k files after old new (Keyed report log text)
  keyed_pays text keyed has = (paid, is, keyed, has)

  pub unwritten_pays : IsUnwritten told_new name paid new → PaysKeyed told told_new a name k files after old new Unwritten
  unwritten_pays un = (report, log, paid, is, un)

  pub memory_pays : IsStill told_new paid new → PaysKeyed told told_new a name k files after old new Memory
  memory_pays still = (report, log, paid, is, still)

-- there was not enough memory, or it is another fault
told_or_short : (fault : KeyFault) → (unkeyed_ending fault ≡ Memory) ⊎ ((fault ≢ Psbt OutOfMemory) × (unkeyed_ending fault ≡ Unkeyed fault))
told_or_short (Psbt OutOfMemory) = inl refl
told_or_short (Psbt psbts.Magic) = inr ((λ e. cc), refl)
told_or_short (Psbt (psbts.Truncated n)) = inr ((λ e. cc), refl)
told_or_short (Psbt (psbts.LongCompact n)) = inr ((λ e. cc), refl)
told_or_short (Psbt (psbts.RepeatKey n)) = inr ((λ e. cc), refl)
told_or_short (Psbt psbts.NoUnsigned) = inr ((λ e. cc), refl)
told_or_short (Psbt (psbts.Unsigned t)) = inr ((λ e. cc), refl)
told_or_short (Psbt psbts.NotBare) = inr ((λ e. cc), refl)
told_or_short (Psbt (psbts.Field n)) = inr ((λ e. cc), refl)
told_or_short (Psbt (psbts.Version n)) = inr ((λ e. cc), refl)
told_or_short (Psbt (psbts.Mixed n)) = inr ((λ e. cc), refl)
told_or_short (Psbt (psbts.Lacking n)) = inr ((λ e. cc), refl)
told_or_short (Psbt (psbts.RequiredLock n)) = inr ((λ e. cc), refl)
told_or_short (Psbt (psbts.WrongParent n)) = inr ((λ e. cc), refl)
told_or_short (Psbt (psbts.Trailing n)) = inr ((λ e. cc), refl)
told_or_short (Psbt psbts.NotBase64) = inr ((λ e. cc), refl)
told_or_short (faults.Global n) = inr ((λ e. cc), refl)
told_or_short (faults.Input n kind) = inr ((λ e. cc), refl)
told_or_short (faults.Output n kind) = inr ((λ e. cc), refl)

-- nothing is added, and nothing is written for it
pub unkeyed_pays : (told told_new : Type 0) (a : Asked) (name : Option (List ℕ)) (k : PlainKeys) (files after old new : ShelfView) (report : PaidReport) (log : Vec ℕ Global) (fault : KeyFault) → (fault ≢ Psbt OutOfMemory → IsTextFault k (psbt_in report) fault)
    → IsPaid told told_new a files after old new report log → PaysKeyed told told_new a name k files after old new (unkeyed_ending fault)
unkeyed_pays told told_new a name k files after old new report log fault has is = elim (told_or_short fault) [
  | inl short ↦ subst (PaysKeyed told told_new a name k files after old new) (sym short) (report, log, new, is, record { files = λ t. refl; writes = refl })
  | inr other ↦ subst (PaysKeyed told told_new a name k files after old new) (sym other.1) (report, log, is, has other.0)
]

pub unpaid_pays : (told told_new : Type 0) (a : Asked) (name : Option (List ℕ)) (k : PlainKeys) (files after old new : ShelfView) (ending is : Ending) → Pays told told_new a files after old new ending → ending ≡ is → IsNoPayment is
    → PaysKeyed told told_new a name k files after old new (Unpaid is)
unpaid_pays told told_new a name k files after old new ending is pays e none = (subst (λ (x : Ending). Pays told told_new a files after old new x) e pays, none)

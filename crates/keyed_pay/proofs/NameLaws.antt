-- The names of the new files where that of the PSBT is taken apart.
use Rattle.std.proofs.Common.{◌≡◌, ◌∙◌, ℕ, List, Option, Some, None, refl, sym, ap}
use Rattle.std.proofs.lemmas.Option.{none-some}
use Rattle.pay_words.specs.Asked.{PlainAsked, PlainNames, plain_asked, plain_names}
use Rattle.pay_words.specs.declared.asked.Asked.{Asked}
use Rattle.payment_files.specs.Files.{HasOwnNames, name_among}
use Rattle.payment_files.specs.declared.file.NewFile.{NewFile}
use Rattle.payment_files.specs.declared.file.NewFile.TheVariants.{Request, Log, Report, Psbt}
use Rattle.keyed_pay.specs.Pays.{with_psbt}

-- without a file for the PSBT the names of the others are as before
module _ (bare whole : PlainNames) (name : Option (List ℕ)) (same : record bare { psbt = name } ≡ whole) (none : bare.psbt ≡ None) where
  lift : (file : NewFile) (text : List ℕ) → name_among bare file ≡ Some text → name_among whole file ≡ Some text
  lift Request text e = sym (ap (λ (n : PlainNames). n.request) same) ∙ e
  lift Log text e = sym (ap (λ (n : PlainNames). n.log) same) ∙ e
  lift Report text e = sym (ap (λ (n : PlainNames). n.report) same) ∙ e
  lift Psbt text e = absurd (none-some text (sym none ∙ e))

  pub bare_own : ((x y : NewFile) (text : List ℕ) → name_among whole x ≡ Some text → name_among whole y ≡ Some text → x ≡ y)
      → (x y : NewFile) (text : List ℕ) → name_among bare x ≡ Some text → name_among bare y ≡ Some text → x ≡ y
  bare_own own x y text e f = own x y text (lift x text e) (lift y text f)

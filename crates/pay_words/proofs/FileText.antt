-- A file as text.
use Rattle.std.proofs.Common.{◌≡◌, ◌∙◌, ℕ, Bool, true, false, List, Option, Some, None, cond, ap, refl, sym}
use Rattle.std.specs.Str.{IsUtf8, is_utf8}
use Rattle.std.proofs.lemmas.Str.{IsUtf8-from_is_utf8, is_utf8-from_IsUtf8}
use Rattle.pay_words.specs.Lines.{text_in}

pub some_text : (file text : List ℕ) → text ≡ file → IsUtf8 file → Some text ≡ text_in file
some_text file text e utf8 = ap (λ (w : List ℕ). Some w) e ∙ ap (λ (b : Bool). cond b (Some file) None) (sym (is_utf8-from_IsUtf8 file utf8))

pub no_text : (file : List ℕ) → (IsUtf8 file → ⊥) → None ≡ text_in file
no_text file other = by (is_utf8 file) refl
  where
    by : (b : Bool) → is_utf8 file ≡ b → None ≡ text_in file
    by true e = absurd (other (IsUtf8-from_is_utf8 file e))
    by false e = sym (ap (λ (b : Bool). let none : Option (List ℕ) = None in cond b (Some file) none) e)

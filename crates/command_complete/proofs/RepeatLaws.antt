-- What is printed of a PSBT made whole is made whole as itself.
use Rattle.std.proofs.Common.{◌≡◌, ◌∙◌, ◌-◌, ◌==◌, ℕ, Bool, true, false, List, [], ◌∷◌, ◌++◌, length, if◌then◌else◌, refl, sym, ap, subst, arith, length-append}
use Rattle.std.specs.List.{starts_with}
use Rattle.std.specs.Prelude.{nat_eq}
use Rattle.base64.specs.Engines.{standard}
use Rattle.base64.specs.GeneralPurpose.{encode_of}
use Rattle.base64.specs.Rfc4648.{encode_symbols}
use Rattle.std.proofs.Math.Seq.{get_or-append_seam, take-append_seam}
use Rattle.coin_book.specs.History.{History}
use Rattle.psbt_codec.specs.PartialTransaction.{PartialTransaction}
use Rattle.psbt_codec.specs.Psbt.{magic, written_fields, written_whole}
use Rattle.psbt_codec.specs.Text.{psbt_text}
use Rattle.command_complete.proofs.CompletedLaws.{one_completed, stays}
use Rattle.command_complete.proofs.TextLaws.{text_of_line}
use Rattle.command_complete.specs.Completed.{IsCompleted}
use Rattle.report_check.proofs.SpendLaws.{one_psbt_in}
use Rattle.command_complete.specs.Made.{IsCompletedFile, IsSpelled, line_of, text_of}

-- the line feed behind a line is taken off
line_back : (line : List ℕ) → line_of (line ++ 10 ∷ []) ≡ line
line_back line =
    let last : length (line ++ 10 ∷ []) - 1 ≡ length line = omega (arith, length-append line (10 ∷ [])) in
    rw (last, get_or-append_seam line 10 [] 0, take-append_seam line (10 ∷ []))

-- base64 of bytes that begin as those of a PSBT doesn't begin as they do: its first letter is c
apart : (rest more : List ℕ) → starts_with nat_eq (encode_of standard (magic ++ rest) ++ more) magic ≡ false
unfolding encode_symbols
apart rest more = refl

either_apart : (b : Bool) (x y more : List ℕ) → starts_with nat_eq (encode_of standard (if b then magic ++ x else magic ++ y) ++ more) magic ≡ false
either_apart true x y more = apart x more
either_apart false x y more = apart y more

text_apart : (version : ℕ) (p : PartialTransaction) (more : List ℕ) → starts_with nat_eq (psbt_text version p ++ more) magic ≡ false
unfolding written_fields written_whole
text_apart version p more = either_apart (version == 2) _ _ more

-- the text that is printed is that of the file into which it is printed
text_back : (line : List ℕ) (version : ℕ) (p : PartialTransaction) → line ≡ psbt_text version p → text_of (line ++ 10 ∷ []) ≡ line
text_back line version p is =
    text_of_line (line ++ 10 ∷ []) (subst (λ (l : List ℕ). starts_with nat_eq (l ++ 10 ∷ []) magic ≡ false) (sym is) (text_apart version p (10 ∷ []))) ∙ line_back line

pub files_stay : (h g : History) (file text : List ℕ) → IsCompletedFile h file text → IsCompletedFile g text text
files_stay h g file text a = record {
  version = a.version;
  before = a.after;
  spelled = subst (λ (t : List ℕ). IsSpelled t a.version a.after) (sym (ap text_of a.prints ∙ text_back a.line a.version a.after a.reads.spelling)) a.reads;
  after = a.after;
  completed = stays h g a.before a.after a.completed;
  line = a.line;
  reads = a.reads;
  prints = a.prints;
}

-- a file is made whole from a book as one text at most
one_text : (h : History) (file text other : List ℕ) → IsCompletedFile h file text → IsCompletedFile h file other → other ≡ text
one_text h file text other x y =
    let same = one_psbt_in (text_of file) y.version x.version y.before x.before y.spelled.psbt x.spelled.psbt in
    let after : y.after ≡ x.after = one_completed h x.before y.after x.after (subst (λ (p : PartialTransaction). IsCompleted h p y.after) same.1 y.completed) x.completed in
    let text : psbt_text y.version y.after ≡ psbt_text x.version x.after = ap (λ (v : ℕ). psbt_text v y.after) same.0 ∙ ap (λ (p : PartialTransaction). psbt_text x.version p) after in
    y.prints ∙ ap (λ (l : List ℕ). l ++ 10 ∷ []) (y.reads.spelling ∙ text ∙ sym x.reads.spelling) ∙ sym x.prints

pub same_again : (h g : History) (file text other : List ℕ) → IsCompletedFile h file text → IsCompletedFile g text other → other ≡ text
same_again h g file text other a b = one_text g text text other (files_stay h g file text a) b

-- What is made of a PSBT file, and why one is refused.
use Rattle.std.specs.Prelude.{ℕ, ◌≡◌, ◌≢◌, ◌-◌, ◌==◌, List, [], ◌∷◌, ◌++◌, length, nat_eq, take, slice_index, if◌then◌else◌}
use Rattle.std.specs.List.{starts_with}
use Rattle.base64.specs.Engines.{standard}
use Rattle.base64.specs.GeneralPurpose.{encode_of}
use Rattle.coin_book.specs.History.{History}
use Rattle.psbt_codec.specs.PartialTransaction.{PartialTransaction}
use Rattle.psbt_codec.specs.Psbt.{magic}
use Rattle.psbt_codec.specs.Text.{psbt_text, HasPsbtFault, IsPsbtTextIn}
use Rattle.command_complete.specs.Completed.{IsCompleted, known_of}
use Rattle.command_complete.specs.Faults.{IsFirstFault}
use Rattle.command_complete.specs.declared.stop.Refusal.{Refusal}
use Rattle.command_complete.specs.declared.stop.Refusal.TheVariants.{Psbt, OtherPairs, Input}

-- the bytes of a file without the line feed at their end, where one stands there
abbrev pub line_of : List ℕ → List ℕ
line_of file = if slice_index file (length file - 1) == 10 then take (length file - 1) file else file

-- The text of a PSBT file: that of its bytes in base64 where they begin as those of each PSBT do (BIP 174), which no base64 does; and
-- otherwise what stands in the file, without a line feed at its end.
abbrev pub text_of : List ℕ → List ℕ
text_of file = if starts_with nat_eq file magic then encode_of standard file else line_of file

-- The text is a PSBT of this version, and is the one that is written of it in this version: so it holds nothing else.
pub record IsSpelled (text : List ℕ) (version : ℕ) (p : PartialTransaction) : Type 0 where
  pub psbt : IsPsbtTextIn version text p
  pub spelling : text ≡ psbt_text version p

-- the text is a PSBT of some version, and isn't the one that is written of it in this version
pub record IsSpelledOtherwise (text : List ℕ) : Type 0 where
  pub version : ℕ
  pub is : PartialTransaction
  pub psbt : IsPsbtTextIn version text is
  pub other : text ≢ psbt_text version is

-- The text is the one of a PSBT in its version, which is made whole from a book. What is printed is the one text of that in the
-- same version, and a line feed.
pub record IsCompletedText (h : History) (old text : List ℕ) : Type 0 where
  pub version : ℕ
  pub before : PartialTransaction
  pub spelled : IsSpelled old version before
  pub after : PartialTransaction
  pub completed : IsCompleted h before after
  pub line : List ℕ
  pub reads : IsSpelled line version after
  pub prints : text ≡ line ++ 10 ∷ []

-- so of the text of a file
abbrev pub IsCompletedFile : History → (file text : List ℕ) → Type 0
IsCompletedFile h file text = IsCompletedText h (text_of file) text

-- What the refusal of a PSBT's text means, beside a book: it is no PSBT, for this fault first; or is spelled otherwise; or this is
-- wrong with the first of its inputs with which something is.
abbrev pub IsRefusedText : History → (text : List ℕ) → Refusal → Type 0
IsRefusedText h text (Psbt fault) = HasPsbtFault text fault
IsRefusedText h text OtherPairs = IsSpelledOtherwise text
IsRefusedText h text (Input fault) = (version : ℕ) × (p : PartialTransaction) × IsSpelled text version p × IsFirstFault h (known_of p) fault

-- so of the text of a file
abbrev pub IsRefused : History → (file : List ℕ) → Refusal → Type 0
IsRefused h file refusal = IsRefusedText h (text_of file) refusal

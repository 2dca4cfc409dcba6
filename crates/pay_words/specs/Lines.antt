-- A file that lists payments, one on each line as ADDRESS,AMOUNT; and the words that say the same.
use Rattle.std.specs.Prelude.{ℕ, ◌≡◌, ◌-◌, ◌/◌, ◌==◌, nat_lt, Bool, List, [], ◌∷◌, ◌++◌, length, String, Option, Some, None, IsSome, Result, Ok, Err, if◌then◌else◌}
use Rattle.std.specs.List.{after_first, before_first, position_or_len}
use Rattle.std.specs.Str.{is_utf8}
use Rattle.std.specs.Str.Lines.{lines}
use Rattle.std.specs.declared.alloc.Global.{Global}
use Rattle.fund_base.specs.Parsing.{◌>>=◌}
use Rattle.pay_words.specs.Flags.{flag_word}
use Rattle.pay_words.specs.Payments.{PlainPayment, paid_to, payments_from}
use Rattle.pay_words.specs.declared.flag.Flag.TheVariants as flags
use Rattle.pay_words.specs.declared.given.Given.{Given}
use Rattle.pay_words.specs.declared.line_fault.LineFault.{LineFault}
use Rattle.pay_words.specs.declared.line_fault.LineFault.TheVariants as faults
use Rattle.pay_words.specs.declared.lines.TheConstants.{PAY_FILE_LIMIT}

-- the sign `,`
abbrev pub is_comma : ℕ → Bool
is_comma b = b == 44

-- the address and the amount of a line: what stands before and behind its first comma, if there is one
abbrev pub comma_cut : List ℕ → Option (List ℕ × List ℕ)
comma_cut line = if nat_lt (position_or_len is_comma line) (length line) then Some (before_first is_comma line, after_first is_comma line) else None

-- the word ADDRESS=AMOUNT
abbrev pub payment_word : List ℕ → List ℕ → List ℕ
payment_word address amount = address ++ 61 ∷ amount

-- the words of a payment: `--to`, and ADDRESS=AMOUNT
abbrev pub words_for : List ℕ × List ℕ → List (List ℕ)
words_for parts = flag_word flags.To ∷ payment_word parts.0 parts.1 ∷ []

-- the words of one more line; there are two words of each line before it
abbrev pub with_parts : List (List ℕ) → Option (List ℕ × List ℕ) → Result (List (List ℕ)) LineFault
with_parts before None = Err (faults.NoComma (length before / 2))
with_parts before (Some parts) = Ok (before ++ words_for parts)

abbrev pub with_line : List (List ℕ) → List ℕ → Result (List (List ℕ)) LineFault
with_line before line = with_parts before (comma_cut line)

-- the words of each line in order
unfoldable pub words_from : List (List ℕ) → List (List ℕ) → Result (List (List ℕ)) LineFault
words_from before [] = Ok before
words_from before (line ∷ rest) = with_line before line >>= λ words. words_from words rest

-- The words of the lines of a text. A line ends by a line feed, of which a carriage return before it is part; behind the last line feed
-- is a line where anything stands.
abbrev pub text_words : List ℕ → Result (List (List ℕ)) LineFault
text_words text = words_from [] (lines text)

abbrev pub some_words : List (List ℕ) → Result (List (List ℕ)) LineFault
some_words words = if length words == 0 then Err faults.NoLine else Ok words

-- the file as text
abbrev pub text_in : List ℕ → Option (List ℕ)
text_in file = if is_utf8 file then Some file else None

-- the words of the lines of a file's text, which has lines
abbrev pub words_by : Option (List ℕ) → Result (List (List ℕ)) LineFault
words_by None = Err faults.NotText
words_by (Some text) = text_words text >>= some_words

-- The words of the lines of a file, or its first fault: its length, its encoding, its lines in order, or that it has none.
unfoldable pub line_words : List ℕ → Result (List (List ℕ)) LineFault
line_words file = if nat_lt PAY_FILE_LIMIT (length file) then Err faults.TooLong else words_by (text_in file)

-- the first line has a comma
abbrev pub BeginsWithPayment : List (List ℕ) → Type 0
BeginsWithPayment [] = ⊥
BeginsWithPayment (line ∷ rest) = IsSome (comma_cut line)

-- A payment is that of a line: it pays what the word ADDRESS=AMOUNT pays, wherever that stands.
pub record IsPaidBy (line : List ℕ) (p : PlainPayment) : Type 0 where
  pub address : List ℕ
  pub amount : List ℕ
  pub parts : comma_cut line ≡ Some (address, amount)
  pub place : ℕ
  pub paid : paid_to place (payment_word address amount) ≡ Ok p

-- these payments are those of these lines, one of each, in order
abbrev pub ArePaidBy : List (List ℕ) → List PlainPayment → Type 0
ArePaidBy [] [] = Unit {0}
ArePaidBy [] (p ∷ ps) = ⊥
ArePaidBy (line ∷ rest) [] = ⊥
ArePaidBy (line ∷ rest) (p ∷ ps) = IsPaidBy line p × ArePaidBy rest ps

-- Payments are those of the words that give these flags, and behind them those of these lines.
pub record ArePaidBehind (words : List (String Global)) (given : List Given) (lines : List (List ℕ)) (ps : List PlainPayment) : Type 0 where
  pub before : List PlainPayment
  pub listed : List PlainPayment
  pub by_words : payments_from words [] given ≡ Ok before
  pub by_lines : ArePaidBy lines listed
  pub all : ps ≡ before ++ listed

-- The line that a word is of, where so many words stand before those of the lines: two words are of each line.
abbrev pub line_of : ℕ → ℕ → Option ℕ
line_of before place = if nat_lt place before then None else Some ((place - before) / 2)

-- Words and lists of a request file, without the order in which they are read.
use Rattle.std.specs.Prelude.{ℕ, ◌≡◌, List, length, codes}
use Rattle.std.specs.List.{AllPass}
use Rattle.hex.specs.Hex.{is_hex_digit}
use Rattle.serde_json.specs.Data.{Data, string}
use Rattle.request_text.specs.declared.request.Method.{Method}
use Rattle.request_text.specs.declared.request.Method.TheVariants.{Auto, Changeless, Weight, Draw, Manual}

-- the word that names a method
abbrev pub word_of : Method → List ℕ
word_of Auto = codes "auto"
word_of Changeless = codes "changeless"
word_of Weight = codes "weight"
word_of Draw = codes "draw"
word_of Manual = codes "manual"

-- a string of 64 hexadecimal digits, in either case
pub record IsSeedText (d : Data) : Type 0 where
  pub text : List ℕ
  pub whole : d ≡ string text
  pub len : length text ≡ 64
  pub digits : AllPass is_hex_digit text

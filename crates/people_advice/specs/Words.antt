-- Words that aren't meant for this program, and a text in place of a file's name.
use Rattle.std.specs.Prelude.{ℕ, ◌||◌, Bool, List, length, take, drop, bytes_eq, codes, Option, Some, None, is_some, if◌then◌else◌}

-- a command that `fund_cli` has and `ninelace` hasn't
abbrev pub is_other_command : List ℕ → Bool
is_other_command word =
    bytes_eq word (codes "fund")
    || bytes_eq word (codes "resume")
    || bytes_eq word (codes "wide")
    || bytes_eq word (codes "share")
    || bytes_eq word (codes "work")
    || bytes_eq word (codes "desk")

unfoldable pub other_command_sentence : List ℕ
other_command_sentence = codes "This is a command of fund_cli, the program that reads a request file: ninelace pay makes the request of its words."

-- what stands behind this front, if it stands there
abbrev pub behind : List ℕ → List ℕ → Option (List ℕ)
behind front bytes = if bytes_eq (take (length front) bytes) front then Some (drop (length front) bytes) else None

-- A PSBT in base64 begins so: the letters of its first bytes `psbt` and 0xff (BIP 174, 'Specification'; RFC 4648, section 4).
abbrev pub is_psbt_text : List ℕ → Bool
is_psbt_text word = is_some (behind (codes "cHNidP") word)

unfoldable pub psbt_text_sentence : List ℕ
psbt_text_sentence = codes "This is the text of a PSBT, and no file: put it into a file, and give the name of that."

-- How a name is shown that a file gives. What it holds is the file's: it may not end the line in which it
-- stands, nor be taken for two words, nor speak to a terminal.
use Rattle.std.specs.Prelude.{ℕ, Bool, not, ◌&&◌, ◌==◌, List, [], ◌∷◌, if◌then◌else◌}
use Rattle.std.specs.Char.{is_ascii_graphic}
use Rattle.std.specs.List.{flat_map}
use Rattle.hex.specs.Hex.{encode_lower}

-- a byte that stands as it is: printable ASCII, 33 to 126, but for the backslash
abbrev pub stands_plain : ℕ → Bool
stands_plain byte = is_ascii_graphic byte && not (byte == 92)

-- a byte as it is shown: itself, or a backslash, an x and two lower-case hex digits
abbrev pub shown_byte : ℕ → List ℕ
shown_byte byte = if stands_plain byte then byte ∷ [] else 92 ∷ 120 ∷ encode_lower (byte ∷ [])

-- a name as it is shown, byte by byte
unfoldable pub shown_name : List ℕ → List ℕ
shown_name name = flat_map shown_byte name

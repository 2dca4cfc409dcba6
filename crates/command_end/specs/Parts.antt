-- The words of a fault in their parts: each part is a text and what stands behind it.
use Rattle.std.specs.Prelude.{ℕ, List, [], ◌++◌}
use Rattle.std.specs.Fmt.{decimal}
use Rattle.std.specs.List.{flat_map}
use Rattle.hex.specs.Hex.{encode_lower}
use Rattle.command_end.specs.Coin.{coin_text, shown_hash}
use Rattle.command_end.specs.Name.{shown_name}
use Rattle.command_end.specs.declared.parts.Part.{Part}
use Rattle.command_end.specs.declared.parts.Part.TheVariants.{Nothing, Text, Number, Sum, Hash, Digest, Coin, Name}

-- the bytes of a part: its text, and behind it a number in decimal, a hash as it is shown, a digest in plain lower-case hex, a
-- coin, or a name as it is shown
abbrev pub part_text : Part → List ℕ
part_text Nothing = []
part_text (Text text) = text.now
part_text (Number text number) = text.now ++ decimal number
part_text (Sum text sum) = text.now ++ decimal sum
part_text (Hash text hash) = text.now ++ shown_hash hash.now
part_text (Digest text digest) = text.now ++ encode_lower digest.now
part_text (Coin text coin) = text.now ++ coin_text coin.now
part_text (Name text name) = text.now ++ shown_name name.now

-- the bytes of parts, one behind the other
abbrev pub parts_text : List Part → List ℕ
parts_text parts = flat_map part_text parts

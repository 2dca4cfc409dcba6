-- Decimal numbers as the files of Ninelace spell them: digits, no sign, no leading zero.
use Rattle.std.specs.Prelude.{ℕ, List, Option, Some, None, nat_le, bytes_eq, ◌&&◌, if◌then◌else◌}
use Rattle.std.specs.Fmt.{decimal}
use Rattle.std.specs.Str.Parse.{digits_value}

-- the number of at most `most` whose decimal spelling the text is
unfoldable pub number_of : ℕ → List ℕ → Option ℕ
number_of most text =
    let n = digits_value 10 text in
    if nat_le n most && bytes_eq text (decimal n) then Some n else None

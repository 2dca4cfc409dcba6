-- The number that a text spells, or the first fault.
use Rattle.std.specs.Prelude.{ℕ, ◌≡◌, ◌+◌, ◌==◌, nat_lt, true, false, List, [], ◌++◌, length, take, drop, slice_index, Option, Some, None, IfSome, IfNone, Result, Ok, Err, ◌≢◌, if◌then◌else◌}
use Rattle.std.specs.Char.{is_ascii_digit}
use Rattle.std.specs.List.{prefix_len}
use Rattle.std.specs.Str.Parse.{AllDigits}
use Rattle.request_making.specs.Spelling.{scaled, behind_point}
use Rattle.request_making.specs.Units.{places_of}
use Rattle.request_making.specs.declared.fault.SpellingFault.{SpellingFault}
use Rattle.request_making.specs.declared.fault.SpellingFault.TheVariants.{Digit, Unit, Fine, Range}
use Rattle.request_making.specs.declared.unit.Kind.{Kind}

-- The parts of a text: all the digits that it begins with; if a point follows, all the digits behind that; and the rest.
-- Each text has exactly one such cut.
pub record IsCut (text whole : List ℕ) (fraction : Option (List ℕ)) (unit : List ℕ) : Type 0 where
  pub joined : text ≡ whole ++ (behind_point fraction ++ unit)
  pub digits : AllDigits 10 whole
  pub behind : IfSome fraction (AllDigits 10)
  pub no_digit : is_ascii_digit (slice_index unit 0) ≡ false
  pub no_point : IfNone fraction (slice_index unit 0 ≢ 46)

-- the number of these digits, at most so great, whose unit has these places and stands at this place
unfoldable pub valued : ℕ → ℕ → Option ℕ → List ℕ → List ℕ → Result ℕ SpellingFault
valued most place None whole fraction = Err (Unit place)
valued most place (Some places) whole fraction =
    if nat_lt places (length fraction) then Err (Fine (length whole + 1 + places))
    else if nat_lt most (scaled places whole fraction) then Err Range
    else Ok (scaled places whole fraction)

-- What the parts of a text come to, the first of these faults: no digit at the beginning, none behind the point, a unit
-- that isn't known, a digit too many behind the point, a number that is too great.
abbrev pub judged : Kind → ℕ → List ℕ → Option (List ℕ) → List ℕ → Result ℕ SpellingFault
judged kind most whole None unit =
    if length whole == 0 then Err (Digit 0)
    else valued most (length whole) (places_of kind false unit) whole []
judged kind most whole (Some fraction) unit =
    if length whole == 0 then Err (Digit 0)
    else if length fraction == 0 then Err (Digit (length whole + 1))
    else valued most (length whole + 1 + length fraction) (places_of kind true unit) whole fraction

-- the number of these digits, and of what stands behind their point
unfoldable pub pointed : Kind → ℕ → List ℕ → List ℕ → Result ℕ SpellingFault
pointed kind most whole behind =
    let n = prefix_len is_ascii_digit behind in
    if n == 0 then Err (Digit (length whole + 1))
    else valued most (length whole + 1 + n) (places_of kind true (drop n behind)) whole (take n behind)

-- the number of at most `most` that the text spells
unfoldable pub spelled : Kind → ℕ → List ℕ → Result ℕ SpellingFault
spelled kind most text =
    let n = prefix_len is_ascii_digit text in
    if n == 0 then Err (Digit 0)
    else if slice_index (drop n text) 0 == 46 then pointed kind most (take n text) (drop 1 (drop n text))
    else valued most n (places_of kind false (drop n text)) (take n text) []

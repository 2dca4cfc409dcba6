-- The units that amounts and rates are spelled in.
use Rattle.std.specs.Prelude.{ℕ, Bool, ◌||◌, List, ◌∷◌, length, ◌==◌, map, bytes_eq, codes, Option, Some, None, if◌then◌else◌}
use Rattle.std.specs.Char.{to_ascii_lowercase}
use Rattle.request_making.specs.declared.unit.Kind.{Kind}
use Rattle.request_making.specs.declared.unit.Kind.TheVariants.{Amount, Rate}

-- the word, in letters of either case, with one blank before it or none
abbrev pub is_word : List ℕ → List ℕ → Bool
is_word word unit = bytes_eq (map to_ascii_lowercase unit) word || bytes_eq (map to_ascii_lowercase unit) (32 ∷ word)

-- How many digits may stand behind the point, by the unit behind the number: a bitcoin has 10 ^ 8 satoshi, and a
-- satoshi has no parts. Without a unit a number with a point is of bitcoin, and one without is of satoshi.
abbrev pub amount_places : Bool → List ℕ → Option ℕ
amount_places pointed unit =
    if length unit == 0 then Some (if pointed then 8 else 0)
    else if is_word (codes "sat") unit then Some 0
    else if is_word (codes "btc") unit then Some 8
    else None

-- A rate is of satoshi per virtual byte, with or without the unit, and is kept per 1,000 of these.
abbrev pub rate_places : List ℕ → Option ℕ
rate_places unit = if length unit == 0 || is_word (codes "sat/vb") unit then Some 3 else None

-- how many digits may stand behind the point; none where the unit isn't known
unfoldable pub places_of : Kind → Bool → List ℕ → Option ℕ
places_of Amount pointed unit = amount_places pointed unit
places_of Rate pointed unit = rate_places unit

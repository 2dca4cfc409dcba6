-- What it means that a text spells a number, by its parts and not by how it is read.
use Rattle.std.specs.Prelude.{ℕ, ◌≡◌, ◌<◌, ◌≤◌, ◌+◌, ◌-◌, ◌*◌, ◌^◌, List, [], ◌∷◌, ◌++◌, length, Option, Some, None, is_some, unwrap_or, IfSome}
use Rattle.std.specs.Str.Parse.{AllDigits, digits_value}
use Rattle.request_making.specs.Units.{places_of}
use Rattle.request_making.specs.declared.unit.Kind.{Kind}

-- The value of a number, counted in the parts of which 10 ^ places make one: that of its digits before the point, and of
-- those behind it. With no more digits behind the point than places it is exact.
abbrev pub scaled : ℕ → List ℕ → List ℕ → ℕ
scaled places whole fraction = digits_value 10 whole * 10 ^ places + digits_value 10 fraction * 10 ^ (places - length fraction)

-- the point and what stands behind it
abbrev pub behind_point : Option (List ℕ) → List ℕ
behind_point None = []
behind_point (Some fraction) = 46 ∷ fraction

-- The text spells the number: at least one digit; perhaps a point and at least one digit, no more than the unit has
-- places; and the unit, which may be left out. The number is their exact value.
pub record IsSpelled (kind : Kind) (text : List ℕ) (n : ℕ) : Type 0 where
  pub whole : List ℕ
  pub fraction : Option (List ℕ)
  pub unit : List ℕ
  pub places : ℕ
  pub joined : text ≡ whole ++ (behind_point fraction ++ unit)
  pub digits : AllDigits 10 whole
  pub some : 0 < length whole
  pub behind : IfSome fraction (λ f. AllDigits 10 f × (0 < length f) × (length f ≤ places))
  pub known : places_of kind (is_some fraction) unit ≡ Some places
  pub value : n ≡ scaled places whole (unwrap_or fraction [])

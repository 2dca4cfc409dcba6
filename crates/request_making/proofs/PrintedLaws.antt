-- What is printed is read back.
use Rattle.std.proofs.Common.{◌≡◌, ℕ, ◌+◌, ◌*◌, ◌-◌, ◌/◌, ◌%◌, ◌^◌, ◌<◌, ◌≤◌, true, List, ◌∷◌, ◌++◌, length, Some, None, Ok, refl, sym, ◌∙◌, arith, replicate, append_assoc, length-append}
use Rattle.std.specs.Prelude.{codes}
use Rattle.std.specs.Fmt.{decimal}
use Rattle.std.specs.Str.Parse.{AllDigits, digits_value}
use Rattle.std.proofs.lemmas.Fmt.{decimal_is_IsNumeral, length-decimal-le}
use Rattle.std.proofs.lemmas.List.{length-replicate}
use Rattle.std.proofs.lemmas.Nat.{div-add-mod'}
use Rattle.std.proofs.Math.Nat.{div-le_self, mod-lt, sub_self}
use Rattle.request_making.specs.Printed.{padded, fixed, sat_text, btc_text, rate_text}
use Rattle.request_making.specs.Spelled.{spelled}
use Rattle.request_making.specs.Spelling.{IsSpelled, scaled}
use Rattle.request_making.specs.Units.{places_of}
use Rattle.request_making.specs.declared.unit.Kind.{Kind}
use Rattle.request_making.specs.declared.unit.Kind.TheVariants.{Amount, Rate}
use Rattle.request_making.proofs.Cuts.{only}
use Rattle.request_making.proofs.DigitLaws.{zeros_digits, zeros_value}

-- digits with zeros before them up to so many
pub record IsPadded (places n : ℕ) (text : List ℕ) : Type 0 where
  pub digits : AllDigits 10 text
  pub len : length text ≡ places
  pub value : digits_value 10 text ≡ n

padded_is : (places n : ℕ) → 0 < places → n < 10 ^ places → n < 2 ^ 64 → IsPadded places n (padded places n)
padded_is places n some short small =
    let numeral = decimal_is_IsNumeral n small in
    let fits = length-decimal-le places n some short small in
    record {
      digits = zeros_digits (places - length (decimal n)) (decimal n) numeral.0.1;
      len = omega (arith, length-append (replicate (places - length (decimal n)) 48) (decimal n), length-replicate {A = ℕ} (places - length (decimal n)) 48, fits);
      value = zeros_value (places - length (decimal n)) (decimal n) ∙ numeral.1;
    }

-- the value of digits whose fraction has all its places
scaled_is : (places a b : ℕ) (whole fraction : List ℕ) → digits_value 10 whole ≡ a → digits_value 10 fraction ≡ b → length fraction ≡ places → scaled places whole fraction ≡ a * 10 ^ places + b
scaled_is places a b whole fraction ea eb el = rw (ea, eb, el, sub_self places) (omega arith)

-- a number with a point, and a unit
fixed_spelled : (kind : Kind) (places n : ℕ) (unit : List ℕ) → 0 < places → 0 < 10 ^ places → 10 ^ places < 2 ^ 64 → n < 2 ^ 64 → places_of kind true unit ≡ Some places → IsSpelled kind (fixed places n ++ unit) n
fixed_spelled kind places n unit some positive small_parts small known =
    let ones = decimal_is_IsNumeral (n / 10 ^ places) (omega (arith, div-le_self n (10 ^ places))) in
    let low : n % 10 ^ places < 10 ^ places = mod-lt n positive in
    let parts = padded_is places (n % 10 ^ places) some low (omega (arith, low, small_parts)) in
    let value = scaled_is places (n / 10 ^ places) (n % 10 ^ places) (decimal (n / 10 ^ places)) (padded places (n % 10 ^ places)) ones.1 parts.value parts.len in
    record {
      whole = decimal (n / 10 ^ places);
      fraction = Some (padded places (n % 10 ^ places));
      unit = unit;
      places = places;
      joined = append_assoc (decimal (n / 10 ^ places)) (46 ∷ padded places (n % 10 ^ places)) unit;
      digits = ones.0.1;
      some = ones.0.0;
      behind = (parts.digits, omega (arith, parts.len, some), omega (arith, parts.len));
      known = known;
      value = sym (value ∙ div-add-mod' n (10 ^ places));
    }

sat_spelled : (n : ℕ) → n < 2 ^ 64 → IsSpelled Amount (sat_text n) n
unfolding sat_text places_of
sat_spelled n small =
    let numeral = decimal_is_IsNumeral n small in
    record { whole = decimal n; fraction = None; unit = codes " sat"; places = 0; joined = refl; digits = numeral.0.1; some = numeral.0.0; behind = tt; known = refl; value = omega (arith, numeral.1) }

btc_spelled : (n : ℕ) → n < 2 ^ 64 → IsSpelled Amount (btc_text n) n
unfolding btc_text places_of
btc_spelled n small = fixed_spelled Amount 8 n (codes " BTC") (omega arith) (omega arith) (omega arith) small refl

rate_spelled : (n : ℕ) → n < 2 ^ 64 → IsSpelled Rate (rate_text n) n
unfolding rate_text places_of
rate_spelled n small = fixed_spelled Rate 3 n (codes " sat/vB") (omega arith) (omega arith) (omega arith) small refl

pub sat_read : (most n : ℕ) → most < 2 ^ 64 → n ≤ most → spelled Amount most (sat_text n) ≡ Ok n
sat_read most n small le = only Amount most n (sat_text n) (sat_spelled n (omega arith)) le

pub btc_read : (most n : ℕ) → most < 2 ^ 64 → n ≤ most → spelled Amount most (btc_text n) ≡ Ok n
btc_read most n small le = only Amount most n (btc_text n) (btc_spelled n (omega arith)) le

pub rate_read : (most n : ℕ) → most < 2 ^ 64 → n ≤ most → spelled Rate most (rate_text n) ≡ Ok n
rate_read most n small le = only Rate most n (rate_text n) (rate_spelled n (omega arith)) le

-- What a hole writes that has zeros before its digits, with what stands before and behind it.
use Rattle.std.proofs.Common.{◌≡◌, ℕ, ◌-◌, List, [], ◌∷◌, ◌++◌, length, sym, refl, arith, replicate, false}
use Rattle.std.specs.Fmt.{decimal, char_count, format_spec, padded_integral, styled_decimal}
use Rattle.std.proofs.lemmas.List.{append_assoc, append-nil}
use Rattle.request_making.specs.Printed.{padded}

-- up to eight digits
eight : (numeral : List ℕ) → padded_integral (format_spec 32 0 4 8 18446744073709551615) false [] numeral ≡ replicate (8 - length numeral) 48 ++ numeral
unfolding padded_integral char_count
eight numeral = let short : 8 - length numeral - 0 - 0 ≡ 8 - length numeral = omega arith in rw (short, append-nil numeral) refl

pub eight_printed : (front : List ℕ) (n : ℕ) (unit : List ℕ) → front ++ 46 ∷ (styled_decimal (format_spec 32 0 4 8 18446744073709551615) n ++ unit) ≡ (front ++ (46 ∷ padded 8 n)) ++ unit
eight_printed front n unit = rw (eight (decimal n)) (sym (append_assoc front (46 ∷ padded 8 n) unit))

-- up to three digits
three : (numeral : List ℕ) → padded_integral (format_spec 32 0 4 3 18446744073709551615) false [] numeral ≡ replicate (3 - length numeral) 48 ++ numeral
unfolding padded_integral char_count
three numeral = let short : 3 - length numeral - 0 - 0 ≡ 3 - length numeral = omega arith in rw (short, append-nil numeral) refl

pub three_printed : (front : List ℕ) (n : ℕ) (unit : List ℕ) → front ++ 46 ∷ (styled_decimal (format_spec 32 0 4 3 18446744073709551615) n ++ unit) ≡ (front ++ (46 ∷ padded 3 n)) ++ unit
three_printed front n unit = rw (three (decimal n)) (sym (append_assoc front (46 ∷ padded 3 n) unit))

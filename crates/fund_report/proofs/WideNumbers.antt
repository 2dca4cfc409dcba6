-- Numbers of up to 128 bits, read from their digits and written again to see that this is how they are spelled.
use Rattle.std.proofs.Common.{◌≡◌, ℕ, ◌^◌, ◌<◌, ◌≤◌, true, false, leb, List, Some, None, refl, sym, ap, subst, arith}
use Rattle.std.specs.Fmt.{decimal}
use Rattle.std.specs.Str.{bytes_eq}
use Rattle.std.specs.Str.Parse.{AllDigits, digits_value}
use Rattle.std.proofs.lemmas.Bool.{le-leb}
use Rattle.std.proofs.lemmas.Fmt.{decimal_is_IsNumeral_wide}
use Rattle.fund_base.proofs.Decimals.{absent}
use Rattle.fund_base.specs.Decimal.{number_of}

pub read_written : (most n : ℕ) (text : List ℕ) → n ≡ digits_value 10 text → n ≤ most → bytes_eq text (decimal n) ≡ true → number_of most text ≡ Some n
unfolding number_of
read_written most n text value le same =
    let small : leb n most ≡ true = le-leb n most le in
    rw (sym value, small, same) refl

pub read_other : (most n : ℕ) (text : List ℕ) → n ≡ digits_value 10 text → n ≤ most → bytes_eq text (decimal n) ≡ false → number_of most text ≡ None
unfolding number_of
read_other most n text value le other =
    let small : leb n most ≡ true = le-leb n most le in
    rw (sym value, small, other) refl

pub read_none : (most : ℕ) (text : List ℕ) → most < 10 ^ 64 → (AllDigits 10 text → most < digits_value 10 text) → number_of most text ≡ None
read_none most text small above =
    absent most text (λ n le is. let k = decimal_is_IsNumeral_wide n (omega arith) in omega (arith, le, k.1, ap (digits_value 10) is, above (subst (AllDigits 10) (sym is) k.0.1)))

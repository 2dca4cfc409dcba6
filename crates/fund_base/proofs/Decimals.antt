-- Reading a decimal number digit by digit, and the spelling of a number read back.
use Rattle.std.proofs.Common.{◌≡◌, ℕ, zero, suc, ◌+◌, ◌*◌, ◌-◌, ◌^◌, ◌<◌, ◌≤◌, Bool, true, false, cond, List, length, get_or, take, Option, Some, None, refl, sym, ◌∙◌, ap, subst, arith, leb}
use Rattle.std.specs.Prelude.{IfSome, IfNone, nat_le, ◌&&◌}
use Rattle.std.specs.Bool.{Decides}
use Rattle.std.specs.Int.{IsInRange}
use Rattle.std.specs.Fmt.{decimal}
use Rattle.std.specs.Str.{bytes_eq}
use Rattle.std.specs.Str.Parse.{AllDigits, digits_value}
use Rattle.std.proofs.lemmas.Bool.{le-leb, leb-true}
use Rattle.std.proofs.lemmas.Bool.Decides.{Decides-and}
use Rattle.std.proofs.lemmas.Fmt.{decimal-digits_value, decimal_is_IsNumeral, decimal_digit, first_decimal}
use Rattle.std.proofs.lemmas.Slice.Eq.{bytes_eq-Decides}
use Rattle.std.proofs.lemmas.Str.{digit_value_digit}
use Rattle.std.proofs.lemmas.Str.Parse.{numerals_by_value, tells_digits, digit_at, digits_value-take-le}
use Rattle.std.proofs.lemmas.Int.Digits.{digits_more, digits_value_more}
use Rattle.std.proofs.lemmas.Option.{cond_some}
use Rattle.fund_base.specs.Decimal.{number_of}

-- what is known of the digits that were read
pub record SoFar (text : List ℕ) (i n : ℕ) : Type 0 where
  pub digits : AllDigits 10 (take i text)
  pub value : n ≡ digits_value 10 (take i text)

-- a digit more
pub goes_on : (text : List ℕ) (i n m : ℕ) → i < length text → SoFar text i n → IsInRange 48 57 (get_or text i 0) → m ≡ n * 10 + (get_or text i 0 - 48) → SoFar text (i + 1) m
goes_on text i n m lt so_far here is =
    let d = digit_value_digit (get_or text i 0) here in
    record {
      digits = digits_more 10 text i lt so_far.digits (omega (arith, d, here));
      value = omega (arith, is, d, so_far.value, digits_value_more 10 text i lt);
    }

-- what is no digit, or makes the number too great, does so for the whole text
pub ends : (text : List ℕ) (i n most : ℕ) → i < length text → SoFar text i n → (IsInRange 48 57 (get_or text i 0) → most < n * 10 + (get_or text i 0 - 48)) → AllDigits 10 text → most < digits_value 10 text
ends text i n most lt so_far refused all =
    let here = digit_at text i all lt in
    let d = digit_value_digit (get_or text i 0) here in
    let above = refused here in
    omega (arith, above, d, so_far.value, digits_value_more 10 text i lt, digits_value-take-le 10 text (i + 1) (omega arith))

-- ---- the number that a text spells

none_if : {A : Type 0} (b : Bool) (x : A) → (b ≡ true → ⊥) → cond b (Some x) None ≡ None
none_if true x never = absurd (never refl)
none_if false x never = refl

tells : (most n : ℕ) (text : List ℕ) → Decides (nat_le n most && bytes_eq text (decimal n)) ((n ≤ most) × (text ≡ decimal n))
tells most n text = Decides-and (leb n most) (bytes_eq text (decimal n)) (leb-true n most, le-leb n most) (bytes_eq-Decides text (decimal n))

pub found : (most : ℕ) (text : List ℕ) (n : ℕ) → number_of most text ≡ Some n → (text ≡ decimal n) × (n ≤ most)
unfolding number_of
found most text n e =
    let v = digits_value 10 text in
    let c = cond_some (nat_le v most && bytes_eq text (decimal v)) v n e in
    let t = (tells most v text).0 c.0 in
    subst (λ k. (text ≡ decimal k) × (k ≤ most)) c.1 (t.1, t.0)

pub only : (most n : ℕ) (text : List ℕ) → most < 2 ^ 64 → n ≤ most → text ≡ decimal n → number_of most text ≡ Some n
unfolding number_of
only most n text small le is =
    let value : digits_value 10 text ≡ n = ap (digits_value 10) is ∙ (decimal_is_IsNumeral n (omega arith)).1 in
    let yes = (tells most n text).1 (le, is) in
    rw (value, yes) refl

pub absent : (most : ℕ) (text : List ℕ) → ((n : ℕ) → n ≤ most → text ≡ decimal n → ⊥) → number_of most text ≡ None
unfolding number_of
absent most text never =
    let v = digits_value 10 text in
    none_if (nat_le v most && bytes_eq text (decimal v)) v (λ yes. let t = (tells most v text).0 yes in never v t.0 t.1)

-- the spelling of a number has a digit, and begins with 0 only if it is that of 0
pub begins : (n : ℕ) (text : List ℕ) → n < 2 ^ 64 → text ≡ decimal n → (0 < length text) × (get_or text 0 0 ≡ 48 → length text ≡ 1)
begins zero text small is = rw (is, decimal_digit 0 (omega arith)) (omega arith, λ _. refl)
begins (suc n) text small is = (rw is (decimal_is_IsNumeral (suc n) small).0.0, λ zero_first. absurd (omega (arith, zero_first, ap (λ (t : List ℕ). get_or t 0 0) is, first_decimal (suc n) (omega arith) small)))

-- so no number is spelled by no digit, or by a 0 before another digit
pub no_digit : (most : ℕ) (text : List ℕ) → most < 2 ^ 64 → length text < 1 → None ≡ number_of most text
no_digit most text small none = sym (absent most text (λ n le is. omega (arith, (begins n text (omega arith) is).0)))

pub leading_zero : (most : ℕ) (text : List ℕ) → most < 2 ^ 64 → get_or text 0 0 ≡ 48 → 2 ≤ length text → None ≡ number_of most text
leading_zero most text small zero_first more = sym (absent most text (λ n le is. omega (arith, (begins n text (omega arith) is).1 zero_first)))

-- digits that were read are the number that the text spells
pub reads : (most : ℕ) (text : List ℕ) (r : Option ℕ) → most < 2 ^ 64 → 0 < length text → (get_or text 0 0 ≡ 48 → length text ≡ 1)
    → IfSome r (λ n. AllDigits 10 text × (n ≡ digits_value 10 text) × (n ≤ most)) → IfNone r (AllDigits 10 text → most < digits_value 10 text) → r ≡ number_of most text
reads most text (Some n) small some lead is none =
    let spelled : decimal n ≡ text = rw is.1 (decimal-digits_value (numerals_by_value _ tells_digits) text is.0 some lead (omega (arith, is.1, is.2))) in
    sym (only most n text small is.2 (sym spelled))
reads most text None small some lead is none =
    sym (absent most text (λ n le e. let k = decimal_is_IsNumeral n (omega arith) in omega (arith, le, k.1, ap (digits_value 10) e, none (subst (AllDigits 10) (sym e) k.0.1))))

-- ---- the clauses, from the number that the text spells

pub found_of : (most : ℕ) (text : List ℕ) (r : Option ℕ) → r ≡ number_of most text → IfSome r (λ n. (text ≡ decimal n) × (n ≤ most))
found_of most text (Some n) e = found most text n (sym e)
found_of most text None e = tt

-- The words are the commands.
use Rattle.std.proofs.Common.{◌≡◌, ◌∙◌, ℕ, ◌<◌, ◌^◌, Bool, true, false, cond, List, [], ◌∷◌, Option, Some, None, refl, ap, arith}
use Rattle.std.specs.Prelude.{◌&&◌, String, codes, nat_le, nat_lt, string_bytes, if◌then◌else◌}
use Rattle.std.specs.Fmt.{decimal}
use Rattle.std.specs.Str.{bytes_eq}
use Rattle.std.specs.Str.Parse.{digits_value}
use Rattle.std.specs.declared.alloc.Global.{Global}
use Rattle.std.proofs.lemmas.Fmt.{decimal_is_IsNumeral}
use Rattle.fund_base.proofs.Lists.{same_bytes}
use Rattle.fund_base.specs.Decimal.{number_of}
use Rattle.fund_top.specs.Words.{Work, command_of, of_five_names, of_four_names, of_three_names, where_stands, work_by, work_of}
use Rattle.fund_calls.specs.Commands.{coins_command, work_command}

pub coins_words_are : (v w b : String Global) → string_bytes v ≡ codes "coins" → string_bytes w ≡ codes "wallet" → string_bytes b ≡ codes "blocks" → command_of (v ∷ w ∷ b ∷ []) ≡ Some coins_command
coins_words_are v w b ev ew eb = rw (ev, ew, eb) refl

pub three_names_are : (v a b c : String Global) (verb wallet blocks third : List ℕ) → string_bytes v ≡ verb → string_bytes a ≡ wallet → string_bytes b ≡ blocks → string_bytes c ≡ third
    → command_of (v ∷ a ∷ b ∷ c ∷ []) ≡ of_three_names verb wallet blocks third
three_names_are v a b c verb wallet blocks third ev ea eb ec = rw (ev, ea, eb, ec) refl

pub four_names_are : (v a b c d : String Global) (verb first second third fourth : List ℕ) → string_bytes v ≡ verb → string_bytes a ≡ first → string_bytes b ≡ second → string_bytes c ≡ third → string_bytes d ≡ fourth
    → command_of (v ∷ a ∷ b ∷ c ∷ d ∷ []) ≡ of_four_names verb first second third fourth
four_names_are v a b c d verb first second third fourth ev ea eb ec ed = rw (ev, ea, eb, ec, ed) refl

pub five_names_are : (v a b c d e : String Global) (verb first second third fourth fifth : List ℕ) → string_bytes v ≡ verb → string_bytes a ≡ first → string_bytes b ≡ second → string_bytes c ≡ third → string_bytes d ≡ fourth → string_bytes e ≡ fifth
    → command_of (v ∷ a ∷ b ∷ c ∷ d ∷ e ∷ []) ≡ of_five_names verb first second third fourth fifth
five_names_are v a b c d e verb first second third fourth fifth ev ea eb ec ed ee = rw (ev, ea, eb, ec, ed, ee) refl

-- ---- the words of a workload

-- a number in its decimal digits is read as it, where it isn't above the greatest
read_back : (most n : ℕ) → n < 2 ^ 64 → number_of most (decimal n) ≡ (if nat_le n most then Some n else None)
unfolding number_of
read_back most n small =
    let value : digits_value 10 (decimal n) ≡ n = (decimal_is_IsNumeral n small).1 in
    let same : bytes_eq (decimal n) (decimal n) ≡ true = same_bytes (decimal n) (decimal n) refl in
    rw (value, same) (by (nat_le n most))
  where
    by : (b : Bool) → cond (b && true) (Some n) None ≡ cond b (Some n) None
    by true = refl
    by false = refl

by_numbers : (number count : ℕ) (a b c : Bool) → nat_lt 0 count ≡ c → work_by (cond a (Some number) None) (cond b (Some count) None) ≡ where_stands (a && (c && b)) (Work number count)
by_numbers number count true true c is = rw is (with_count c)
  where
    with_count : (c : Bool) → cond c (Some (Work number count)) None ≡ cond (c && true) (Some (Work number count)) None
    with_count true = refl
    with_count false = refl
by_numbers number count true false c is = none c
  where
    none : (c : Bool) → None ≡ cond (c && false) (Some (Work number count)) None
    none true = refl
    none false = refl
by_numbers number count false b c is = refl

pub work_words_are : (v f s : String Global) (number count : ℕ) → number < 2 ^ 64 → count < 2 ^ 32 → string_bytes v ≡ codes "work" → string_bytes f ≡ decimal number → string_bytes s ≡ decimal count
    → command_of (v ∷ f ∷ s ∷ []) ≡ work_command number count
work_words_are v f s number count small few ev ef es =
    let asked : command_of (v ∷ f ∷ s ∷ []) ≡ work_of (decimal number) (decimal count) = rw (ev, ef, es) refl in
    let first = read_back 9_223_372_036_854_775_807 number small in
    let second = read_back 10_000 count (omega arith) in
    asked
    ∙ ap (λ (x : Option ℕ). work_by x (number_of 10_000 (decimal count))) first
    ∙ ap (λ (x : Option ℕ). work_by (if nat_le number 9_223_372_036_854_775_807 then Some number else None) x) second
    ∙ by_numbers number count (nat_le number 9_223_372_036_854_775_807) (nat_le count 10_000) (nat_lt 0 count) refl

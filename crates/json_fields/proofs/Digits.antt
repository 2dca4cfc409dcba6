-- Which texts spell bytes in hex, by a test of each letter.
use Rattle.std.proofs.Common.{◌≡◌, ◌≢◌, ℕ, Bool, true, false, cond, ◌&&◌, ◌||◌, ◌-◌, List, [], ◌∷◌, length, Option, Some, None, Result, Ok, Err, is_some, refl, sym, ap, ◌∙◌, nat_le, true≢false, arith}
use Rattle.std.specs.Char.{is_ascii_hexdigit}
use Rattle.std.specs.List.{list_all}
use Rattle.std.specs.Prelude.{◌%◌, ◌/◌}
use Rattle.std.specs.Result.{result_ok, result_unwrap_or}
use Rattle.std.proofs.lemmas.List.Sums.{AllPass-from_list_all, list_all-from_AllPass}
use Rattle.hex.specs.Hex.{decode_of, is_hex_digit}
use Rattle.hex.specs.declared.error.FromHexError.{FromHexError}
use Rattle.json_fields.specs.Fields.{spelled_in}
use Rattle.hex.proofs.HexLemmas.{decode_of-ok, decode_of-digits, decode_of-odd}

-- the test of a letter by ASCII is that of a digit
same_digit : (c : ℕ) → is_ascii_hexdigit c ≡ is_hex_digit c
same_digit c = by (nat_le 65 c && nat_le c 70) (nat_le 97 c && nat_le c 102) (nat_le 48 c && nat_le c 57) (c - 55) (c - 87) (c - 48)
  where
    by : (upper lower decimal : Bool) (u l d : ℕ) → ((decimal || upper) || lower) ≡ is_some (cond upper (Some u) (cond lower (Some l) (cond decimal (Some d) None)))
    by true true true u l d = refl
    by true true false u l d = refl
    by true false true u l d = refl
    by true false false u l d = refl
    by false true true u l d = refl
    by false true false u l d = refl
    by false false true u l d = refl
    by false false false u l d = refl

same_digits : (letters : List ℕ) → list_all is_ascii_hexdigit letters ≡ list_all is_hex_digit letters
same_digits [] = refl
same_digits (c ∷ cs) = ap (λ b. b && list_all is_ascii_hexdigit cs) (same_digit c) ∙ ap (λ b. is_hex_digit c && b) (same_digits cs)

-- a text of an odd length spells none
pub odd : (text : List ℕ) → length text % 2 ≢ 0 → false ≡ is_some (result_ok (decode_of text))
odd text h = ap (λ r. is_some (result_ok r)) (sym (decode_of-odd text (omega arith)))

-- and one of an even length does exactly where each letter is a digit
pub even : (text : List ℕ) → length text % 2 ≡ 0 → list_all is_ascii_hexdigit text ≡ is_some (result_ok (decode_of text))
even text h = same_digits text ∙ by (list_all is_hex_digit text) refl (decode_of text) refl
  where
    by : (b : Bool) → list_all is_hex_digit text ≡ b → (r : Result (List ℕ) FromHexError) → decode_of text ≡ r → list_all is_hex_digit text ≡ is_some (result_ok r)
    by true pass (Ok bytes) read = pass
    by true pass (Err e) read = let found = decode_of-digits text h (AllPass-from_list_all is_hex_digit text pass) in absurd (cc (sym read ∙ found.1))
    by false pass (Ok bytes) read = absurd (true≢false (sym (list_all-from_AllPass is_hex_digit text (decode_of-ok text bytes read).1) ∙ pass))
    by false pass (Err e) read = pass

-- what a text spells, where it spells bytes
pub spelled : (text : List ℕ) → is_some (result_ok (decode_of text)) ≡ true → decode_of text ≡ Ok (spelled_in text)
spelled text h = by (decode_of text) h
  where
    by : (r : Result (List ℕ) FromHexError) → is_some (result_ok r) ≡ true → r ≡ Ok (result_unwrap_or r [])
    by (Ok bytes) is = refl
    by (Err e) is = absurd (true≢false (sym is))

pub some : (text : List ℕ) → is_some (result_ok (decode_of text)) ≡ true → Some (spelled_in text) ≡ result_ok (decode_of text)
some text h = by (decode_of text) h
  where
    by : (r : Result (List ℕ) FromHexError) → is_some (result_ok r) ≡ true → Some (result_unwrap_or r []) ≡ result_ok r
    by (Ok bytes) is = refl
    by (Err e) is = absurd (true≢false (sym is))

-- where it spells none
pub none : {A : Type 0} (o : Option A) → is_some o ≡ false → None ≡ o
none None h = refl
none (Some x) h = absurd (true≢false h)

-- it has two letters for each byte
pub halved : (text bytes : List ℕ) → decode_of text ≡ Ok bytes → length text / 2 ≡ length bytes
halved text bytes h = let len = (decode_of-ok text bytes h).2 in omega arith

-- Which words are text, and what the digits of a txid decode to.
use Rattle.std.specs.Prelude.{ℕ, zero, suc, ◌≡◌, ◌<◌, ◌==◌, ◌&&◌, List, [], ◌∷◌, Bool, true, false, length, nat_le, nat_lt, Some, None, Result, Ok, Err, MatchResult}
use Rattle.std.specs.List.{list_all}
use Rattle.std.specs.Str.{IsAscii, IsUtf8, is_utf8}
use Rattle.std.proofs.Common.{refl, sym, ap, ◌∙◌, cond, arith}
use Rattle.std.proofs.lemmas.Bool.{and_from, and_parts, eqb-false, eqb-true, lt-ltb, ne_eqb}
use Rattle.std.proofs.lemmas.Bool.Decides.{nat_tests}
use Rattle.std.proofs.lemmas.Str.{IsUtf8-from_ascii, IsUtf8-from_is_utf8, is_utf8-from_IsUtf8}
use Rattle.hex.proofs.HexLemmas.{decode_of-ok, decode_sized-twice}
use Rattle.hex.specs.Hex.{decode_of, decode_sized}
use Rattle.hex.specs.declared.error.FromHexError.{FromHexError}
use Rattle.command_desk.specs.Lent.{txid_in, txid_word}
use Rattle.command_desk.specs.Line.{is_file_word}
use Rattle.fund_outside.specs.JobName.{is_job_byte, is_job_name}

-- ---- names are text

small : (b : ℕ) → is_job_byte b ≡ true → b < 128
small b e = grind (arith, nat_tests, e)

all_small : (word : List ℕ) → list_all is_job_byte word ≡ true → IsAscii word
all_small [] e i = omega arith
all_small (b ∷ word) e zero = small b (and_parts (is_job_byte b) (list_all is_job_byte word) e).0
all_small (b ∷ word) e (suc i) = all_small word (and_parts (is_job_byte b) (list_all is_job_byte word) e).1 i

pub name_is_text : (word : List ℕ) → is_job_name word ≡ true → IsUtf8 word
name_is_text word e =
    let a = and_parts (nat_le 1 (length word)) (nat_le (length word) 32 && list_all is_job_byte word) e in
    let b = and_parts (nat_le (length word) 32) (list_all is_job_byte word) a.1 in
    IsUtf8-from_ascii word (all_small word b.1)

pub some_name : (word name : List ℕ) → is_job_name word ≡ true → name ≡ word → Some name ≡ cond (is_job_name word) (Some word) None
some_name word name named e = ap (λ (w : List ℕ). Some w) e ∙ ap (λ (b : Bool). cond b (Some word) None) (sym named)

pub some_file : (word file : List ℕ) → 0 < length word → file ≡ word → IsUtf8 word → Some file ≡ cond (is_file_word word) (Some word) None
some_file word file some e text =
    ap (λ (w : List ℕ). Some w) e ∙ ap (λ (b : Bool). cond b (Some word) None) (sym (and_from (nat_lt 0 (length word)) (is_utf8 word) (lt-ltb 0 (length word) some) (is_utf8-from_IsUtf8 word text)))

pub no_file : (word : List ℕ) → (IsUtf8 word → ⊥) → None ≡ cond (is_file_word word) (Some word) None
no_file word other = by (is_file_word word) refl
  where
    by : (b : Bool) → is_file_word word ≡ b → None ≡ cond b (Some word) None
    by true e = absurd (other (IsUtf8-from_is_utf8 word (and_parts (nat_lt 0 (length word)) (is_utf8 word) e).1))
    by false e = refl

-- ---- the digits of a txid

-- without 64 of them there is none
short : (word : List ℕ) → (length word ≡ 64 → ⊥) → txid_word word ≡ None
short word other = by (decode_of word) refl
  where
    by : (r : Result (List ℕ) FromHexError) → decode_of word ≡ r → txid_in r ≡ None
    by (Err error) is = refl
    by (Ok bytes) is =
        let d = decode_of-ok word bytes is in
        let long = d.2 in
        rw (ne_eqb (length bytes) 32 (λ same. other (omega (arith, long, same)))) refl

pub no_txid : (word : List ℕ) (e : FromHexError) → decode_sized word 32 ≡ Err e → txid_word word ≡ None
no_txid word e is = by (length word == 64) refl
  where
    by : (long : Bool) → (length word == 64) ≡ long → txid_word word ≡ None
    by true h = ap txid_in (sym (decode_sized-twice word 32 (let l = eqb-true (length word) 64 h in omega (arith, l))) ∙ is)
    by false h = short word (eqb-false (length word) 64 h)

-- what decoding into 32 bytes says of it where it fails
pub txid_fails : (word new : List ℕ) (r : Result (Unit {0}) FromHexError) (e : FromHexError) → r ≡ Err e → MatchResult (decode_sized word 32) (λ bytes. (r ≡ Ok tt) × (new ≡ bytes)) (λ d. r ≡ Err d) → None ≡ txid_word word
txid_fails word new r e failed says = by (decode_sized word 32) refl says
  where
    by : (d : Result (List ℕ) FromHexError) → decode_sized word 32 ≡ d → MatchResult d (λ bytes. (r ≡ Ok tt) × (new ≡ bytes)) (λ d. r ≡ Err d) → None ≡ txid_word word
    by (Ok bytes) is h = let done = h.0 in absurd cc
    by (Err d) is h = sym (no_txid word d is)

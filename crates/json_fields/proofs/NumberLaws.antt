-- Which numbers and which hashes are read.
use Rattle.std.proofs.Common.{◌≡◌, ◌≤◌, ◌<◌, ◌-◌, ℕ, inl, inr, lit<, get_or, subst, Bool, true, false, cond, List, length, reverse, nat_le, Some, Result, Ok, Err, option_and_then, refl, sym, ap, ◌∙◌, arith}
use Rattle.std.proofs.lemmas.Bool.{cases_lt, leb-true, leb-false}
use Rattle.std.proofs.lemmas.List.{length-reverse, reverse-reverse, get_or-reverse, get_or_past}
use Rattle.std.specs.List.{AllPass}
use Rattle.std.specs.Result.{result_ok}
use Rattle.hex.specs.Hex.{decode_of, decode_sized, encode_lower, encode_upper, lower_digits, upper_digits, is_hex_digit}
use Rattle.hex.specs.declared.error.FromHexError.{FromHexError}
use Rattle.hex.proofs.HexLemmas.{decode_sized-twice, decode_sized-ok, decode_of-ok, decode_of-encode_lower, decode_of-encode_upper, length-encode_with}
use Rattle.serde_json.specs.Data.{unsigned, negative, float, Data, null, boolean, number, string, array, object}
use Rattle.json_fields.specs.Fields.{number_at, hash_in, IsHash}
use Rattle.json_fields.specs.declared.fault.FieldFault.{FieldFault}
use Rattle.json_fields.specs.declared.fault.FieldFault.TheVariants.{Kind}

within : (b : Bool) (n m : ℕ) (fault : FieldFault) → cond b (Ok n) (Err fault) ≡ Ok m → (b ≡ true) × (n ≡ m)
within true n m fault e = (refl, cc e)
within false n m fault e = absurd (cc e)

without : (b : Bool) (n : ℕ) (fault other : FieldFault) → cond b (Ok n) (Err fault) ≡ Err other → other ≡ fault
without true n fault other e = absurd (cc e)
without false n fault other e = cc e

pub found : (name : List ℕ) (most n : ℕ) (d : Data) → number_at name most d ≡ Ok n → (d ≡ number (unsigned n)) × (n ≤ most)
unfolding number_at
found name most n (number (unsigned m)) e =
    let h = within (nat_le m most) m n (Kind name) e in
    (ap (λ k. number (unsigned k)) h.1, subst (λ k. k ≤ most) h.1 (leb-true m most h.0))
found name most n (number (negative z)) e = absurd (cc e)
found name most n (number (float x)) e = absurd (cc e)
found name most n null e = absurd (cc e)
found name most n (boolean b) e = absurd (cc e)
found name most n (string s) e = absurd (cc e)
found name most n (array ds) e = absurd (cc e)
found name most n (object ms) e = absurd (cc e)

pub only : (name : List ℕ) (most n : ℕ) → n ≤ most → number_at name most (number (unsigned n)) ≡ Ok n
unfolding number_at
only name most n le = by (nat_le n most) refl
  where
    by : (b : Bool) → nat_le n most ≡ b → cond b (Ok n) (Err (Kind name)) ≡ Ok n
    by true e = refl
    by false e = let other = leb-false n most e in absurd (omega arith)

pub fault : (name : List ℕ) (most : ℕ) (d : Data) (other : FieldFault) → number_at name most d ≡ Err other → other ≡ Kind name
unfolding number_at
fault name most (number (unsigned m)) other e = without (nat_le m most) m (Kind name) other e
fault name most (number (negative z)) other e = cc e
fault name most (number (float x)) other e = cc e
fault name most null other e = cc e
fault name most (boolean b) other e = cc e
fault name most (string s) other e = cc e
fault name most (array ds) other e = cc e
fault name most (object ms) other e = cc e

shown : (text hash : List ℕ) → length text ≡ 64 → decode_of text ≡ Ok (reverse hash) → hash_in text ≡ Some hash
unfolding hash_in
shown text hash long e =
    let sized : decode_sized text 32 ≡ Ok (reverse hash) = decode_sized-twice text 32 long ∙ e in
    ap (λ r. option_and_then (λ bytes. Some (reverse bytes)) (result_ok r)) sized ∙ ap Some (reverse-reverse hash)

-- each byte of a hash, whichever end it is counted from
reversed_bytes : (hash : List ℕ) → IsHash hash → (i : ℕ) → get_or (reverse hash) i 0 < 256
reversed_bytes hash is i =
    let len = length-reverse hash in
    elim (cases_lt i (length (reverse hash))) [
      | inl within ↦ rw (get_or-reverse hash i 0 (omega arith)) (is.bytes (length hash - 1 - i) 0 (omega arith))
      | inr past ↦ rw (get_or_past (reverse hash) i 0 past) (lit< tt)
    ]

reversed : (hash : List ℕ) → IsHash hash → length (reverse hash) ≡ 32
reversed hash is = length-reverse hash ∙ is.len

pub lower : (hash : List ℕ) → IsHash hash → hash_in (encode_lower (reverse hash)) ≡ Some hash
lower hash is = shown (encode_lower (reverse hash)) hash (let e = length-encode_with lower_digits (reverse hash) in let f = reversed hash is in omega arith) (decode_of-encode_lower (reverse hash) (reversed_bytes hash is))

pub upper : (hash : List ℕ) → IsHash hash → hash_in (encode_upper (reverse hash)) ≡ Some hash
upper hash is = shown (encode_upper (reverse hash)) hash (let e = length-encode_with upper_digits (reverse hash) in let f = reversed hash is in omega arith) (decode_of-encode_upper (reverse hash) (reversed_bytes hash is))

pub digits : (text hash : List ℕ) → hash_in text ≡ Some hash → (length text ≡ 64) × AllPass is_hex_digit text
unfolding hash_in
digits text hash e = by (decode_sized text 32) refl e
  where
    by : (r : Result (List ℕ) FromHexError) → decode_sized text 32 ≡ r → option_and_then (λ bytes. Some (reverse bytes)) (result_ok r) ≡ Some hash → (length text ≡ 64) × AllPass is_hex_digit text
    by (Ok bytes) is reads = let long = decode_sized-ok text 32 bytes is in let l : length text ≡ 64 = omega arith in (l, (decode_of-ok text bytes (sym (decode_sized-twice text 32 long) ∙ is)).1)
    by (Err f) is reads = absurd (cc reads)

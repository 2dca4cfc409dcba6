-- Which seed is read of its digits.
use Rattle.std.proofs.Common.{◌≡◌, ◌<◌, ℕ, inl, inr, lit<, get_or, List, length, codes, Result, Ok, Err, refl, sym, subst, ap, ◌∙◌, arith}
use Rattle.std.proofs.lemmas.Bool.{cases_lt}
use Rattle.std.proofs.lemmas.List.{get_or_past, get_or_default}
use Rattle.std.specs.Option.{ok_or}
use Rattle.std.specs.Result.{result_ok}
use Rattle.hex.specs.Hex.{decode_of, decode_sized, encode_lower, encode_upper, lower_digits, upper_digits}
use Rattle.hex.specs.declared.error.FromHexError.{FromHexError}
use Rattle.hex.proofs.HexLemmas.{decode_sized-twice, decode_sized-ok, decode_of-ok, decode_of-digits, decode_of-encode_lower, decode_of-encode_upper, length-encode_with}
use Rattle.serde_json.specs.Data.{Data, null, boolean, number, string, array, object}
use Rattle.json_fields.proofs.HexLaws.{decoded_sized, decodes_sized}
use Rattle.json_fields.specs.Fields.{IsHash}
use Rattle.json_fields.specs.Rules.{IsHexOf, IsHexString}
use Rattle.json_fields.specs.declared.fault.FieldFault.{FieldFault}
use Rattle.json_fields.specs.declared.fault.FieldFault.TheVariants.{Kind}
use Rattle.request_text.specs.RequestText.{seed_at}
use Rattle.request_text.specs.Rules.{IsSeedText}

spelled : (text seed : List ℕ) → length text ≡ 64 → decode_of text ≡ Ok seed → seed_at (string text) ≡ Ok seed
unfolding seed_at
spelled text seed long e =
    let sized : decode_sized text 32 ≡ Ok seed = decode_sized-twice text 32 long ∙ e in
    ap (λ r. ok_or (result_ok r) (Kind (codes "seed"))) sized

-- each byte of a seed
bytes_of : (seed : List ℕ) → IsHash seed → (i : ℕ) → get_or seed i 0 < 256
bytes_of seed is i =
    elim (cases_lt i (length seed)) [
      | inl within ↦ is.bytes i 0 within
      | inr past ↦ rw (get_or_past seed i 0 past) (lit< tt)
    ]

pub lower : (seed : List ℕ) → IsHash seed → seed_at (string (encode_lower seed)) ≡ Ok seed
lower seed is = spelled (encode_lower seed) seed (let e = length-encode_with lower_digits seed in let f = is.len in omega arith) (decode_of-encode_lower seed (bytes_of seed is))

pub upper : (seed : List ℕ) → IsHash seed → seed_at (string (encode_upper seed)) ≡ Ok seed
upper seed is = spelled (encode_upper seed) seed (let e = length-encode_with upper_digits seed in let f = is.len in omega arith) (decode_of-encode_upper seed (bytes_of seed is))

pub found : (d : Data) (seed : List ℕ) → seed_at d ≡ Ok seed → IsSeedText d × IsHash seed
unfolding seed_at
found (string text) seed e = by (decode_sized text 32) refl e
  where
    by : (r : Result (List ℕ) FromHexError) → decode_sized text 32 ≡ r → ok_or (result_ok r) (Kind (codes "seed")) ≡ Ok seed → IsSeedText (string text) × IsHash seed
    by (Ok bytes) is reads =
        let same : bytes ≡ seed = cc reads in
        let long = decode_sized-ok text 32 bytes is in
        let all = decode_of-ok text bytes (sym (decode_sized-twice text 32 long) ∙ is) in
        let size = all.2 in
        (record { text = text; whole = refl; len = omega arith; digits = all.1 }, subst IsHash same (record { len = omega arith; bytes = λ i x lt. subst (λ b. b < 256) (get_or_default bytes i 0 x lt) (all.3 i) }))
    by (Err f) is reads = absurd (cc reads)
found null seed e = absurd (cc e)
found (boolean b) seed e = absurd (cc e)
found (number n) seed e = absurd (cc e)
found (array ds) seed e = absurd (cc e)
found (object ms) seed e = absurd (cc e)

-- a string of 64 digits is read
taken : (d : Data) → IsSeedText d → (seed : List ℕ) × (seed_at d ≡ Ok seed)
taken d is =
    let len = is.len in
    let bytes = decode_of-digits is.text (omega arith) is.digits in
    (bytes.0, ap seed_at is.whole ∙ spelled is.text bytes.0 is.len bytes.1)

-- what isn't read is of another kind
kind : (d : Data) (fault : FieldFault) → seed_at d ≡ Err fault → fault ≡ Kind (codes "seed")
unfolding seed_at
kind (string text) fault e = by (decode_sized text 32) e
  where
    by : (r : Result (List ℕ) FromHexError) → ok_or (result_ok r) (Kind (codes "seed")) ≡ Err fault → fault ≡ Kind (codes "seed")
    by (Ok bytes) reads = absurd (cc reads)
    by (Err f) reads = cc reads
kind null fault e = cc e
kind (boolean b) fault e = cc e
kind (number n) fault e = cc e
kind (array ds) fault e = cc e
kind (object ms) fault e = cc e

pub refused : (d : Data) (fault : FieldFault) → seed_at d ≡ Err fault → (¬ IsSeedText d) × (fault ≡ Kind (codes "seed"))
refused d fault e = (λ is. let it = taken d is in cc (it.1, e), kind d fault e)

-- ---- by the value of each digit

text_spelled : (text seed : List ℕ) → seed_at (string text) ≡ Ok seed → IsHexOf text seed
unfolding seed_at
text_spelled text seed e = by (decode_sized text 32) refl e
  where
    by : (r : Result (List ℕ) FromHexError) → decode_sized text 32 ≡ r → ok_or (result_ok r) (Kind (codes "seed")) ≡ Ok seed → IsHexOf text seed
    by (Ok bytes) is reads = let same : bytes ≡ seed = cc reads in (decoded_sized text seed 32 (is ∙ ap Ok same)).1
    by (Err f) is reads = absurd (cc reads)

text_only : (text seed : List ℕ) → length seed ≡ 32 → IsHexOf text seed → seed_at (string text) ≡ Ok seed
unfolding seed_at
text_only text seed size is = ap (λ r. ok_or (result_ok r) (Kind (codes "seed"))) (decodes_sized text seed 32 size is)

pub digits : (d : Data) (seed : List ℕ) → seed_at d ≡ Ok seed → IsHexString d seed
digits d seed e =
    let is = (found d seed e).0 in
    let reads : seed_at (string is.text) ≡ Ok seed = ap seed_at (sym is.whole) ∙ e in
    (is.text, is.whole, text_spelled is.text seed reads)

pub only : (d : Data) (seed : List ℕ) → length seed ≡ 32 → IsHexString d seed → seed_at d ≡ Ok seed
only d seed size is = ap seed_at is.1 ∙ text_only is.0 seed size is.2

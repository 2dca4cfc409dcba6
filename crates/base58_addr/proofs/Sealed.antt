-- Texts and the bytes for which they stand; versions and hashes with their checksum.
use Rattle.std.proofs.Common.{◌≡◌, ℕ, zero, ◌/◌, ◌^◌, ◌<◌, get_or, suc, cond, true, false, List, [], ◌∷◌, map, length, take, drop, ◌∙◌, ap, refl, arith, length-append}
use Rattle.std.specs.Prelude.{◌==◌}
use Rattle.std.specs.List.{All, take_while}
use Rattle.std.specs.Int.{w32, byte_at, bytes_high_first, to_be_bytes}
use Rattle.std.proofs.Math.Nat.{mod-lt}
use Rattle.std.specs.Int.Digits.{number_from_digits}
use Rattle.std.proofs.lemmas.List.{take_at, drop_at, length-take-le}
use Rattle.std.proofs.lemmas.List.Elements.{All-nil, All-cons, All-append, All-take, All-from_recursion, recursion_from_All}
use Rattle.std.proofs.lemmas.List.Sums.{take_while-cons}
use Rattle.std.proofs.lemmas.Int.Digits.{number_lt}
use Rattle.fund_base.specs.Cursor.{IsBytes}
use Rattle.sha2.specs.Sha256.{sha256, digest_bytes, final_hash, initial_hash_256}
use Rattle.sha2.proofs.Facts256.{length-sha256}
use Rattle.base58_addr.specs.Address.{checksum_of, sealed}
use Rattle.base58_addr.specs.Base58.{bytes_of, letter_of, text_of, value_of}
use Rattle.base58_addr.specs.Rebasing.{leading, rebased}
use Rattle.base58_addr.proofs.Letters.{letters_back, values_back, has_unknown, known_small, small_known}
use Rattle.base58_addr.proofs.Rebased.{rebased_back, rebased_below, rebased_number}

-- ---- texts and bytes

pub values_of_bytes : (bytes : List ℕ) → All (λ v. v < 58) (rebased 256 58 bytes)
values_of_bytes bytes = All-from_recursion (λ (v : ℕ). v < 58) (rebased 256 58 bytes) (rebased_below 256 58 bytes (omega arith))

pub bytes_of_text_of : (bytes : List ℕ) → IsBytes bytes → bytes_of (text_of bytes) ≡ bytes
bytes_of_text_of bytes fit =
    ap (λ (l : List ℕ). rebased 58 256 l) (values_back (rebased 256 58 bytes) (values_of_bytes bytes))
    ∙ rebased_back 256 58 bytes (omega arith) (omega arith) (recursion_from_All (λ (b : ℕ). b < 256) bytes fit)

pub text_of_bytes_of : (text : List ℕ) → has_unknown text ≡ false → text_of (bytes_of text) ≡ text
text_of_bytes_of text known =
    let small = known_small text known in
    ap (λ (l : List ℕ). map letter_of l) (rebased_back 58 256 (map value_of text) (omega arith) (omega arith) (recursion_from_All (λ (v : ℕ). v < 58) (map value_of text) small))
    ∙ letters_back text small

pub text_known : (bytes : List ℕ) → has_unknown (text_of bytes) ≡ false
text_known bytes = small_known (rebased 256 58 bytes) (values_of_bytes bytes)

pub bytes_fit : (text : List ℕ) → IsBytes (bytes_of text)
bytes_fit text = All-from_recursion (λ (b : ℕ). b < 256) (bytes_of text) (rebased_below 58 256 (map value_of text) (omega arith))

-- a number of 25 bytes is below 2^200
pub bytes_under : (text : List ℕ) → length (bytes_of text) ≡ 25 → number_from_digits 58 (map value_of text) < 2 ^ 200
bytes_under text long =
    let under = number_lt 256 (bytes_of text) (rebased_below 58 256 (map value_of text) (omega arith)) in
    let same = rebased_number 58 256 (map value_of text) (omega arith) in
    let size : 256 ^ length (bytes_of text) ≡ 2 ^ 200 = ap (λ (k : ℕ). 256 ^ k) long in
    omega (arith, under, same, size)

pub leading_letters : (text : List ℕ) → length (take_while (λ c. value_of c == 0) text) ≡ length (leading (map value_of text))
leading_letters [] = refl
leading_letters (c ∷ cs) =
    rw (take_while-cons (λ (c : ℕ). value_of c == 0) c cs, take_while-cons (λ (d : ℕ). d == 0) (value_of c) (map value_of cs))
    (elim (value_of c == 0) as (λ b. length (cond b (c ∷ take_while (λ c. value_of c == 0) cs) []) ≡ length (cond b (value_of c ∷ leading (map value_of cs)) [])) [
      | true ↦ ap (λ (n : ℕ). suc n) (leading_letters cs)
      | false ↦ refl
    ])

-- ---- checksums

byte_fits : (i n : ℕ) → byte_at i n < 256
byte_fits zero n = mod-lt n (omega arith)
byte_fits (suc i) n = mod-lt (n / 256 ^ suc i) (omega arith)

high_first_fits : (k n : ℕ) → IsBytes (bytes_high_first k n)
high_first_fits zero n = All-nil (λ (b : ℕ). b < 256)
high_first_fits (suc k) n = All-cons (λ (b : ℕ). b < 256) (byte_at k n) (bytes_high_first k n) (byte_fits k n) (high_first_fits k n)

digest_fits : (hash : List ℕ) (n : ℕ) → IsBytes (digest_bytes hash n)
unfolding digest_bytes
digest_fits hash zero = All-nil (λ (b : ℕ). b < 256)
digest_fits hash (suc n) = All-append (λ (b : ℕ). b < 256) (digest_bytes hash n) (to_be_bytes w32 (get_or hash n 0)) (digest_fits hash n) (high_first_fits 4 (get_or hash n 0))

sha256_fits : (message : List ℕ) → IsBytes (sha256 message)
unfolding sha256
sha256_fits message = digest_fits (final_hash initial_hash_256 message) 8

pub checksum_fits : (payload : List ℕ) → IsBytes (checksum_of payload)
checksum_fits payload = All-take (λ (b : ℕ). b < 256) 4 (sha256 (sha256 payload)) (sha256_fits (sha256 payload))

pub checksum_long : (payload : List ℕ) → length (checksum_of payload) ≡ 4
checksum_long payload = length-take-le 4 (sha256 (sha256 payload)) (omega (arith, length-sha256 (sha256 payload)))

pub sealed_front : (payload : List ℕ) → length payload ≡ 21 → take 21 (sealed payload) ≡ payload
sealed_front payload long = take_at payload (checksum_of payload) 21 long

pub sealed_back : (payload : List ℕ) → length payload ≡ 21 → drop 21 (sealed payload) ≡ checksum_of payload
sealed_back payload long = drop_at payload (checksum_of payload) 21 long

pub sealed_long : (payload : List ℕ) → length payload ≡ 21 → length (sealed payload) ≡ 25
sealed_long payload long = omega (arith, length-append payload (checksum_of payload), checksum_long payload)

-- Each fault of a text comes exactly where its rule is the first that the text breaks.
use Rattle.std.proofs.Common.{◌≡◌, ℕ, ◌<◌, Bool, true, false, cond, not, List, ◌++◌, map, length, take, drop, get_or, Result, Err, refl, sym, ap, subst, ◌∙◌, arith, inl, inr, length-append}
use Rattle.std.specs.Prelude.{◌⊎◌, ◌≢◌, ◌==◌, bytes_eq}
use Rattle.std.proofs.lemmas.Bool.{both_ways, false_from_ne_true, not-false, not-true, cases_Bool, eqb-true, eqb-false, ne_eqb}
use Rattle.std.proofs.lemmas.List.{take_at, drop_at, take-append-drop, length-drop, length-take-le}
use Rattle.std.proofs.lemmas.List.Elements.{All-take}
use Rattle.std.proofs.lemmas.Slice.Eq.{bytes_eq-Decides}
use Rattle.fund_base.specs.Cursor.{IsBytes}
use Rattle.base58_addr.specs.Address.{checksum_of}
use Rattle.base58_addr.specs.Base58.{bytes_of, letter_of, text_of, value_of}
use Rattle.base58_addr.specs.Judging.{Breaks, IsMissized, IsUnsealed, IsMisversioned}
use Rattle.base58_addr.specs.Reading.{decode_of, hash_at, whole_at}
use Rattle.base58_addr.specs.Rebasing.{rebased}
use Rattle.base58_addr.specs.declared.fault.Base58Fault.{Base58Fault}
use Rattle.base58_addr.specs.declared.fault.Base58Fault.TheVariants.{Letter, Length, Checksum, Version, Memory}
use Rattle.base58_addr.proofs.Addresses.{sealed_reads, spelled_reads}
use Rattle.base58_addr.proofs.Letters.{has_unknown, known_small, letters_back, small_known, unknown_found, unknown_told, values_back}
use Rattle.base58_addr.proofs.Sealed.{bytes_fit, text_of_bytes_of}

-- ---- where a text breaks a rule, that fault is reported

stranger_told : (text : List ℕ) → Breaks text Letter → decode_of text ≡ Err Letter
unfolding decode_of
stranger_told text is = let unknown : has_unknown text ≡ true = unknown_told text is in rw unknown refl

missized_told : (text : List ℕ) → IsMissized text → decode_of text ≡ Err Length
unfolding decode_of
missized_told text is =
    let known : has_unknown (map letter_of is.values) ≡ false = small_known is.values is.small in
    let back : map value_of (map letter_of is.values) ≡ is.values = values_back is.values is.small in
    let other : (length (rebased 58 256 is.values) == 25) ≡ false = ne_eqb _ _ is.other in
    rw (is.spelling, known, back, other) refl

unsealed_told : (text : List ℕ) → IsUnsealed text → decode_of text ≡ Err Checksum
unfolding whole_at
unsealed_told text is =
    let long : length (is.payload ++ is.last) ≡ 25 = omega (arith, is.size, is.four, length-append is.payload is.last) in
    let front : take 21 (is.payload ++ is.last) ≡ is.payload = take_at is.payload is.last 21 is.size in
    let back : drop 21 (is.payload ++ is.last) ≡ is.last = drop_at is.payload is.last 21 is.size in
    let other : bytes_eq is.last (checksum_of is.payload) ≡ false =
    false_from_ne_true _ (λ e. is.other ((bytes_eq-Decides is.last (checksum_of is.payload)).0 e)) in
    ap (λ (l : List ℕ). decode_of l) is.spelling
    ∙ spelled_reads (is.payload ++ is.last) is.fit long
    ∙ (rw (front, back, other) refl)

misversioned_told : (text : List ℕ) → IsMisversioned text → decode_of text ≡ Err Version
unfolding hash_at
misversioned_told text is =
    let one : (get_or is.payload 0 0 == 0) ≡ false = ne_eqb _ _ is.no_key in
    let two : (get_or is.payload 0 0 == 5) ≡ false = ne_eqb _ _ is.no_script in
    ap (λ (l : List ℕ). decode_of l) is.spelling
    ∙ sealed_reads is.payload is.fit is.size
    ∙ (rw (one, two) refl)

pub breaks_told : (text : List ℕ) (fault : Base58Fault) → Breaks text fault → decode_of text ≡ Err fault
breaks_told text Letter is = stranger_told text is
breaks_told text Length is = missized_told text is
breaks_told text Checksum is = unsealed_told text is
breaks_told text Version is = misversioned_told text is
breaks_told text Memory is = absurd is

-- ---- where a fault is reported, the text breaks its rule

tested : {A : Type 0} (b : Bool) (d e : Base58Fault) (r : Result A Base58Fault) → cond b (Err d) r ≡ Err e → ((b ≡ true) × (d ≡ e)) ⊎ ((b ≡ false) × (r ≡ Err e))
tested true d e r is = inl (refl, cc)
tested false d e r is = inr (refl, is)

broken : (text : List ℕ) (d e : Base58Fault) → d ≡ e → Breaks text d → Breaks text e
broken text d e same is = subst (λ (f : Base58Fault). Breaks text f) same is

record IsOther (version : ℕ) (e : Base58Fault) : Type 0 where
  fault : Version ≡ e
  no_key : version ≢ 0
  no_script : version ≢ 5

hash_breaks : (version : ℕ) (hash : List ℕ) (e : Base58Fault) → hash_at version hash ≡ Err e → IsOther version e
unfolding hash_at
hash_breaks version hash e h =
    elim (cases_Bool (version == 0)) [
      | inl key ↦ absurd (cc (rw key at h))
      | inr other ↦ elim (cases_Bool (version == 5)) [
        | inl hashed ↦ absurd (cc (rw (other, hashed) at h))
        | inr none ↦ record { fault = cc (rw (other, none) at h); no_key = eqb-false version 0 other; no_script = eqb-false version 5 none }
      ]
    ]

whole_breaks : (text : List ℕ) (e : Base58Fault) → has_unknown text ≡ false → length (bytes_of text) ≡ 25 → whole_at (bytes_of text) ≡ Err e → Breaks text e
unfolding whole_at
whole_breaks text e known long h =
    let bytes = bytes_of text in
    let payload = take 21 bytes in
    let spelling : text ≡ text_of bytes = sym (text_of_bytes_of text known) in
    let parts : bytes ≡ payload ++ drop 21 bytes = sym (take-append-drop 21 bytes) in
    let fit : IsBytes bytes = bytes_fit text in
    let size : length payload ≡ 21 = length-take-le 21 bytes (omega arith) in
    elim (tested (not (bytes_eq (drop 21 bytes) (checksum_of payload))) Checksum e (hash_at (get_or payload 0 0) (drop 1 payload)) h) [
      | inl wrong ↦ broken text Checksum e wrong.1 (record {
        payload = payload;
        last = drop 21 bytes;
        spelling = spelling ∙ ap (λ (l : List ℕ). text_of l) parts;
        fit = subst (λ (l : List ℕ). IsBytes l) parts fit;
        size = size;
        four = omega (arith, length-drop 21 bytes);
        other = λ same. both_ways _ (not-true _ wrong.0) ((bytes_eq-Decides (drop 21 bytes) (checksum_of payload)).1 same);
      })
      | inr right ↦
          let last : drop 21 bytes ≡ checksum_of payload = (bytes_eq-Decides (drop 21 bytes) (checksum_of payload)).0 (not-false _ right.0) in
          let other = hash_breaks (get_or payload 0 0) (drop 1 payload) e right.1 in
          broken text Version e other.fault (record {
            payload = payload;
            spelling = spelling ∙ ap (λ (l : List ℕ). text_of l) (parts ∙ ap (λ (l : List ℕ). payload ++ l) last);
            fit = All-take (λ (b : ℕ). b < 256) 21 bytes fit;
            size = size;
            no_key = other.no_key;
            no_script = other.no_script;
          })
    ]

pub told_breaks : (text : List ℕ) (fault : Base58Fault) → decode_of text ≡ Err fault → Breaks text fault
unfolding decode_of
told_breaks text e h =
    elim (tested (has_unknown text) Letter e (cond (not (length (bytes_of text) == 25)) (Err Length) (whole_at (bytes_of text))) h) [
      | inl unknown ↦ broken text Letter e unknown.1 (unknown_found text unknown.0)
      | inr known ↦ elim (tested (not (length (bytes_of text) == 25)) Length e (whole_at (bytes_of text)) known.1) [
        | inl other ↦ broken text Length e other.1 (record {
          values = map value_of text;
          spelling = sym (letters_back text (known_small text known.0));
          small = known_small text known.0;
          other = eqb-false _ _ (not-true _ other.0);
        })
        | inr sized ↦ whole_breaks text e known.0 (eqb-true _ _ (not-false _ sized.0)) sized.1
      ]
    ]

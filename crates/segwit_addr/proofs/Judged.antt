-- Each fault of a text comes exactly where its rule is the first that the text breaks.
use Rattle.std.proofs.Common.{◌≡◌, ℕ, zero, suc, ◌-◌, ◌<◌, ◌≤◌, true, false, cond, not, List, ◌∷◌, ◌++◌, map, length, take, Result, Err, refl, sym, ap, subst, ◌∙◌, arith, inl, inr, codes, length-append}
use Rattle.std.specs.Prelude.{◌⊎◌, ◌==◌, nat_lt, bytes_eq}
use Rattle.std.specs.Char.{to_ascii_lowercase}
use Rattle.std.specs.List.{All}
use Rattle.std.proofs.lemmas.Bool.{cases_lt, true_from_ne_false, lt-ltb, le-ltb, ne_eqb}
use Rattle.std.proofs.lemmas.List.{take_at}
use Rattle.std.proofs.lemmas.List.Elements.{All-tail, All-take}
use Rattle.segwit_addr.specs.Address.{is_mixed, is_refused}
use Rattle.segwit_addr.specs.Bech32.{polymod, expanded, bech32_sum, bech32m_sum, letter_of, value_of}
use Rattle.segwit_addr.specs.Judging.{Breaks, IsForeign, IsMispadded, IsMissized, IsMisspelled, IsMisversioned, IsMixed, IsOtherVersion, IsOwnVersion, IsParted, IsPlain, IsSealed, IsShort, IsSized, IsSpelled, IsUnsealed, IsUnseparated, IsVersioned, Says}
use Rattle.segwit_addr.specs.Reading.{behind_last, decode_of, is_badly_padded, parts_at, program_at, split_at, summed_at, versioned_at}
use Rattle.segwit_addr.specs.Regrouping.{bytes_of, values_of}
use Rattle.segwit_addr.specs.declared.fault.AddrFault.{AddrFault}
use Rattle.segwit_addr.specs.declared.fault.AddrFault.TheVariants.{Case, Separator, Letter, Checksum, Network, Version, Length, Padding, Memory}
use Rattle.segwit_addr.proofs.Letters.{values_back, small_known, no_one, chars_of_letters}
use Rattle.segwit_addr.proofs.Regrouped.{bytes_small, size_of_values, values_of_bytes, values_padded}
use Rattle.segwit_addr.proofs.Rules.{not_found, is_missized, sized_from, sized_test, case_decides, is_short, short_decides, has_stranger, stranger_decides, printable_test, sealed_decides, sealed_test, foreign_decides, size_decides}
use Rattle.segwit_addr.proofs.Separators.{behind_none, split_reads}

abbrev pub lowered : List ℕ → List ℕ
lowered text = map to_ascii_lowercase text

-- ---- what is left to read of a text that keeps the first rules

plain_reads : (text : List ℕ) → IsPlain text → decode_of text ≡ split_at (lowered text) (behind_last (lowered text))
unfolding decode_of
plain_reads text is =
    let one_case : is_mixed text ≡ false = not_found (is_mixed text) (case_decides text) is.one_case in
    rw (sized_test text is.sized, one_case) refl

abbrev lettered_at : List ℕ → List ℕ → Result (List ℕ) AddrFault
lettered_at prefix letters = cond (has_stranger prefix letters) (Err Letter) (summed_at prefix (map value_of letters))

long_parts : (text prefix letters : List ℕ) → IsParted text prefix letters → is_short prefix letters ≡ false
long_parts text prefix letters is =
    not_found (is_short prefix letters) (short_decides prefix letters) (λ short. elim short [ inl none ↦ is.some none | inr few ↦ let enough = is.enough in omega arith ])

parted_reads : (text prefix letters : List ℕ) → IsParted text prefix letters → decode_of text ≡ lettered_at prefix letters
unfolding parts_at
parted_reads text prefix letters is =
    plain_reads text is.plain ∙ split_reads (lowered text) prefix letters is.split ∙ (rw (long_parts text prefix letters is) refl)

spelled_parted : (text prefix values : List ℕ) → IsSpelled text prefix values → IsParted text prefix (map letter_of values)
spelled_parted text prefix values is = record {
  plain = is.plain;
  split = record { parts = is.spelling; last = no_one values is.small };
  some = is.some;
  enough = omega (arith, chars_of_letters values is.small, is.enough);
}

spelled_reads : (text prefix values : List ℕ) → IsSpelled text prefix values → decode_of text ≡ summed_at prefix values
spelled_reads text prefix values is =
    let inside = printable_test prefix is.printable in
    parted_reads text prefix (map letter_of values) (spelled_parted text prefix values is)
    ∙ (rw (inside, values_back values is.small, small_known values is.small) refl)

abbrev pub own_values : List ℕ → List ℕ
own_values values = take (length values - 6) values

sealed_reads : (text prefix values : List ℕ) (sum : ℕ) → IsSealed text prefix values sum
    → decode_of text ≡ cond (not (bytes_eq prefix (codes "bc"))) (Err Network) (versioned_at (own_values values) sum)
unfolding summed_at
sealed_reads text prefix values sum is = spelled_reads text prefix values is.spelled ∙ (rw (is.sum_is, sealed_test sum is.either) refl)

says_reads : (text : List ℕ) (sum version : ℕ) (program : List ℕ) → Says text sum version program → decode_of text ≡ versioned_at (version ∷ program) sum
says_reads text sum version program is =
    let values : List ℕ = version ∷ (program ++ is.last) in
    let front : own_values values ≡ version ∷ program = take_at (version ∷ program) is.last (length values - 6) (omega (arith, is.six, length-append program is.last)) in
    sealed_reads text (codes "bc") values sum is.sealed ∙ ap (λ (l : List ℕ). versioned_at l sum) front

-- ---- the version

pub other_read : (sum version : ℕ) (program : List ℕ) → IsOtherVersion sum version → versioned_at (version ∷ program) sum ≡ Err Version
unfolding versioned_at
other_read sum version program other =
    elim other [
      | inl above ↦ rw (lt-ltb 16 version above) refl
      | inr known ↦ elim known [
        | inl none ↦ rw (none.0, none.1) refl
        | inr some ↦
            let low : nat_lt 16 version ≡ false = le-ltb 16 version some.0.1 in
            let least = some.0.0 in
            let above : (version == 0) ≡ false = ne_eqb version 0 (λ e. omega arith) in
            rw (low, above, some.1) refl
      ]
    ]

pub own_read : (sum version : ℕ) (program : List ℕ) → IsOwnVersion sum version → versioned_at (version ∷ program) sum ≡ program_at version program
unfolding versioned_at
own_read sum version program own =
    elim own [
      | inl none ↦ rw (none.0, none.1) refl
      | inr some ↦
          let low : nat_lt 16 version ≡ false = le-ltb 16 version some.0.1 in
          let least = some.0.0 in
          let above : (version == 0) ≡ false = ne_eqb version 0 (λ e. omega arith) in
          rw (low, above, some.1) refl
    ]

low_version : (sum version : ℕ) → version ≤ 16 → (sum ≡ bech32_sum) ⊎ (sum ≡ bech32m_sum) → IsOtherVersion sum version ⊎ IsOwnVersion sum version
low_version sum zero low either = elim either [ inl first ↦ inr (inl (refl, first)) | inr second ↦ inl (inr (inl (refl, second))) ]
low_version sum (suc v) low either = elim either [ inl first ↦ inl (inr (inr ((omega arith, low), first))) | inr second ↦ inr (inr ((omega arith, low), second)) ]

pub some_version : (sum version : ℕ) → (sum ≡ bech32_sum) ⊎ (sum ≡ bech32m_sum) → IsOtherVersion sum version ⊎ IsOwnVersion sum version
some_version sum version either =
    elim (cases_lt 16 version) [
      | inl above ↦ inl (inl above)
      | inr low ↦ low_version sum version low either
    ]

versioned_reads : (text : List ℕ) (version : ℕ) (program : List ℕ) → IsVersioned text version program → decode_of text ≡ program_at version program
versioned_reads text version program is = says_reads text is.sum version program is.says ∙ own_read is.sum version program is.own

-- ---- where a text breaks a rule, that fault is reported

mixed_told : (text : List ℕ) → IsMixed text → decode_of text ≡ Err Case
unfolding decode_of
mixed_told text is = rw (sized_test text is.sized, (case_decides text).1 is.both) refl

short_told : (text : List ℕ) → IsShort text → split_at text (behind_last text) ≡ Err Separator
unfolding parts_at
short_told text is = split_reads text is.prefix is.letters is.split ∙ (rw ((short_decides is.prefix is.letters).1 is.short) refl)

unseparated_told : (text : List ℕ) → IsUnseparated text → decode_of text ≡ Err Separator
unseparated_told text is =
    plain_reads text is.plain
    ∙ (elim is.lacks [
      | inl none ↦ ap (λ o. split_at (lowered text) o) (behind_none (lowered text) none)
      | inr short ↦ short_told (lowered text) short
    ])

misspelled_told : (text : List ℕ) → IsMisspelled text → decode_of text ≡ Err Letter
misspelled_told text is = parted_reads text is.prefix is.letters is.parted ∙ (rw ((stranger_decides is.prefix is.letters).1 is.stranger) refl)

unsealed_told : (text : List ℕ) → IsUnsealed text → decode_of text ≡ Err Checksum
unfolding summed_at
unsealed_told text is = spelled_reads text is.prefix is.values is.spelled ∙ (rw ((sealed_decides (polymod (expanded is.prefix ++ is.values))).1 is.neither) refl)

foreign_told : (text : List ℕ) → IsForeign text → decode_of text ≡ Err Network
foreign_told text is = sealed_reads text is.prefix is.values is.sum is.sealed ∙ (rw ((foreign_decides is.prefix).1 is.other) refl)

misversioned_told : (text : List ℕ) → IsMisversioned text → decode_of text ≡ Err Version
misversioned_told text is = says_reads text is.sum is.version is.program is.says ∙ other_read is.sum is.version is.program is.other

pub small_program : (text : List ℕ) (version : ℕ) (program : List ℕ) → IsVersioned text version program → All (λ v. v < 32) program
small_program text version program is =
    let all = All-tail (λ (v : ℕ). v < 32) version (program ++ is.says.last) is.says.sealed.spelled.small in
    subst (λ (l : List ℕ). All (λ v. v < 32) l) (take_at program is.says.last (length program) refl) (All-take (λ (v : ℕ). v < 32) (length program) (program ++ is.says.last) all)

mispadded_told : (text : List ℕ) → IsMispadded text → decode_of text ≡ Err Padding
unfolding program_at
mispadded_told text is =
    let small = small_program text is.version is.program is.versioned in
    let wrong : is_badly_padded is.program ≡ true = true_from_ne_false _ (λ well. is.none (bytes_of is.program) (bytes_small is.program) (sym (values_of_bytes is.program small well))) in
    versioned_reads text is.version is.program is.versioned ∙ (rw wrong refl)

missized_told : (text : List ℕ) → IsMissized text → decode_of text ≡ Err Length
unfolding program_at
missized_told text is =
    let refused : is_refused is.version (length is.bytes) ≡ true = (size_decides is.version (length is.bytes)).1 is.other in
    versioned_reads text is.version (values_of is.bytes) is.versioned ∙ (rw (values_padded is.bytes, size_of_values is.bytes, refused) refl)

unsized_told : (text : List ℕ) → (IsSized text → ⊥) → decode_of text ≡ Err Length
unfolding decode_of
unsized_told text wrong = rw (true_from_ne_false (is_missized text) (λ no. wrong (sized_from text no))) refl

pub breaks_told : (text : List ℕ) (fault : AddrFault) → Breaks text fault → decode_of text ≡ Err fault
breaks_told text Case is = mixed_told text is
breaks_told text Separator is = unseparated_told text is
breaks_told text Letter is = misspelled_told text is
breaks_told text Checksum is = unsealed_told text is
breaks_told text Network is = foreign_told text is
breaks_told text Version is = misversioned_told text is
breaks_told text Padding is = mispadded_told text is
breaks_told text Length is = elim is [ inl wrong ↦ unsized_told text wrong | inr wrong ↦ missized_told text wrong ]
breaks_told text Memory is = absurd is

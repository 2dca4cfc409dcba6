-- A text that is refused breaks the rule that its fault names, and keeps those before it.
use Rattle.std.proofs.Common.{◌≡◌, ℕ, ◌-◌, ◌<◌, ◌≤◌, Bool, true, false, cond, not, List, ◌∷◌, ◌++◌, map, length, drop, Result, Err, refl, sym, ap, subst, ◌∙◌, arith, inl, inr, codes}
use Rattle.std.specs.Prelude.{◌⊎◌, ◌||◌, slice_index, bytes_eq, nat_lt, nat_le}
use Rattle.std.proofs.lemmas.Bool.{both_ways, cases_lt, not-false, or_parts}
use Rattle.std.proofs.lemmas.List.{length-map, length-take-le, length-drop, take-append-drop, drop_more}
use Rattle.std.proofs.lemmas.List.Sums.{count_by-le-length}
use Rattle.std.proofs.lemmas.Slice.Eq.{bytes_eq-Decides}
use Rattle.segwit_addr.specs.Address.{is_mixed, is_refused}
use Rattle.segwit_addr.specs.Bech32.{polymod, expanded, value_of}
use Rattle.segwit_addr.specs.Judging.{Breaks, IsParted, IsPlain, IsSealed, IsSpelled, IsSplit, IsVersioned, Says}
use Rattle.segwit_addr.specs.Reading.{behind_last, char_count, decode_of, has_outsider, has_unknown, is_badly_padded, parts_at, program_at, split_at, summed_at, versioned_at}
use Rattle.segwit_addr.specs.Regrouping.{bytes_of, size_of, values_of}
use Rattle.segwit_addr.specs.declared.fault.AddrFault.{AddrFault}
use Rattle.segwit_addr.specs.declared.fault.AddrFault.TheVariants.{Case, Separator, Letter, Checksum, Network, Version, Length, Padding}
use Rattle.segwit_addr.proofs.Judged.{lowered, own_values, other_read, own_read, some_version, small_program}
use Rattle.segwit_addr.proofs.Letters.{letters_back, known_small}
use Rattle.segwit_addr.proofs.Regrouped.{bytes_small, length_bytes, values_of_bytes, values_padded}
use Rattle.segwit_addr.proofs.Rules.{not_so, is_missized, sized_from, sized_test, case_decides, is_short, short_decides, has_stranger, stranger_decides, printable_from, is_unsealed, sealed_decides, either_sum, foreign_decides, size_decides}
use Rattle.segwit_addr.proofs.Separators.{ends_of, behind_none, split_reads}

-- a test found something, or what stands after it was refused
tested : {A : Type 0} (b : Bool) (d e : AddrFault) (r : Result A AddrFault) → cond b (Err d) r ≡ Err e → ((b ≡ true) × (d ≡ e)) ⊎ ((b ≡ false) × (r ≡ Err e))
tested true d e r is = inl (refl, cc)
tested false d e r is = inr (refl, is)

broken : (text : List ℕ) (d e : AddrFault) → d ≡ e → Breaks text d → Breaks text e
broken text d e same is = subst (λ (f : AddrFault). Breaks text f) same is

program_breaks : (text : List ℕ) (version : ℕ) (program : List ℕ) (e : AddrFault) → IsVersioned text version program → program_at version program ≡ Err e → Breaks text e
unfolding program_at
program_breaks text version program e versioned is =
    elim (tested (is_badly_padded program) Padding e _ is) [
      | inl padding ↦ broken text Padding e padding.1 (record {
        version = version;
        program = program;
        versioned = versioned;
        none = λ bytes fit same. both_ways (is_badly_padded program) (ap (λ (l : List ℕ). is_badly_padded l) same ∙ values_padded bytes) padding.0;
      })
      | inr padded ↦
          let back : values_of (bytes_of program) ≡ program = values_of_bytes program (small_program text version program versioned) padded.0 in
          elim (tested (is_refused version (size_of program)) Length e _ padded.1) [
            | inl size ↦
                let other = (size_decides version (size_of program)).0 size.0 in
                broken text Length e size.1 (inr (record {
                  version = version;
                  bytes = bytes_of program;
                  fit = bytes_small program;
                  versioned = subst (λ (l : List ℕ). IsVersioned text version l) (sym back) versioned;
                  other = rw (length_bytes program) other;
                }))
            | inr fits ↦ let f = fits.1 in absurd cc
          ]
    ]

says_breaks : (text : List ℕ) (sum version : ℕ) (program : List ℕ) (e : AddrFault) → Says text sum version program → versioned_at (version ∷ program) sum ≡ Err e → Breaks text e
says_breaks text sum version program e says is =
    elim (some_version sum version says.sealed.either) [
      | inl other ↦
          let f = other_read sum version program other in
          broken text Version e (cc) (record { sum = sum; version = version; program = program; says = says; other = other })
      | inr own ↦ program_breaks text version program e (record { sum = sum; says = says; own = own }) (sym (own_read sum version program own) ∙ is)
    ]

-- values of Bitcoin's main network say a version and a program
values_breaks : (text values : List ℕ) (sum : ℕ) (e : AddrFault) → IsSealed text (codes "bc") values sum → versioned_at (own_values values) sum ≡ Err e → Breaks text e
values_breaks text values sum e sealed is =
    let own = own_values values in
    let last = drop (length values - 6) values in
    let enough : 7 ≤ length values = sealed.spelled.enough in
    let some : 0 < length own = omega (arith, enough, length-take-le (length values - 6) values (omega arith)) in
    let version = slice_index own 0 in
    let program = drop 1 own in
    let headed : version ∷ program ≡ own = sym (drop_more own 0 0 some) in
    let whole : version ∷ (program ++ last) ≡ values = ap (λ (l : List ℕ). l ++ last) headed ∙ take-append-drop (length values - 6) values in
    let says : Says text sum version program = record { last = last; sealed = subst (λ (l : List ℕ). IsSealed text (codes "bc") l sum) (sym whole) sealed; six = omega (arith, enough, length-drop (length values - 6) values) } in
    says_breaks text sum version program e says (ap (λ (l : List ℕ). versioned_at l sum) headed ∙ is)

summed_breaks : (text prefix values : List ℕ) (e : AddrFault) → IsSpelled text prefix values → summed_at prefix values ≡ Err e → Breaks text e
unfolding summed_at
summed_breaks text prefix values e spelled is =
    let sum = polymod (expanded prefix ++ values) in
    elim (tested (is_unsealed sum) Checksum e _ is) [
      | inl wrong ↦ broken text Checksum e wrong.1 (record { prefix = prefix; values = values; spelled = spelled; neither = (sealed_decides sum).0 wrong.0 })
      | inr right ↦
          let sealed : IsSealed text prefix values sum = record { spelled = spelled; sum_is = refl; either = either_sum sum right.0 } in
          elim (tested (not (bytes_eq prefix (codes "bc"))) Network e _ right.1) [
            | inl foreign ↦ broken text Network e foreign.1 (record { prefix = prefix; values = values; sum = sum; sealed = sealed; other = (foreign_decides prefix).0 foreign.0 })
            | inr own ↦
                let network : prefix ≡ codes "bc" = (bytes_eq-Decides prefix (codes "bc")).0 (not-false _ own.0) in
                values_breaks text values sum e (subst (λ (p : List ℕ). IsSealed text p values sum) network sealed) own.1
          ]
    ]

parted_breaks : (text prefix letters : List ℕ) (e : AddrFault) → IsParted text prefix letters → cond (has_stranger prefix letters) (Err Letter) (summed_at prefix (map value_of letters)) ≡ Err e → Breaks text e
parted_breaks text prefix letters e parted is =
    elim (tested (has_stranger prefix letters) Letter e _ is) [
      | inl strange ↦ broken text Letter e strange.1 (record { prefix = prefix; letters = letters; parted = parted; stranger = (stranger_decides prefix letters).0 strange.0 })
      | inr known ↦
          let both = or_parts (has_outsider prefix) (has_unknown (map value_of letters)) known.0 in
          let small = known_small (map value_of letters) both.1 in
          let spelled : IsSpelled text prefix (map value_of letters) = record {
            plain = parted.plain;
            spelling = parted.split.parts ∙ ap (λ (l : List ℕ). prefix ++ 49 ∷ l) (sym (letters_back letters small));
            some = parted.some;
            printable = printable_from prefix both.0;
            enough = omega (arith, parted.enough, length-map letters value_of, count_by-le-length (λ (c : ℕ). nat_lt c 128 || nat_le 192 c) letters);
            small = small;
          } in
          summed_breaks text prefix (map value_of letters) e spelled known.1
    ]

split_breaks : (text prefix letters : List ℕ) (e : AddrFault) → IsPlain text → IsSplit (lowered text) prefix letters → parts_at prefix letters ≡ Err e → Breaks text e
unfolding parts_at
split_breaks text prefix letters e plain split is =
    elim (tested (is_short prefix letters) Separator e _ is) [
      | inl short ↦ broken text Separator e short.1 (record { plain = plain; lacks = inr (record { prefix = prefix; letters = letters; split = split; short = (short_decides prefix letters).0 short.0 }) })
      | inr long ↦
          let not_short = not_so (is_short prefix letters) (short_decides prefix letters) long.0 in
          let enough : 7 ≤ char_count letters = elim (cases_lt (char_count letters) 7) [ inl few ↦ absurd (not_short (inr few)) | inr many ↦ many ] in
          parted_breaks text prefix letters e (record { plain = plain; split = split; some = λ none. not_short (inl none); enough = enough }) long.1
    ]

plain_breaks : (text : List ℕ) (e : AddrFault) → IsPlain text → split_at (lowered text) (behind_last (lowered text)) ≡ Err e → Breaks text e
plain_breaks text e plain is =
    elim (ends_of (lowered text)) [
      | inl none ↦
          let f = ap (λ o. split_at (lowered text) o) (behind_none (lowered text) none) in
          broken text Separator e (cc) (record { plain = plain; lacks = inl none })
      | inr ends ↦ split_breaks text ends.prefix ends.letters e plain ends.split (sym (split_reads (lowered text) ends.prefix ends.letters ends.split) ∙ is)
    ]

pub told_breaks : (text : List ℕ) (e : AddrFault) → decode_of text ≡ Err e → Breaks text e
unfolding decode_of
told_breaks text e is =
    elim (tested (is_missized text) Length e _ is) [
      | inl wrong ↦ broken text Length e wrong.1 (inl (λ sized. both_ways (is_missized text) (sized_test text sized) wrong.0))
      | inr right ↦
          let sized = sized_from text right.0 in
          elim (tested (is_mixed text) Case e _ right.1) [
            | inl mixed ↦ broken text Case e mixed.1 (record { sized = sized; both = (case_decides text).0 mixed.0 })
            | inr one ↦ plain_breaks text e (record { sized = sized; one_case = not_so (is_mixed text) (case_decides text) one.0 }) one.1
          ]
    ]

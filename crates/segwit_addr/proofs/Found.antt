-- From the text to the script: what a text is read as has the text as an address.
use Rattle.std.proofs.Common.{◌≡◌, ℕ, ◌-◌, ◌<◌, ◌≤◌, true, false, List, ◌∷◌, ◌++◌, map, length, take, drop, Option, Some, None, Ok, codes, sym, ◌∙◌, ap, subst, refl, arith}
use Rattle.std.specs.Prelude.{nat_lt, nat_le, ◌==◌, slice_index, not, ◌||◌, ◌&&◌}
use Rattle.std.specs.Char.{to_ascii_lowercase}
use Rattle.std.specs.List.{All}
use Rattle.std.proofs.lemmas.Bool.{ltb-false, or_parts, not-false, eqb-true}
use Rattle.std.proofs.lemmas.Bool.Decides.{nat_tests}
use Rattle.std.proofs.lemmas.List.{length-map, length-take-le, length-drop, take-append-drop, drop_more}
use Rattle.std.proofs.lemmas.List.Elements.{All-take, All-drop, All-cons}
use Rattle.std.proofs.lemmas.List.Sums.{count_by-le-length}
use Rattle.std.proofs.lemmas.Slice.Eq.{bytes_eq-Decides}
use Rattle.fund_base.specs.Cursor.{IsBytes}
use Rattle.segwit_addr.specs.Bech32.{polymod, expanded, value_of, letter_of, checksum_of}
use Rattle.segwit_addr.specs.Regrouping.{bytes_of, size_of, values_of}
use Rattle.segwit_addr.specs.Address.{IsAddress, encode_of, is_refused, is_witness, sum_of, text_of, version_byte, version_of}
use Rattle.segwit_addr.specs.Reading.{behind_last, char_count, decode_of, is_badly_padded, parts_at, program_at, split_at, summed_at, versioned_at}
use Rattle.segwit_addr.specs.declared.fault.AddrFault.TheVariants.{Case, Separator, Letter, Checksum, Network, Version, Length, Padding}
use Rattle.fund_base.proofs.Laws.{guard_ok}
use Rattle.segwit_addr.proofs.Letters.{letters_back, known_small}
use Rattle.segwit_addr.proofs.Regrouped.{length_bytes, values_of_bytes, bytes_small}
use Rattle.segwit_addr.proofs.Separators.{split_found}
use Rattle.segwit_addr.proofs.Sums.{checksum_found}

-- ---- the first byte of a script

version_back : (version : ℕ) → version ≤ 16 → version_of (version_byte version) ≡ version
version_back version low = grind (arith, nat_tests)

version_fits : (version : ℕ) → version ≤ 16 → version_byte version < 256
version_fits version low = grind (arith, nat_tests)

-- a script of a version, a length that is not refused, and a program of that length is a witness program
witness_from : (version size : ℕ) (bytes : List ℕ) → version ≤ 16 → length bytes ≡ size → is_refused version size ≡ false → is_witness (version_byte version ∷ size ∷ bytes) ≡ true
unfolding is_witness
witness_from version size bytes low long allowed = grind (arith, nat_tests)

-- ---- part by part

-- the script is that of this version and these values
record Gives (version : ℕ) (values script : List ℕ) : Type 0 where
  address : encode_of script ≡ Some (text_of version (version ∷ values))
  bytes : IsBytes script

program_found : (version : ℕ) (values script : List ℕ) → version ≤ 16 → All (λ v. v < 32) values → program_at version values ≡ Ok script → Gives version values script
unfolding program_at encode_of
program_found version values script low small h =
    let padded = guard_ok (is_badly_padded values) Padding _ script h in
    let refused = guard_ok (is_refused version (size_of values)) Length _ script padded.1 in
    let is : version_byte version ∷ size_of values ∷ bytes_of values ≡ script = cc refused.1 in
    let whole = version_byte version ∷ size_of values ∷ bytes_of values in
    let witness : is_witness whole ≡ true = witness_from version (size_of values) (bytes_of values) low (length_bytes values) refused.0 in
    let back : values_of (bytes_of values) ≡ values = values_of_bytes values small padded.0 in
    let version_sized = version == 0 && (not (size_of values == 20) && not (size_of values == 32)) in
    let ends = or_parts (nat_lt (size_of values) 2 || nat_lt 40 (size_of values)) version_sized refused.0 in
    let short : size_of values ≤ 40 = ltb-false 40 (size_of values) (or_parts (nat_lt (size_of values) 2) (nat_lt 40 (size_of values)) ends.0).1 in
    subst (λ (s : List ℕ). Gives version values s) is
    (record {
      address = rw (witness, version_back version low, back) refl;
      bytes = All-cons (λ (b : ℕ). b < 256) (version_byte version) (size_of values ∷ bytes_of values) (version_fits version low) (All-cons (λ (b : ℕ). b < 256) (size_of values) (bytes_of values) (omega arith) (bytes_small values));
    })

record Summed (values : List ℕ) (sum : ℕ) (script : List ℕ) : Type 0 where
  version_sum : sum ≡ sum_of (slice_index values 0)
  gives : Gives (slice_index values 0) (drop 1 values) script

versioned_found : (values : List ℕ) (sum : ℕ) (script : List ℕ) → All (λ v. v < 32) values → versioned_at values sum ≡ Ok script → Summed values sum script
unfolding versioned_at
versioned_found values sum script small h =
    let above = guard_ok _ Version _ script h in
    let other = guard_ok _ Version _ script above.1 in
    record {
      version_sum = eqb-true sum _ (not-false _ other.0);
      gives = program_found (slice_index values 0) (drop 1 values) script (ltb-false 16 (slice_index values 0) above.0) (All-drop (λ (v : ℕ). v < 32) 1 values small) other.1;
    }

-- the script is that of what stands before and after the separator
record Spelled (prefix letters script : List ℕ) : Type 0 where
  network : prefix ≡ codes "bc"
  address : encode_of script ≡ Some (codes "bc1" ++ letters)
  bytes : IsBytes script

summed_found : (prefix values script : List ℕ) → 7 ≤ length values → All (λ v. v < 32) values → summed_at prefix values ≡ Ok script → Spelled prefix (map letter_of values) script
unfolding summed_at text_of
summed_found prefix values script long small h =
    let wrong = guard_ok _ Checksum _ script h in
    let foreign = guard_ok _ Network _ script wrong.1 in
    let network : prefix ≡ codes "bc" = (bytes_eq-Decides prefix (codes "bc")).0 (not-false _ foreign.0) in
    let own = take (length values - 6) values in
    let last = drop (length values - 6) values in
    let whole : own ++ last ≡ values = take-append-drop (length values - 6) values in
    let found = versioned_found own (polymod (expanded prefix ++ values)) script (All-take (λ (v : ℕ). v < 32) (length values - 6) values small) foreign.1 in
    let version = slice_index own 0 in
    let long_last : length last ≡ 6 = omega (arith, length-drop (length values - 6) values) in
    let some : 0 < length own = omega (arith, length-take-le (length values - 6) values (omega arith)) in
    let sum : polymod (expanded prefix ++ (own ++ last)) ≡ sum_of version = ap (λ (l : List ℕ). polymod (expanded prefix ++ l)) whole ∙ found.version_sum in
    let sealed : checksum_of (codes "bc") own (sum_of version) ≡ last =
    ap (λ (p : List ℕ). checksum_of p own (sum_of version)) (sym network)
    ∙ checksum_found prefix own last (sum_of version) long_last (All-drop (λ (v : ℕ). v < 32) (length values - 6) values small) sum in
    let headed : version ∷ drop 1 own ≡ own = sym (drop_more own 0 0 some) in
    let text : text_of version own ≡ codes "bc1" ++ map letter_of values = ap (λ (l : List ℕ). codes "bc1" ++ map letter_of l) (ap (λ (l : List ℕ). own ++ l) sealed ∙ whole) in
    record {
      network = network;
      address = found.gives.address ∙ ap (λ (l : List ℕ). Some l) (ap (λ (d : List ℕ). text_of version d) headed ∙ text);
      bytes = found.gives.bytes;
    }

parts_found : (prefix letters script : List ℕ) → parts_at prefix letters ≡ Ok script → Spelled prefix letters script
unfolding parts_at
parts_found prefix letters script h =
    let apart = guard_ok _ Separator _ script h in
    let spelled = guard_ok _ Letter _ script apart.1 in
    let enough : 7 ≤ length letters = omega (arith, ltb-false (char_count letters) 7 (or_parts _ _ apart.0).1, count_by-le-length (λ (c : ℕ). nat_lt c 128 || nat_le 192 c) letters) in
    let small = known_small (map value_of letters) (or_parts _ _ spelled.0).1 in
    let found = summed_found prefix (map value_of letters) script (omega (arith, length-map letters value_of)) small spelled.1 in
    subst (λ (l : List ℕ). Spelled prefix l script) (letters_back letters small) found

record Lowered (lower script : List ℕ) : Type 0 where
  address : encode_of script ≡ Some lower
  bytes : IsBytes script

lower_found : (lower : List ℕ) (behind : Option ℕ) (script : List ℕ) → behind_last lower ≡ behind → split_at lower behind ≡ Ok script → Lowered lower script
lower_found lower None script at h = absurd (cc)
lower_found lower (Some behind) script at h =
    let prefix = take (length lower - behind - 1) lower in
    let letters = drop (length lower - behind) lower in
    let found = parts_found prefix letters script h in
    let whole : codes "bc1" ++ letters ≡ lower = ap (λ (p : List ℕ). p ++ 49 ∷ letters) (sym found.network) ∙ sym (split_found lower behind at) in
    record { address = found.address ∙ ap (λ (l : List ℕ). Some l) whole; bytes = found.bytes }

-- what a text is read as has it as its address
pub decode_found : (text script : List ℕ) → decode_of text ≡ Ok script → IsAddress text script
unfolding decode_of
decode_found text script h =
    let sized = guard_ok _ Length _ script h in
    let one_case = guard_ok _ Case _ script sized.1 in
    let found = lower_found (map to_ascii_lowercase text) (behind_last (map to_ascii_lowercase text)) script refl one_case.1 in
    record { one_case = one_case.0; spells = found.address; bytes = found.bytes }

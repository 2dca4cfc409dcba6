-- From the script to the text: an address of a script is read as it. And what follows of both.
use Rattle.std.proofs.Common.{◌≡◌, ◌≢◌, ℕ, ◌+◌, ◌-◌, ◌*◌, ◌/◌, ◌^◌, ◌<◌, ◌≤◌, Bool, true, false, List, [], ◌∷◌, ◌++◌, map, length, take, drop, Option, Some, None, Result, Ok, Err, codes, sym, ◌∙◌, ap, refl, arith, inl, inr, if◌then◌else◌}
use Rattle.std.specs.Prelude.{nat_lt, nat_le, ◌==◌, slice_index, not, ◌||◌, ◌&&◌, IfOk, IfSome, IsTrue, MatchResult}
use Rattle.std.specs.Char.{to_ascii_lowercase, is_ascii_uppercase}
use Rattle.std.specs.List.{All, list_any}
use Rattle.std.specs.Option.{option_map}
use Rattle.std.proofs.lemmas.Bool.{leb-true, ltb-false, or_parts, or_cases, and_parts, not-true, eqb-true, eq-eqb, le-ltb, and_left}
use Rattle.std.proofs.lemmas.Bool.Decides.{nat_tests}
use Rattle.std.proofs.lemmas.List.{length-map, length-append, take_at}
use Rattle.std.proofs.lemmas.List.Elements.{All-append, All-cons, All-tail, All-from_recursion}
use Rattle.fund_base.specs.Cursor.{IsBytes}
use Rattle.fund_base.specs.Parsing.{YieldsAll}
use Rattle.segwit_addr.specs.Bech32.{polymod, expanded, value_of, letter_of, checksum_of, six_values, bech32_sum, bech32m_sum}
use Rattle.segwit_addr.specs.Regrouping.{values_of}
use Rattle.segwit_addr.specs.Address.{IsAddress, IsLower, sum_in, encode_of, has_lower, has_upper, is_refused, is_witness, sum_of, text_of, version_byte, version_of}
use Rattle.segwit_addr.specs.Reading.{behind_last, char_count, decode_of, has_outsider, has_unknown, parts_at, program_at, split_at, summed_at, versioned_at}
use Rattle.segwit_addr.specs.declared.fault.AddrFault.{AddrFault}
use Rattle.segwit_addr.specs.declared.fault.AddrFault.TheVariants.{Case, Separator, Letter, Checksum, Network, Version, Length, Padding, Memory}
use Rattle.segwit_addr.proofs.Found.{decode_found}
use Rattle.segwit_addr.proofs.Letters.{values_back, chars_of_letters, no_one, small_known}
use Rattle.segwit_addr.proofs.Lower.{text_lower}
use Rattle.segwit_addr.proofs.Regrouped.{bytes_of_values, size_of_values, values_padded, values_small, length_values}
use Rattle.segwit_addr.proofs.Separators.{behind_one}
use Rattle.segwit_addr.proofs.Sums.{checksum_reaches}

-- ---- the checksum of a version

sum_fits : (version : ℕ) → sum_of version < 2 ^ 30
sum_fits version = elim (version == 0) as (λ b. (if b then bech32_sum else bech32m_sum) < 2 ^ 30) [ true ↦ omega arith | false ↦ omega arith ]

sum_known : (version : ℕ) → (not (sum_of version == bech32_sum) && not (sum_of version == bech32m_sum)) ≡ false
sum_known version = elim (version == 0) as (λ b. (not ((if b then bech32_sum else bech32m_sum) == bech32_sum) && not ((if b then bech32_sum else bech32m_sum) == bech32m_sum)) ≡ false) [ true ↦ refl | false ↦ refl ]

-- ---- from the script to the text

record IsProgram (byte size : ℕ) (program : List ℕ) : Type 0 where
  low : version_of byte ≤ 16
  byte_is : version_byte (version_of byte) ≡ byte
  size_is : size ≡ length program
  allowed : is_refused (version_of byte) (length program) ≡ false
  least : 2 ≤ length program
  most : length program ≤ 40

version_range : (byte : ℕ) → ((byte == 0) || (nat_le 81 byte && nat_le byte 96)) ≡ true → (version_of byte ≤ 16) × (version_byte (version_of byte) ≡ byte)
version_range byte h =
    elim (or_cases (byte == 0) (nat_le 81 byte && nat_le byte 96) h) [
      | inl none ↦ let is = eqb-true byte 0 none in (grind (arith, nat_tests), grind (arith, nat_tests))
      | inr some ↦
          let ends = and_parts (nat_le 81 byte) (nat_le byte 96) some in
          let least = leb-true 81 byte ends.0 in
          let most = leb-true byte 96 ends.1 in
          (omega arith, grind (arith, nat_tests))
    ]

witness_parts : (byte size : ℕ) (program : List ℕ) → is_witness (byte ∷ size ∷ program) ≡ true → IsProgram byte size program
unfolding is_witness
witness_parts byte size program h =
    let whole : List ℕ = byte ∷ size ∷ program in
    let long = nat_le 4 (length whole) in
    let begins = (byte == 0) || (nat_le 81 byte && nat_le byte 96) in
    let sized = size + 2 == length whole in
    let version = version_of byte in
    let n = length program in
    let allowed = and_parts (long && begins && sized) (not (is_refused version (length whole - 2))) h in
    let front = and_parts (long && begins) sized allowed.0 in
    let first = and_parts long begins front.0 in
    let size_is : size ≡ n = omega (arith, eqb-true (size + 2) (length whole) front.1) in
    let short : n ≡ length whole - 2 = omega arith in
    let fits : is_refused version n ≡ false = ap (λ (m : ℕ). is_refused version m) short ∙ not-true _ allowed.1 in
    let ends = or_parts (nat_lt n 2 || nat_lt 40 n) (version == 0 && (not (n == 20) && not (n == 32))) fits in
    let bounds = or_parts (nat_lt n 2) (nat_lt 40 n) ends.0 in
    let range = version_range byte first.1 in
    record {
      low = range.0;
      byte_is = range.1;
      size_is = size_is;
      allowed = fits;
      least = ltb-false n 2 bounds.0;
      most = ltb-false 40 n bounds.1;
    }

program_only : (version : ℕ) (program : List ℕ) → is_refused version (length program) ≡ false → IsBytes program → program_at version (values_of program) ≡ Ok (version_byte version ∷ length program ∷ program)
unfolding program_at
program_only version program allowed bytes =
    rw (values_padded program, bytes_of_values program bytes, size_of_values program, allowed) refl

-- the values of an address, with their checksum
abbrev values_for : ℕ → List ℕ → List ℕ
values_for version program = version ∷ values_of program

abbrev all_for : ℕ → List ℕ → List ℕ
all_for version program = values_for version program ++ checksum_of (codes "bc") (values_for version program) (sum_of version)

six_small : (n : ℕ) → All (λ v. v < 32) (six_values n)
six_small n = All-from_recursion (λ (v : ℕ). v < 32) (six_values n) (omega arith)

all_small : (version : ℕ) (program : List ℕ) → version ≤ 16 → All (λ v. v < 32) (all_for version program)
all_small version program low =
    All-append (λ (v : ℕ). v < 32) (values_for version program) (checksum_of (codes "bc") (values_for version program) (sum_of version))
    (All-cons (λ (v : ℕ). v < 32) version (values_of program) (omega arith) (values_small program))
    (six_small _)

versioned_only : (version : ℕ) (program : List ℕ) → version ≤ 16 → is_refused version (length program) ≡ false → IsBytes program → versioned_at (values_for version program) (sum_of version) ≡ Ok (version_byte version ∷ length program ∷ program)
unfolding versioned_at
versioned_only version program low allowed bytes = rw (le-ltb 16 version low, eq-eqb (sum_of version) (sum_of version) refl) (program_only version program allowed bytes)

summed_only : (version : ℕ) (program : List ℕ) → version ≤ 16 → is_refused version (length program) ≡ false → IsBytes program → summed_at (codes "bc") (all_for version program) ≡ Ok (version_byte version ∷ length program ∷ program)
unfolding summed_at
summed_only version program low allowed bytes =
    let sum : polymod (expanded (codes "bc") ++ all_for version program) ≡ sum_of version = checksum_reaches (codes "bc") (values_for version program) (sum_of version) (sum_fits version) in
    let front : take (length (all_for version program) - 6) (all_for version program) ≡ values_for version program =
    take_at (values_for version program) (checksum_of (codes "bc") (values_for version program) (sum_of version)) (length (all_for version program) - 6)
    (omega (arith, length-append (values_for version program) (checksum_of (codes "bc") (values_for version program) (sum_of version)))) in
    rw (sum, sum_known version, front) (versioned_only version program low allowed bytes)

length_all : (version : ℕ) (program : List ℕ) → length (all_for version program) ≡ 7 + (length program * 8 + 4) / 5
length_all version program = omega (arith, length-append (values_for version program) (checksum_of (codes "bc") (values_for version program) (sum_of version)), length_values program)

parts_only : (version : ℕ) (program : List ℕ) → version ≤ 16 → is_refused version (length program) ≡ false → IsBytes program → parts_at (codes "bc") (map letter_of (all_for version program)) ≡ Ok (version_byte version ∷ length program ∷ program)
unfolding parts_at has_outsider
parts_only version program low allowed bytes =
    let small = all_small version program low in
    let enough : nat_lt (char_count (map letter_of (all_for version program))) 7 ≡ false = le-ltb _ 7 (omega (arith, chars_of_letters (all_for version program) small, length_all version program)) in
    let known : has_unknown (all_for version program) ≡ false = small_known (all_for version program) small in
    rw (enough, values_back (all_for version program) small, known) (summed_only version program low allowed bytes)

lower_only : (version : ℕ) (program : List ℕ) → version ≤ 16 → is_refused version (length program) ≡ false → IsBytes program
    → split_at (text_of version (values_for version program)) (behind_last (text_of version (values_for version program))) ≡ Ok (version_byte version ∷ length program ∷ program)
unfolding text_of
lower_only version program low allowed bytes =
    let letters = map letter_of (all_for version program) in
    let text : List ℕ = 98 ∷ 99 ∷ 49 ∷ letters in
    let last : behind_last text ≡ Some (length letters) = behind_one (98 ∷ 99 ∷ []) letters (no_one (all_for version program) (all_small version program low)) in
    let before : length text - length letters - 1 ≡ 2 = omega arith in
    let behind : length text - length letters ≡ 3 = omega arith in
    ap (λ (o : Option ℕ). split_at text o) last
    ∙ (λ i. parts_at (take (before i) text) (drop (behind i) text))
    ∙ parts_only version program low allowed bytes

length_text : (version : ℕ) (program : List ℕ) → length (text_of version (values_for version program)) ≡ 10 + (length program * 8 + 4) / 5
unfolding text_of
length_text version program = omega (arith, length_all version program, length-map (all_for version program) letter_of)

script_only : (text : List ℕ) (byte size : ℕ) (program : List ℕ) → is_witness (byte ∷ size ∷ program) ≡ true → IsAddress text (byte ∷ size ∷ program) → decode_of text ≡ Ok (byte ∷ size ∷ program)
unfolding decode_of encode_of
script_only text byte size program witness is =
    let parts = witness_parts byte size program witness in
    let version = version_of byte in
    let lower : text_of version (values_for version program) ≡ map to_ascii_lowercase text = cc (rw witness at is.spells) in
    let long : length text ≡ 10 + (length program * 8 + 4) / 5 = sym (length-map text to_ascii_lowercase) ∙ ap (λ (l : List ℕ). length l) (sym lower) ∙ length_text version program in
    let least : nat_lt (length text) 8 ≡ false = le-ltb _ _ (omega (arith, long, parts.least)) in
    let most : nat_lt 90 (length text) ≡ false = le-ltb _ _ (omega (arith, long, parts.most)) in
    let bytes : IsBytes program = All-tail (λ (b : ℕ). b < 256) size program (All-tail (λ (b : ℕ). b < 256) byte (size ∷ program) is.bytes) in
    rw (least, most, is.one_case, ← lower)
    (lower_only version program parts.low parts.allowed bytes
    ∙ (λ i. Ok (parts.byte_is i ∷ sym parts.size_is i ∷ program)))

-- ---- the address of a script

chosen : (b : Bool) (text other : List ℕ) → (if b then Some text else None) ≡ Some other → (b ≡ true) × (text ≡ other)
chosen true text other h = (refl, cc)
chosen false text other h = absurd (cc)

-- a script that has an address is a witness program, and the address is the text of its values
pub address_is : (script text : List ℕ) → encode_of script ≡ Some text → (is_witness script ≡ true) × (text_of (version_of (slice_index script 0)) (version_of (slice_index script 0) ∷ values_of (drop 2 script)) ≡ text)
unfolding encode_of
address_is script text h = chosen (is_witness script) _ text h

-- an address of a script is read as that script
pub decode_only : (text script : List ℕ) → IsAddress text script → decode_of text ≡ Ok script
unfolding is_witness
decode_only text [] is = let witness = (address_is [] _ is.spells).0 in absurd (cc)
decode_only text (byte ∷ []) is = let witness = (address_is (byte ∷ []) _ is.spells).0 in absurd (cc)
decode_only text (byte ∷ size ∷ program) is = script_only text byte size program (address_is (byte ∷ size ∷ program) _ is.spells).0 is

-- a text in lower case has no upper case letter
lower_only_case : (text : List ℕ) → map to_ascii_lowercase text ≡ text → list_any is_ascii_uppercase text ≡ false
lower_only_case [] is = refl
lower_only_case (c ∷ cs) is =
    let head : to_ascii_lowercase c ≡ c = cc in
    let tail : map to_ascii_lowercase cs ≡ cs = cc in
    let small : is_ascii_uppercase c ≡ false = grind (arith, nat_tests, head) in
    rw small (lower_only_case cs tail)

pub encode_lower : (script text : List ℕ) → encode_of script ≡ Some text → IsLower text
encode_lower script text h = text_lower text _ _ (sym (address_is script text h).1)

-- the address of a script is an address of it
pub encode_found : (script text : List ℕ) → IsBytes script → encode_of script ≡ Some text → IsAddress text script
unfolding IsLower has_upper
encode_found script text bytes h =
    let lower : map to_ascii_lowercase text ≡ text = encode_lower script text h in
    record {
      one_case = and_left (has_upper text) (has_lower text) (lower_only_case text lower);
      spells = h ∙ ap (λ (l : List ℕ). Some l) (sym lower);
      bytes = bytes;
    }

-- the whole of an address has the checksum of its version
script_sum : (text : List ℕ) (byte size : ℕ) (program : List ℕ) → is_witness (byte ∷ size ∷ program) ≡ true → text_of (version_of byte) (values_for (version_of byte) program) ≡ text → sum_in text ≡ sum_of (version_of byte)
unfolding text_of
script_sum text byte size program witness is =
    let parts = witness_parts byte size program witness in
    let version = version_of byte in
    ap (λ (l : List ℕ). polymod (expanded (codes "bc") ++ map value_of (drop 3 l))) (sym is)
    ∙ ap (λ (l : List ℕ). polymod (expanded (codes "bc") ++ l)) (values_back (all_for version program) (all_small version program parts.low))
    ∙ checksum_reaches (codes "bc") (values_for version program) (sum_of version) (sum_fits version)

pub address_sum : (text script : List ℕ) → IsAddress text script → sum_in (map to_ascii_lowercase text) ≡ sum_of (version_of (slice_index script 0))
unfolding is_witness
address_sum text [] is = let witness = (address_is [] _ is.spells).0 in absurd (cc)
address_sum text (byte ∷ []) is = let witness = (address_is (byte ∷ []) _ is.spells).0 in absurd (cc)
address_sum text (byte ∷ size ∷ program) is =
    let own = address_is (byte ∷ size ∷ program) _ is.spells in
    script_sum (map to_ascii_lowercase text) byte size program own.0 own.1

-- two addresses of one script differ in case alone, and two scripts have none in common
pub one_text : (first second script : List ℕ) → IsAddress first script → IsAddress second script → map to_ascii_lowercase first ≡ map to_ascii_lowercase second
one_text first second script a b = let p = a.spells in let q = b.spells in cc

pub one_script : (text first second : List ℕ) → IsAddress text first → IsAddress text second → first ≡ second
one_script text first second a b = let p = decode_only text first a in let q = decode_only text second b in cc

-- ---- what the calls promise

only_memory : (e : AddrFault) → (e ≢ Memory → ⊥) → e ≡ Memory
only_memory Case h = absurd (h (λ e. absurd cc))
only_memory Separator h = absurd (h (λ e. absurd cc))
only_memory Letter h = absurd (h (λ e. absurd cc))
only_memory Checksum h = absurd (h (λ e. absurd cc))
only_memory Network h = absurd (h (λ e. absurd cc))
only_memory Version h = absurd (h (λ e. absurd cc))
only_memory Length h = absurd (h (λ e. absurd cc))
only_memory Padding h = absurd (h (λ e. absurd cc))
only_memory Memory h = refl

pub yields_found : (text : List ℕ) (given : Result (List ℕ) AddrFault) → YieldsAll Memory (λ s. s) given (decode_of text) → IfOk given (λ s. IsAddress text s)
yields_found text (Ok script) h = decode_found text script h
yields_found text (Err e) h = tt

pub yields_only : (text script : List ℕ) (given : Result (List ℕ) AddrFault) → YieldsAll Memory (λ s. s) given (decode_of text) → IsAddress text script → MatchResult given (λ s. s ≡ script) (λ e. e ≡ Memory)
yields_only text script (Ok s) h is = let own = decode_only text script is in cc
yields_only text script (Err e) h is = only_memory e (λ other. let own = decode_only text script is in let refused = h other in absurd (cc))

pub yields_witness : (text : List ℕ) (given : Result (List ℕ) AddrFault) → YieldsAll Memory (λ s. s) given (decode_of text) → IfOk given (λ s. IsTrue (is_witness s))
yields_witness text (Ok script) h = (address_is script _ (decode_found text script h).spells).0
yields_witness text (Err e) h = tt

-- what is said of an address holds of what encode gave
pub given_some : {V E : Type 0} (items : V → List ℕ) (P : List ℕ → Type 0) (given : Result (Option V) E) (own : Option (List ℕ)) → IfOk given (λ o. option_map items o ≡ own) → ((text : List ℕ) → own ≡ Some text → P text) → IfOk given (λ o. IfSome o (λ v. P (items v)))
given_some items P (Ok (Some v)) own h all = all (items v) (sym h)
given_some items P (Ok None) own h all = tt
given_some items P (Err e) own h all = tt

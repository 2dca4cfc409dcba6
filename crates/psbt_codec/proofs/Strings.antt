-- Maps of byte strings, as they are written.
use Rattle.std.proofs.Common.{◌≡◌, ◌≢◌, ℕ, ◌<◌, ◌^◌, List, [], ◌∷◌, ◌++◌, length, get_or, map, All, refl, sym, ap, subst, ◌∙◌, arith}
use Rattle.std.specs.List.{flat_map, AllByRecursion}
use Rattle.std.proofs.lemmas.List.{append-nil, take_at, drop_at, length-append}
use Rattle.std.proofs.lemmas.List.Elements.{All-from_get_or, All-from_recursion, All-nil, All-cons, All-take, All-drop}
use Rattle.std.proofs.lemmas.List.Kept.{AllPairs-cons}
use Rattle.fund_base.specs.CompactSize.{compact, prefixed}
use Rattle.fund_base.proofs.LawsOfNumbers.{compact1}
use Rattle.psbt_codec.specs.Psbt.{Pair, typed, pair_text, map_text, IsString, HaveOtherKeys, IsPair, IsMap}
use Rattle.psbt_codec.proofs.MapReads.{map_text-cons}

-- what a slice of bytes holds is a string
pub all_bytes : (bytes : List ℕ) → ((i : ℕ) → get_or bytes i 0 < 256) → length bytes < 2 ^ 64 → IsString bytes
all_bytes bytes each len = (All-from_get_or (λ n. n < 256) bytes 0 (λ i lt. each i), len)

-- ---- the parts of a string are strings

pub string_left : (a b : List ℕ) → IsString (a ++ b) → IsString a
string_left a b s = (subst (λ (l : List ℕ). All (λ n. n < 256) l) (take_at a b (length a) refl) (All-take (λ n. n < 256) (length a) (a ++ b) s.0), omega (arith, s.1, length-append a b))

pub string_right : (a b : List ℕ) → IsString (a ++ b) → IsString b
string_right a b s = (subst (λ (l : List ℕ). All (λ n. n < 256) l) (drop_at a b (length a) refl) (All-drop (λ n. n < 256) (length a) (a ++ b) s.0), omega (arith, s.1, length-append a b))

-- the key and the value of a pair
abbrev pub AreStrings : Pair → Type 0
AreStrings p = IsString p.key × IsString p.value

pub pair_strings : (p : Pair) → IsString (pair_text p) → AreStrings p
unfolding pair_text
pair_strings p s = (string_right (compact (length p.key)) p.key (string_left (prefixed p.key) (prefixed p.value) s), string_right (compact (length p.value)) p.value (string_right (prefixed p.key) (prefixed p.value) s))

pub map_strings : (pairs : List Pair) → IsString (map_text pairs) → AllByRecursion AreStrings pairs
map_strings [] s = tt
map_strings (p ∷ pairs) s =
    let parted : IsString (pair_text p ++ map_text pairs) = rw (← map_text-cons p pairs) s in
    (pair_strings p (string_left (pair_text p) (map_text pairs) parted), map_strings pairs (string_right (pair_text p) (map_text pairs) parted))

-- ---- maps of at most two pairs

pub typed_pair : (meant : List ℕ) (kind : ℕ) (value : List ℕ) → kind < 2 ^ 64 → AreStrings (typed kind value) → IsPair meant (typed kind value)
typed_pair meant kind value small fit = record {
  key = record { kind = kind; key_data = []; kind_fits = small; parts = sym (append-nil (compact kind)); whole = λ listed. refl };
  key_fits = fit.0;
  value_fits = fit.1;
}

pub empty_map : (meant : List ℕ) → IsMap meant []
empty_map meant = record { each = All-nil (IsPair meant); distinct = λ i j d lt end. absurd (omega (arith, end)) }

pub map_of_one : (meant : List ℕ) (p : Pair) → IsPair meant p → IsMap meant (p ∷ [])
map_of_one meant p is = record { each = All-cons (IsPair meant) p [] is (All-nil (IsPair meant)); distinct = AllPairs-cons HaveOtherKeys p [] (All-nil (HaveOtherKeys p)) (empty_map meant).distinct }

pub map_of_two : (meant : List ℕ) (p q : Pair) → IsPair meant p → IsPair meant q → HaveOtherKeys p q → IsMap meant (p ∷ q ∷ [])
map_of_two meant p q is_p is_q other = record {
  each = All-cons (IsPair meant) p (q ∷ []) is_p (map_of_one meant q is_q).each;
  distinct = AllPairs-cons HaveOtherKeys p (q ∷ []) (All-cons (HaveOtherKeys p) q [] other (All-nil (HaveOtherKeys p))) (map_of_one meant q is_q).distinct;
}

-- types that are below FD and differ have other keys
pub other_keys : (m n : ℕ) → m < 253 → n < 253 → (m ≡ n → ⊥) → compact m ≢ compact n
other_keys m n small_m small_n differ = λ same.
    let bytes : m ∷ [] ≡ n ∷ [] = sym (compact1 m small_m) ∙ same ∙ compact1 n small_n in
    differ (ap (λ (l : List ℕ). get_or l 0 0) bytes)

-- a pair in front of a map in which none has its key
pub map_more : (meant : List ℕ) (p : Pair) (pairs : List Pair) → IsPair meant p → AllByRecursion (HaveOtherKeys p) pairs → IsMap meant pairs → IsMap meant (p ∷ pairs)
map_more meant p pairs is others m = record { each = All-cons (IsPair meant) p pairs is m.each; distinct = AllPairs-cons HaveOtherKeys p pairs (All-from_recursion (HaveOtherKeys p) pairs others) m.distinct }

-- ---- the texts of many maps

pub texts_of : {X : Type 0} (pairs_of : X → List Pair) (xs : List X) → flat_map (λ x. map_text (pairs_of x)) xs ≡ flat_map map_text (map pairs_of xs)
texts_of pairs_of [] = refl
texts_of pairs_of (x ∷ xs) = ap (λ (l : List ℕ). map_text (pairs_of x) ++ l) (texts_of pairs_of xs)

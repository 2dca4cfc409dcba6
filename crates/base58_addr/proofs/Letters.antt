-- Letters and their values.
use Rattle.std.proofs.Common.{◌≡◌, ℕ, ◌<◌, suc, Bool, true, false, List, [], ◌∷◌, map, length, get_or, Option, Some, None, ◌∙◌, ap, refl, sym, arith}
use Rattle.std.specs.Prelude.{◌==◌, nat_le, unwrap_or, Any, Contains}
use Rattle.std.specs.List.{All, list_any}
use Rattle.std.proofs.Math.Nat.{mod-eq_of_lt}
use Rattle.std.proofs.lemmas.Bool.{eqb-true, agree_below, agree_below_at, lt-leb, leb-true, leb-false, true_from_ne_false, false_from_ne_true, both_ways}
use Rattle.std.proofs.lemmas.List.{get_or_default, length-map}
use Rattle.std.proofs.Math.ListN.{get_or-map}
use Rattle.std.proofs.lemmas.List.Folds.{list_any_at, Any-from_list_any, list_any-from_Any}
use Rattle.std.proofs.lemmas.List.Quantifiers.{position-Some}
use Rattle.base58_addr.specs.Base58.{alphabet, found_at, value_of, letter_at, letter_of}

-- ---- one letter

-- the value of each letter of the alphabet is its place
tested : ℕ → Bool
tested v = value_of (letter_of v) == v

all_tested : agree_below tested (λ _. true) 58 ≡ true
unfolding tested value_of found_at letter_at
all_tested = refl

pub value_back : (v : ℕ) → v < 58 → value_of (letter_of v) ≡ v
unfolding tested
value_back v low = eqb-true _ _ (agree_below_at tested (λ _. true) 58 v all_tested low)

-- a place that was found is that of the letter
place_back : (letters : List ℕ) (c : ℕ) (o : Option ℕ) → found_at letters c ≡ o → unwrap_or o (length letters) < length letters → get_or letters (unwrap_or o (length letters)) 0 ≡ c
unfolding found_at
place_back letters c (Some k) is low = eqb-true _ _ (position-Some (λ (a : ℕ). a == c) letters k 0 is).1
place_back letters c None is low = absurd (omega arith)

letter_back : (c : ℕ) → value_of c < 58 → letter_of (value_of c) ≡ c
unfolding value_of letter_at
letter_back c low = ap (λ (k : ℕ). get_or alphabet k 0) (mod-eq_of_lt low) ∙ place_back alphabet c (found_at alphabet c) refl low

-- ---- letters in a row

pub letters_back : (text : List ℕ) → All (λ v. v < 58) (map value_of text) → map letter_of (map value_of text) ≡ text
letters_back [] small = refl
letters_back (c ∷ cs) small =
    (λ i. letter_back c (small 0 0 (omega arith)) i ∷ letters_back cs (λ k d lt. small (suc k) d (omega arith)) i)

pub values_back : (values : List ℕ) → All (λ v. v < 58) values → map value_of (map letter_of values) ≡ values
values_back [] small = refl
values_back (v ∷ vs) small =
    (λ i. value_back v (small 0 0 (omega arith)) i ∷ values_back vs (λ k d lt. small (suc k) d (omega arith)) i)

-- ---- which letters there are

abbrev pub has_unknown : List ℕ → Bool
has_unknown text = list_any (λ c. nat_le 58 (value_of c)) text

pub known_small : (text : List ℕ) → has_unknown text ≡ false → All (λ v. v < 58) (map value_of text)
known_small text known = λ i d lt.
    let within : i < length text = omega (arith, length-map text value_of) in
    let value : get_or (map value_of text) i d ≡ value_of (get_or text i 0) =
    get_or_default (map value_of text) i d (value_of 0) lt ∙ get_or-map value_of text i 0 in
    let low : value_of (get_or text i 0) < 58 =
    leb-false 58 _ (false_from_ne_true _ (λ unknown. both_ways _ known (list_any_at (λ (c : ℕ). nat_le 58 (value_of c)) text i 0 within unknown))) in
    omega (arith, value, low)

pub small_known : (values : List ℕ) → All (λ v. v < 58) values → has_unknown (map letter_of values) ≡ false
small_known [] small = refl
small_known (v ∷ vs) small =
    rw (value_back v (small 0 0 (omega arith)), lt-leb 58 v (small 0 0 (omega arith))) (small_known vs (λ k d lt. small (suc k) d (omega arith)))

letter_valued : (c : ℕ) → Contains alphabet c → value_of c < 58
unfolding letter_at
letter_valued c has =
    let low : has.0 < 58 = has.1 in
    let same : letter_of has.0 ≡ c = ap (λ (k : ℕ). get_or alphabet k 0) (mod-eq_of_lt low) ∙ get_or_default alphabet has.0 0 c low ∙ has.2 in
    let back : value_of c ≡ has.0 = ap value_of (sym same) ∙ value_back has.0 low in
    omega arith

value_lettered : (c : ℕ) → value_of c < 58 → Contains alphabet c
unfolding letter_at
value_lettered c low =
    let same : get_or alphabet (value_of c) 0 ≡ c = ap (λ (k : ℕ). get_or alphabet k 0) (sym (mod-eq_of_lt low)) ∙ letter_back c low in
    (value_of c, low, get_or_default alphabet (value_of c) c 0 low ∙ same)

pub unknown_found : (text : List ℕ) → has_unknown text ≡ true → Any (λ c. Contains alphabet c → ⊥) text
unknown_found text e =
    let a = Any-from_list_any (λ (c : ℕ). nat_le 58 (value_of c)) text e in
    let high = leb-true 58 (value_of a.1) a.4 in
    (a.0, a.1, a.2, a.3, λ has. let low = letter_valued a.1 has in omega arith)

pub unknown_told : (text : List ℕ) → Any (λ c. Contains alphabet c → ⊥) text → has_unknown text ≡ true
unknown_told text a =
    list_any-from_Any (λ (c : ℕ). nat_le 58 (value_of c)) text
    (a.0, a.1, a.2, a.3, true_from_ne_false _ (λ fails. a.4 (value_lettered a.1 (leb-false 58 (value_of a.1) fails))))

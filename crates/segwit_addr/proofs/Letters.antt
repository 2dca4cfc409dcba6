-- Letters and their values.
use Rattle.std.proofs.Common.{◌≡◌, ◌≢◌, ℕ, ◌<◌, suc, Bool, true, false, not, cond, ◌&&◌, List, [], ◌∷◌, map, length, get_or, Option, Some, None, sym, ◌∙◌, ap, refl, arith}
use Rattle.std.specs.Prelude.{◌==◌, nat_lt, nat_le, ◌||◌, unwrap_or, Contains}
use Rattle.std.specs.List.{All}
use Rattle.std.proofs.Math.Nat.{mod-eq_of_lt}
use Rattle.std.proofs.lemmas.Bool.{eqb-true, eqb-false, and_parts, not-true, agree_below, agree_below_at, lt-ltb, ltb-true, lt-leb, leb-false, false_from_ne_true, both_ways}
use Rattle.std.proofs.lemmas.List.{get_or_default}
use Rattle.std.proofs.lemmas.List.Elements.{All-nil, All-cons}
use Rattle.std.proofs.lemmas.List.Folds.{list_any_at}
use Rattle.std.proofs.lemmas.List.Sums.{sum_by-cons}
use Rattle.std.proofs.lemmas.List.Quantifiers.{position-Some}
use Rattle.segwit_addr.specs.Bech32.{alphabet, found_at, value_of, letter_at, letter_of}
use Rattle.segwit_addr.specs.Reading.{char_count, has_unknown}

-- ---- one letter

-- what holds of each letter of the alphabet: its value is its place, it is no digit 1, and it is one byte
tested : ℕ → Bool
tested v = (value_of (letter_of v) == v) && (not (letter_of v == 49) && nat_lt (letter_of v) 128)

all_tested : agree_below tested (λ _. true) 32 ≡ true
unfolding tested value_of found_at letter_at
all_tested = refl

record IsLetter (v : ℕ) : Type 0 where
  back : value_of (letter_of v) ≡ v
  other : letter_of v ≢ 49
  short : letter_of v < 128

letter_is : (v : ℕ) → v < 32 → IsLetter v
unfolding tested
letter_is v low =
    let both = and_parts _ _ (agree_below_at tested (λ _. true) 32 v all_tested low) in
    let rest = and_parts _ _ both.1 in
    record {
      back = eqb-true _ _ both.0;
      other = eqb-false _ _ (not-true _ rest.0);
      short = ltb-true _ _ rest.1;
    }

-- a place that was found is that of the letter
place_back : (letters : List ℕ) (c : ℕ) (o : Option ℕ) → found_at letters c ≡ o → unwrap_or o (length letters) < length letters → get_or letters (unwrap_or o (length letters)) 0 ≡ c
unfolding found_at
place_back letters c (Some k) is low = eqb-true _ _ (position-Some (λ (a : ℕ). a == c) letters k 0 is).1
place_back letters c None is low = absurd (omega arith)

letter_back : (c : ℕ) → value_of c < 32 → letter_of (value_of c) ≡ c
unfolding value_of letter_at
letter_back c low = ap (λ (k : ℕ). get_or alphabet k 0) (mod-eq_of_lt low) ∙ place_back alphabet c (found_at alphabet c) refl low

-- ---- letters in a row

pub letters_back : (letters : List ℕ) → All (λ v. v < 32) (map value_of letters) → map letter_of (map value_of letters) ≡ letters
letters_back [] small = refl
letters_back (c ∷ cs) small =
    (λ i. letter_back c (small 0 0 (omega arith)) i ∷ letters_back cs (λ k d lt. small (suc k) d (omega arith)) i)

pub values_back : (values : List ℕ) → All (λ v. v < 32) values → map value_of (map letter_of values) ≡ values
values_back [] small = refl
values_back (v ∷ vs) small =
    (λ i. (letter_is v (small 0 0 (omega arith))).back i ∷ values_back vs (λ k d lt. small (suc k) d (omega arith)) i)

pub chars_of_letters : (values : List ℕ) → All (λ v. v < 32) values → char_count (map letter_of values) ≡ length values
chars_of_letters [] small = refl
chars_of_letters (v ∷ vs) small =
    let short : nat_lt (letter_of v) 128 ≡ true = lt-ltb _ _ (letter_is v (small 0 0 (omega arith))).short in
    let one : ◌≡◌ {A = ℕ} (cond (nat_lt (letter_of v) 128 || nat_le 192 (letter_of v)) 1 0) 1 = ap (λ (b : Bool). cond {A = ℕ} (b || nat_le 192 (letter_of v)) 1 0) short in
    omega (arith, one, sum_by-cons (λ (c : ℕ). cond {A = ℕ} (nat_lt c 128 || nat_le 192 c) 1 0) (letter_of v) (map letter_of vs), chars_of_letters vs (λ k d lt. small (suc k) d (omega arith)))

-- no letter is a `1`
pub no_one : (values : List ℕ) → All (λ v. v < 32) values → All (λ c. c ≢ 49) (map letter_of values)
no_one [] small = All-nil (λ (c : ℕ). c ≢ 49)
no_one (v ∷ vs) small = All-cons (λ (c : ℕ). c ≢ 49) (letter_of v) (map letter_of vs) (letter_is v (small 0 0 (omega arith))).other (no_one vs (λ k d lt. small (suc k) d (omega arith)))

pub known_small : (values : List ℕ) → has_unknown values ≡ false → All (λ v. v < 32) values
unfolding has_unknown
known_small values known = λ k d lt.
    leb-false 32 _ (false_from_ne_true _ (λ unknown. both_ways _ known (list_any_at (λ (v : ℕ). nat_le 32 v) values k d lt unknown)))

pub small_known : (values : List ℕ) → All (λ v. v < 32) values → has_unknown values ≡ false
unfolding has_unknown
small_known [] small = refl
small_known (v ∷ vs) small = rw (lt-leb 32 v (small 0 0 (omega arith))) (small_known vs (λ k d lt. small (suc k) d (omega arith)))

-- ---- which letters there are

-- a letter has a value exactly where it stands in the alphabet
pub letter_valued : (c : ℕ) → Contains alphabet c → value_of c < 32
unfolding letter_at
letter_valued c has =
    let low : has.0 < 32 = has.1 in
    let same : letter_of has.0 ≡ c = ap (λ (k : ℕ). get_or alphabet k 0) (mod-eq_of_lt low) ∙ get_or_default alphabet has.0 0 c low ∙ has.2 in
    let back : value_of c ≡ has.0 = ap value_of (sym same) ∙ (letter_is has.0 low).back in
    omega arith

pub value_lettered : (c : ℕ) → value_of c < 32 → Contains alphabet c
unfolding letter_at
value_lettered c low =
    let same : get_or alphabet (value_of c) 0 ≡ c = ap (λ (k : ℕ). get_or alphabet k 0) (sym (mod-eq_of_lt low)) ∙ letter_back c low in
    (value_of c, low, get_or_default alphabet (value_of c) c 0 low ∙ same)

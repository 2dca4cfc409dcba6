-- The terms of rows, by those of the presets alone.
use Rattle.std.specs.Prelude.{ℕ, ℤ, pos, ◌≡◌, ◌≢◌, ◌&&◌, int_le, ◌+◌, ◌≤◌, ◌≤ℤ◌, Bool, true, false, cond, length, nat_le, nat_lt, if◌then◌else◌}
use Rattle.std.specs.Int.{int_max, int_min}
use Rattle.std.proofs.Common.{List, ◌<◌, length, arith, refl}
use Rattle.std.proofs.lemmas.Bool.{cond_both, le-leb, leb-true}
use Rattle.std.proofs.lemmas.Int.{clamps, ints, int_max_is}
use Rattle.fund_base.specs.CompactSize.{compact}
use Rattle.fee_rates.proofs.CompactLaws.{compact_len_is}
use Rattle.fee_rates.proofs.FeeLaws.{fee_below, fee_least, vsize_below, vsize_least}
use Rattle.fee_rates.proofs.TermsLaws.{terms_agree}
use Rattle.fee_rates.specs.Fee.{fee_of, vsize_of, input_fee_of}
use Rattle.fee_rates.specs.Terms.{AreRates, IsLoad, asked_of, base_of, raw_of, small_of, target_of, terms_of}
use Rattle.fee_rates.specs.declared.terms.PaymentLoad.{PaymentLoad}
use Rattle.fee_rates.specs.declared.terms.Rates.{Rates}
use Rattle.fund_steps.specs.Making.{AreReady, AreSearchable}
use Rattle.fund_steps.specs.Presets.{presets_of}
use Rattle.fund_steps.specs.Searches.{is_met, load_with}
use Rattle.fund_steps.specs.declared.turns.Turn.{Turn}
use Rattle.fund_steps.specs.declared.presets.Presets.TheVariants.{Short}

-- ---- more coins at hand leave no less to bring

one_or_three : (b : Bool) → (1 ≤ cond b 1 3) × (cond b 1 3 ≤ 3)
one_or_three true = (omega arith, omega arith)
one_or_three false = (omega arith, omega arith)

count_grows : (a n : ℕ) → cond (nat_le a 252) 1 3 ≤ cond (nat_le (a + n) 252) 1 3
count_grows a n =
    cond_both (nat_le (a + n) 252) 1 3 (λ (x : ℕ). cond (nat_le a 252) 1 3 ≤ x)
    (λ t. rw (le-leb a 252 (omega (arith, leb-true (a + n) 252 t))) (omega arith))
    (λ f. (one_or_three (nat_le a 252)).1)

base_grows : (l : PaymentLoad) (n : ℕ) → base_of l ≤ base_of (load_with l n)
base_grows l n = let c = count_grows l.coins n in omega arith

raw_grows : (r : Rates) (l : PaymentLoad) (n : ℕ) → raw_of r l ≤ℤ raw_of r (load_with l n)
raw_grows r l n =
    let fee = fee_below r.rate (vsize_of (base_of l)) r.rate (vsize_of (base_of (load_with l n))) (omega arith) (vsize_below (base_of l) (base_of (load_with l n)) (base_grows l n)) in
    omega (arith, ints)

asked_by : (r : Rates) (l : PaymentLoad) (n : ℕ) (b : Bool) → (if b then raw_of r l else int_max (raw_of r l) (pos 1)) ≤ℤ (if b then raw_of r (load_with l n) else int_max (raw_of r (load_with l n)) (pos 1))
asked_by r l n true = raw_grows r l n
asked_by r l n false = let g = raw_grows r l n in omega (arith, ints, int_max_is)

cut_grows : (x y : ℤ) → x ≤ℤ y → int_min x (pos 1_000_000_000_000_000_000) ≤ℤ int_min y (pos 1_000_000_000_000_000_000)
cut_grows x y h = omega (arith, ints, clamps, h)

pub target_grows : (r : Rates) (l : PaymentLoad) (n : ℕ) → target_of r l ≤ℤ target_of r (load_with l n)
target_grows r l n = cut_grows (asked_of r l) (asked_of r (load_with l n)) (asked_by r l n l.has_presets)

-- ---- bounds

length_most : (a b c : Bool) → cond a 1 (cond b 3 (cond c 5 9)) ≤ 9
length_most true b c = omega arith
length_most false true c = omega arith
length_most false false true = omega arith
length_most false false false = omega arith

compact_short : (n : ℕ) → length (compact n) ≤ 9
compact_short n = rw (compact_len_is n) (length_most (nat_lt n 253) (nat_lt n 65536) (nat_lt n 4294967296))

base_most : (l : PaymentLoad) → l.outputs ≤ 1_000_000_000 → base_of l ≤ 5_000_000_000
base_most l few = let c = (one_or_three (nat_le l.coins 252)).1 in omega (arith, c, few, compact_short (l.count + 1))

fee_most : (r v : ℕ) → r ≤ 100_000_000 → v ≤ 2_000_000_000 → fee_of r v ≤ 200_000_000_000_000
fee_most r v low small = omega (arith, fee_below r v 100_000_000 2_000_000_000 low small, (fee_least 100_000_000 2_000_000_000).least 200_000_000_000_000 (omega arith))

input_fee_most : (r w : ℕ) → r ≤ 100_000_000 → w ≤ 400_000 → input_fee_of r w ≤ 200_000_000_000_000
input_fee_most r w low small = fee_most r (vsize_of w) low (omega (arith, (vsize_least w).least 100_000 (omega arith)))

-- the terms of a payment for which coins have to bring something are such that problems can be made from them
pub searchable : (r : Rates) (l : PaymentLoad) → AreRates r → IsLoad l → l.change_dust ≤ 31_000 → pos 1 ≤ℤ target_of r l → AreSearchable (terms_of r l)
unfolding terms_of
searchable r l rates load dust some =
    let target = (terms_agree r l).most in
    let fee = fee_most r.rate l.change_size rates.rate (omega (arith, load.change_size)) in
    let spend = input_fee_most r.discard l.change_weight rates.discard load.change_weight in
    record {
      some = some;
      order = omega (arith, ints);
      small = omega (arith, ints);
      big = omega (arith, ints);
      fit = omega (arith, ints, target, fee, spend, dust, rates.change_target);
      change_fee = fee;
      change_spend = spend;
    }

loaded : (l : PaymentLoad) (n : ℕ) → IsLoad l → IsLoad (load_with l n)
loaded l n h = record {
  paid = h.paid;
  outputs = h.outputs;
  count = h.count;
  preset_low = h.preset_low;
  preset_high = h.preset_high;
  preset_weight = h.preset_weight;
  burden = h.burden;
  change_size = h.change_size;
  change_weight = h.change_weight;
}

-- the terms of a row that has a stage are such
pub row_searchable : (r : Rates) (l : PaymentLoad) (us : List Turn) (n : ℕ) → AreReady r l us → 0 < length us → AreSearchable (terms_of r (load_with l n))
row_searchable r l us n h some =
    let target = target_grows r l n in
    searchable r (load_with l n) h.rates (loaded l n h.load) h.dust (omega (arith, ints, target, h.some some))

-- ---- presets that don't bring all that is needed

not_le : (z : ℤ) → pos 1 ≤ℤ z → int_le z (pos 0) ≡ false
not_le z h = grind (arith, ints, h)

above : (z : ℤ) → int_le z (pos 0) ≡ false → pos 1 ≤ℤ z
above z e = grind (arith, ints, e)

some_cut : (x : ℤ) → pos 1 ≤ℤ x → pos 1 ≤ℤ int_min x (pos 1_000_000_000_000_000_000)
some_cut x h = omega (arith, ints, clamps, h)

some_by : (raw : ℤ) (b : Bool) → (b && int_le (int_min (if b then raw else int_max raw (pos 1)) (pos 1_000_000_000_000_000_000)) (pos 0)) ≡ false
    → pos 1 ≤ℤ int_min (if b then raw else int_max raw (pos 1)) (pos 1_000_000_000_000_000_000)
some_by raw true e = above (int_min raw (pos 1_000_000_000_000_000_000)) e
some_by raw false e = some_cut (int_max raw (pos 1)) (omega (arith, ints, int_max_is))

-- where they don't, coins have to bring something
pub some_where : (r : Rates) (l : PaymentLoad) → is_met r l ≡ false → pos 1 ≤ℤ target_of r l
some_where r l e = some_by (raw_of r l) l.has_presets e

-- and they don't pay alone
short_where : (r : Rates) (l : PaymentLoad) → pos 1 ≤ℤ target_of r l → presets_of r l ≡ Short
unfolding presets_of
short_where r l some =
    let low = not_le (target_of r l) some in
    let small = not_le (small_of r l) (omega (arith, ints, some)) in
    rw (low, small) refl

true_where : (b : Bool) → (b ≡ false → ⊥) → b ≡ true
true_where true h = refl
true_where false h = absurd (h refl)

pub met_where : (r : Rates) (l : PaymentLoad) → presets_of r l ≢ Short → is_met r l ≡ true
met_where r l pays = true_where (is_met r l) (λ e. pays (short_where r l (some_where r l e)))

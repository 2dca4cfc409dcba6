use Rattle.std.specs.Prelude.{ℕ, ℤ, pos, neg_ℤ, unsigned_abs, ◌≡◌, ◌≤◌, ◌≤ℤ◌, ◌-ℤ◌}
use Rattle.std.proofs.Common.{arith, rules, ap, subst, sym, ◌∙◌}
use Rattle.std.proofs.lemmas.Int.{ints}
use Rattle.fee_rates.specs.Terms.{change_fee_of, target_of}
use Rattle.fund_steps.specs.Amounts.{charges_of, value_of}
use Rattle.fund_plan.specs.Chosen.{left_with}
use Rattle.fund_plan.proofs.worth.left.Goals as goal
use mir.Syntax.{w128}
use mir.Val.{to_z, of_z, SFits}

abbrev Low : ℤ → Type 0
Low a = neg_ℤ (pos 1_000_000_000_000_000_000_000) ≤ℤ a

abbrev High : ℤ → Type 0
High a = a ≤ℤ pos 1_002_000_000_000_000_000_000

fits_one : (a t : ℤ) → Low a → High a → Low t → High t → SFits w128 (to_z w128 (of_z w128 a) -ℤ to_z w128 (of_z w128 t))
fits_one a t la ha lt ht = search (rules, ints)

one : (a t : ℤ) → Low a → High a → Low t → High t → to_z w128 (of_z w128 (to_z w128 (of_z w128 a) -ℤ to_z w128 (of_z w128 t))) ≡ a -ℤ t
one a t la ha lt ht = omega (arith, ints)

fits_two : (a t b : ℤ) (n : ℕ) → Low a → High a → Low t → High t → b ≡ pos n → n ≤ 100_000_000_000_000 → SFits w128 (to_z w128 (of_z w128 (to_z w128 (of_z w128 a) -ℤ to_z w128 (of_z w128 t))) -ℤ to_z w128 (of_z w128 b))
fits_two a t b n la ha lt ht is most = rw (one a t la ha lt ht, is) (by (a -ℤ t) n (omega (arith, ints)) (omega (arith, ints)) most)
  where
    by : (d : ℤ) (m : ℕ) → neg_ℤ (pos 3_000_000_000_000_000_000_000) ≤ℤ d → d ≤ℤ pos 3_000_000_000_000_000_000_000 → m ≤ 100_000_000_000_000 → SFits w128 (d -ℤ to_z w128 (of_z w128 (pos m)))
    by d m low high most = search (rules, ints)

two : (a t b : ℤ) (n : ℕ) → Low a → High a → Low t → High t → b ≡ pos n → n ≤ 100_000_000_000_000
    → to_z w128 (of_z w128 (to_z w128 (of_z w128 (to_z w128 (of_z w128 a) -ℤ to_z w128 (of_z w128 t))) -ℤ to_z w128 (of_z w128 b))) ≡ (a -ℤ t) -ℤ pos n
two a t b n la ha lt ht is most = omega (arith, ints)

low_of : (a : ℤ) → neg_ℤ (pos 210_001_000_000_000_000_000) ≤ℤ a → Low a
low_of a h = omega (arith, ints)

high_of : (a : ℤ) → a ≤ℤ pos 2_100_000_000_000_000 → High a
high_of a h = omega (arith, ints)

most_of : (a : ℤ) → a ≤ℤ pos 1_000_000_000_000_000_000 → High a
most_of a h = omega (arith, ints)

pub overflow_sub-effective : goal.overflow_sub-effective
overflow_sub-effective c =
    let t = c.new-terms.ensures in
    let e = c.effective-effective.ensures in
    fits_one c.effective-effective.result c.new-terms.result.target (low_of _ e.low) (high_of _ e.high) t.target_low (most_of _ t.target_high)

pub overflow_sub-effective-2 : goal.overflow_sub-effective-2
overflow_sub-effective-2 c =
    let t = c.new-terms.ensures in
    let e = c.effective-effective.ensures in
    fits_two c.effective-effective.result c.new-terms.result.target c.from.result c.new-terms.result.change_fee (low_of _ e.low) (high_of _ e.high) t.target_low (most_of _ t.target_high) c.from.ensures t.change_fee_most

-- what is left, as it is computed
computed : (a t b : ℤ) (n : ℕ) → Low a → High a → Low t → High t → b ≡ pos n → n ≤ 100_000_000_000_000 → (x y : ℤ) (m : ℕ) → a ≡ x → t ≡ y → n ≡ m
    → unsigned_abs (to_z w128 (of_z w128 (to_z w128 (of_z w128 (to_z w128 (of_z w128 a) -ℤ to_z w128 (of_z w128 t))) -ℤ to_z w128 (of_z w128 b)))) ≡ unsigned_abs ((x -ℤ y) -ℤ pos m)
computed a t b n la ha lt ht is most x y m p q r =
    ap unsigned_abs (two a t b n la ha lt ht is most) ∙ ap (λ (z : ℤ). unsigned_abs ((z -ℤ t) -ℤ pos n)) p ∙ ap (λ (z : ℤ). unsigned_abs ((x -ℤ z) -ℤ pos n)) q ∙ ap (λ (k : ℕ). unsigned_abs ((x -ℤ y) -ℤ pos k)) r

left_is : (c : goal.After-from) → unsigned_abs (to_z w128 (of_z w128 (to_z w128 (of_z w128 (to_z w128 (of_z w128 c.effective-effective.result) -ℤ to_z w128 (of_z w128 c.new-terms.result.target))) -ℤ to_z w128 (of_z w128 c.from.result)))) ≡ left_with c.args.rates.now c.args.load.now c.args.coins.now
left_is c =
    let t = c.new-terms.ensures in
    let e = c.effective-effective.ensures in
    computed c.effective-effective.result c.new-terms.result.target c.from.result c.new-terms.result.change_fee (low_of _ e.low) (high_of _ e.high) t.target_low (most_of _ t.target_high) c.from.ensures t.change_fee_most
    (pos (value_of c.args.coins.now) -ℤ pos (charges_of c.args.rates.now.rate c.args.coins.now)) (target_of c.args.rates.now c.args.load.now) (change_fee_of c.args.rates.now c.args.load.now) e.value t.target t.change_fee

pub size-requires : goal.size-requires
size-requires c = subst (λ (n : ℕ). n ≤ 2_100_000_000_000_000) (sym (left_is c)) c.requires.most

pub returns : goal.returns
returns c = c.size.ensures ∙ left_is c.before

-- How terms stand to one another.
use Rattle.std.specs.Prelude.{ℕ, ℤ, pos, ◌≡◌, ◌↔◌, ◌+◌, ◌-◌, ◌*◌, ◌≤◌, ◌+ℤ◌, ◌≤ℤ◌, Bool, true, false, if◌then◌else◌}
use Rattle.std.specs.Int.{int_max, int_min}
use Rattle.std.proofs.Common.{arith, refl, true≢false}
use Rattle.std.proofs.lemmas.Int.{ints, clamps}
use Rattle.fee_rates.specs.declared.terms.Rates.{Rates}
use Rattle.fee_rates.specs.declared.terms.PaymentLoad.{PaymentLoad}
use Rattle.fee_rates.specs.declared.terms.Terms.{Terms}
use Rattle.fee_rates.specs.Terms.{asked_of, base_of, raw_of, target_of, terms_of, TermsAgree}

-- terms that agree in each number are the same
pub same_terms : (t : Terms) (base : ℕ) (target hi small big : ℤ) (change_fee change_spend change_least plain_limit change_limit : ℕ) → t.base ≡ base → t.target ≡ target → t.hi ≡ hi → t.small ≡ small → t.big ≡ big → t.change_fee ≡ change_fee → t.change_spend ≡ change_spend → t.change_least ≡ change_least → t.plain_limit ≡ plain_limit → t.change_limit ≡ change_limit → t ≡ record { base = base; target = target; hi = hi; small = small; big = big; change_fee = change_fee; change_spend = change_spend; change_least = change_least; plain_limit = plain_limit; change_limit = change_limit }
same_terms t a b c d e f g h i j pa pb pc pd pe pf pg ph pi pj = rw (← pa, ← pb, ← pc, ← pd, ← pe, ← pf, ← pg, ← ph, ← pi, ← pj) refl

-- the greater of a number and 1
one_at_least : (x : ℤ) → (x ≤ℤ int_max x (pos 1)) × (pos 1 ≤ℤ int_max x (pos 1)) × (pos 0 ≤ℤ x → int_max x (pos 1) ≤ℤ (x +ℤ pos 1))
one_at_least x = (omega (arith, ints, clamps), omega (arith, ints, clamps), λ h. omega (arith, ints, clamps))

raised : (presets : Bool) (x : ℤ) → (x ≤ℤ (if presets then x else int_max x (pos 1))) × (presets ≡ false → pos 1 ≤ℤ (if presets then x else int_max x (pos 1))) × (pos 0 ≤ℤ x → (if presets then x else int_max x (pos 1)) ≤ℤ (x +ℤ pos 1))
raised true x = (omega (arith, ints), λ e. absurd (true≢false e), λ h. omega (arith, ints))
raised false x = let h = one_at_least x in (h.0, λ e. h.1, h.2)

-- with a greatest target
record IsCut (raw asked : ℤ) (presets : Bool) : Type 0 where
  most : int_min asked (pos 1_000_000_000_000_000_000) ≤ℤ pos 1_000_000_000_000_000_000
  raw_is : raw ≤ℤ pos 1_000_000_000_000_000_000 → raw ≤ℤ int_min asked (pos 1_000_000_000_000_000_000)
  some : presets ≡ false → pos 1 ≤ℤ int_min asked (pos 1_000_000_000_000_000_000)
  raised : pos 0 ≤ℤ raw → int_min asked (pos 1_000_000_000_000_000_000) ≤ℤ (raw +ℤ pos 1)

cut : (raw asked : ℤ) (presets : Bool) → raw ≤ℤ asked → (presets ≡ false → pos 1 ≤ℤ asked) → (pos 0 ≤ℤ raw → asked ≤ℤ (raw +ℤ pos 1)) → IsCut raw asked presets
cut raw asked presets low some high = record {
  most = omega (arith, ints, clamps);
  raw_is = λ h. omega (arith, ints, clamps, low, h);
  some = λ e. omega (arith, ints, clamps, some e);
  raised = λ h. omega (arith, ints, clamps, high h);
}

cut_here : (r : Rates) (l : PaymentLoad) → IsCut (raw_of r l) (asked_of r l) l.has_presets
cut_here r l = let h = raised l.has_presets (raw_of r l) in cut (raw_of r l) (asked_of r l) l.has_presets h.0 h.1 h.2

-- ---- the target where it isn't cut

uncut : (x : ℤ) → int_min x (pos 1_000_000_000_000_000_000) ≤ℤ pos 999_999_999_999_999_999 → int_min x (pos 1_000_000_000_000_000_000) ≡ x
uncut x h = omega (arith, ints, clamps, h)

whole : (x : ℤ) → x ≤ℤ pos 1_000_000_000_000_000_000 → int_min x (pos 1_000_000_000_000_000_000) ≡ x
whole x h = omega (arith, ints, clamps, h)

-- a target that coins can bring is what is asked
pub target_asked : (r : Rates) (l : PaymentLoad) → target_of r l ≤ℤ pos 999_999_999_999_999_999 → target_of r l ≡ asked_of r l
target_asked r l h = uncut (asked_of r l) h

-- what can be brought is the target
pub asked_target : (r : Rates) (l : PaymentLoad) → asked_of r l ≤ℤ pos 1_000_000_000_000_000_000 → target_of r l ≡ asked_of r l
asked_target r l h = whole (asked_of r l) h

pub some_asked : (r : Rates) (l : PaymentLoad) → pos 1 ≤ℤ asked_of r l → pos 1 ≤ℤ target_of r l
some_asked r l h = omega (arith, ints, clamps, h)

-- a weight beside others is within what these leave exactly where all are within the whole
within : (whole a b w : ℕ) → 1 ≤ w → w ≤ whole - a - b ↔ a + b + w ≤ whole
within whole a b w h = (λ g. omega (arith, h, g), λ g. omega (arith, h, g))

within_more : (whole a b c w : ℕ) → 1 ≤ w → w ≤ whole - a - b - c ↔ a + b + w + c ≤ whole
within_more whole a b c w h = (λ g. omega (arith, h, g), λ g. omega (arith, h, g))

pub terms_agree : (r : Rates) (l : PaymentLoad) → TermsAgree r l (terms_of r l)
unfolding terms_of
terms_agree r l =
    record {
      order = omega (arith, ints);
      gap = omega (arith, ints);
      least = omega (arith, ints);
      big = omega (arith, ints);
      most = (cut_here r l).most;
      raw = (cut_here r l).raw_is;
      some = (cut_here r l).some;
      raised = λ e. (cut_here r l).raised (omega (arith, ints, e));
      fee = refl;
      spend = refl;
      worth = omega (arith);
      no_dust = omega (arith);
      no_less = λ n h g. omega (arith, h, g);
      aimed = omega (arith, ints);
      aims = λ n h g. omega (arith, ints, h, g);
      plain = λ w h. within 400_000 (base_of l) l.preset_weight w h;
      change = λ w h. within_more 400_000 (base_of l) l.preset_weight (4 * l.change_size) w h;
    }

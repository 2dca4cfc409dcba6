-- What the presets alone come to.
use Rattle.std.specs.Prelude.{ℕ, ℤ, pos, ◌≤ℤ◌, ◌≡◌, ◌≤◌, ◌<◌, ◌+◌, ◌-◌, ◌-ℤ◌, ◌↔◌, if◌then◌else◌, ◌==◌, int_le, not, Bool, true, false, cond, length, List, [], ◌∷◌, Some, None}
use Rattle.std.specs.Int.{int_max, int_min}
use Rattle.std.proofs.Common.{refl, sym, ap, subst, ◌∙◌, arith}
use Rattle.std.proofs.lemmas.Bool.{and_from, and_parts, eqb-true}
use Rattle.std.proofs.lemmas.Int.{clamps, ints}
use Rattle.closing_log.specs.declared.mark.Mark.TheVariants as mark
use Rattle.search_run.specs.declared.ending.End.TheVariants as ends
use Rattle.fund_steps.proofs.TermLaws.{met_where}
use Rattle.fee_rates.specs.Fee.{fee_of, vsize_of}
use Rattle.fee_rates.specs.Terms.{base_of, target_of}
use Rattle.request_text.specs.PlainRequest.{paid_to}
use Rattle.coin_candidates.specs.declared.candidate.Candidate.{Candidate}
use Rattle.fund_steps.specs.Amounts.{charges_of, value_of}
use Rattle.fund_steps.specs.Listed.{burden_in, presets_in}
use Rattle.fund_steps.specs.Plan.{IsPlan, PlainPlan}
use Rattle.fund_steps.specs.Presets.{presets_of}
use Rattle.fund_steps.specs.Terms.{load_of, rates_of}
use Rattle.fund_steps.specs.declared.presets.Presets.{Presets}
use Rattle.fund_steps.specs.declared.presets.Presets.TheVariants.{Short, Plain, Change}
use Rattle.fund_plan.specs.Answer.{AnswersAlone, given_from}
use Rattle.fund_plan.specs.Claims.{BringAll}
use Rattle.fund_plan.specs.Outcome.{by_end, by_presets, given_of}
use Rattle.fund_plan.specs.Selection.{PlainFunded}
use Rattle.fund_plan.specs.Steps.{is_given}
use Rattle.fund_plan.specs.declared.outcome.Outcome.{Outcome}
use Rattle.fund_plan.specs.declared.outcome.Outcome.TheVariants as answers
use Rattle.fund_plan.proofs.AnswerLaws.{given_means}

pub same_funded : (a b : PlainFunded) → answers.Funded a ≡ answers.Funded b → a ≡ b
same_funded a b e = cc

pub given_mark : (p : PlainPlan) (f : PlainFunded) → given_of p ≡ answers.Funded f → f.mark ≡ mark.Given
unfolding given_of
given_mark p f e = by (presets_of (rates_of p.request) (load_of p.request p.change (presets_in p) (burden_in p))) e
  where
    by : (d : Presets) → by_presets p d ≡ answers.Funded f → f.mark ≡ mark.Given
    by Short e = absurd (cc)
    by Plain e = ap (λ (x : PlainFunded). x.mark) (sym (same_funded (given_from p (presets_in p) None) f e))
    by (Change amount) e = ap (λ (x : PlainFunded). x.mark) (sym (same_funded (given_from p (presets_in p) (Some amount)) f e))

pub never_open : (p : PlainPlan) → given_of p ≡ answers.Unfinished → ⊥
unfolding given_of
never_open p e = by (presets_of (rates_of p.request) (load_of p.request p.change (presets_in p) (burden_in p))) e
  where
    by : (d : Presets) → by_presets p d ≡ answers.Unfinished → ⊥
    by Short e = cc
    by Plain e = cc
    by (Change amount) e = cc

-- where the presets don't bring all that is needed they don't pay alone
given_short : (p : PlainPlan) → is_given p ≡ false → given_of p ≡ answers.NoSelection
unfolding given_of load_of
given_short p e = by (presets_of (rates_of p.request) (load_of p.request p.change (presets_in p) (burden_in p))) refl
  where
    no_met : (d : Presets) → presets_of (rates_of p.request) (load_of p.request p.change (presets_in p) (burden_in p)) ≡ d → (d ≡ Short → ⊥) → ⊥
    no_met d is other = let met = met_where (rates_of p.request) (load_of p.request p.change (presets_in p) (burden_in p)) (λ s. other (sym is ∙ s)) in let both : true ≡ false = sym met ∙ e in cc

    by : (d : Presets) → presets_of (rates_of p.request) (load_of p.request p.change (presets_in p) (burden_in p)) ≡ d → by_presets p d ≡ answers.NoSelection
    by Short is = refl
    by Plain is = absurd (no_met Plain is (λ s. cc))
    by (Change amount) is = absurd (no_met (Change amount) is (λ s. cc))

-- the presets alone are what a run without a result comes to
given_by : (p : PlainPlan) (b : Bool) → is_given p ≡ b → cond b (given_of p) answers.NoSelection ≡ given_of p
given_by p true is = refl
given_by p false is = sym (given_short p is)

pub ended_none : (p : PlainPlan) → by_end p (ends.Ended None) ≡ given_of p
ended_none p = given_by p (is_given p) refl

pub alone_means : (p : PlainPlan) (o : Outcome) → IsPlan p → by_end p (ends.Ended None) ≡ o → AnswersAlone p o
alone_means p o h e = subst (AnswersAlone p) (sym (ended_none p) ∙ e) (given_means p h)

-- they bring all that is due exactly where nothing is searched for, at plain numbers
brings_all : (paid base burden value fees : ℕ) → int_le (pos (paid + base + burden) -ℤ (pos value -ℤ pos fees)) (pos 0) ≡ true → paid + base + fees + burden + 0 ≤ value
brings_all paid base burden value fees e = grind (arith, ints, e)

all_brought : (paid base burden value fees : ℕ) → paid + base + fees + burden + 0 ≤ value → int_le (pos (paid + base + burden) -ℤ (pos value -ℤ pos fees)) (pos 0) ≡ true
all_brought paid base burden value fees h = grind (arith, ints, h)

-- a target that is cut is nothing where the whole is
below_cut : (x : ℤ) → int_le (int_min x (pos 1_000_000_000_000_000_000)) (pos 0) ≡ true → int_le x (pos 0) ≡ true
below_cut x e = no_more x (uncut x (low (int_min x (pos 1_000_000_000_000_000_000)) e))
  where
    low : (z : ℤ) → int_le z (pos 0) ≡ true → z ≤ℤ pos 0
    low z e = grind (arith, ints, e)

    uncut : (x : ℤ) → int_min x (pos 1_000_000_000_000_000_000) ≤ℤ pos 0 → x ≤ℤ pos 0
    uncut x h = omega (arith, ints, clamps, h)

    no_more : (z : ℤ) → z ≤ℤ pos 0 → int_le z (pos 0) ≡ true
    no_more z h = grind (arith, ints, h)

cut_below : (x : ℤ) → int_le x (pos 0) ≡ true → int_le (int_min x (pos 1_000_000_000_000_000_000)) (pos 0) ≡ true
cut_below x e = no_more (int_min x (pos 1_000_000_000_000_000_000)) (cut x (low x e))
  where
    low : (z : ℤ) → int_le z (pos 0) ≡ true → z ≤ℤ pos 0
    low z e = grind (arith, ints, e)

    cut : (x : ℤ) → x ≤ℤ pos 0 → int_min x (pos 1_000_000_000_000_000_000) ≤ℤ pos 0
    cut x h = omega (arith, ints, clamps, h)

    no_more : (z : ℤ) → z ≤ℤ pos 0 → int_le z (pos 0) ≡ true
    no_more z h = grind (arith, ints, h)

brings_by : (b : Bool) (paid base burden value fees rest : ℕ) → b ≡ true
    → int_le (int_min (if b then pos (paid + base + burden) -ℤ (pos value -ℤ pos fees) else int_max (pos (paid + base + burden) -ℤ (pos value -ℤ pos fees)) (pos 1)) (pos 1_000_000_000_000_000_000)) (pos 0) ≡ true
    → paid + base + fees + burden + (if b then 0 else rest) ≤ value
brings_by true paid base burden value fees rest t e = brings_all paid base burden value fees (below_cut (pos (paid + base + burden) -ℤ (pos value -ℤ pos fees)) e)
brings_by false paid base burden value fees rest t e = absurd (cc)

brought_by : (b : Bool) (paid base burden value fees rest : ℕ) → b ≡ true → paid + base + fees + burden + (if b then 0 else rest) ≤ value
    → int_le (int_min (if b then pos (paid + base + burden) -ℤ (pos value -ℤ pos fees) else int_max (pos (paid + base + burden) -ℤ (pos value -ℤ pos fees)) (pos 1)) (pos 1_000_000_000_000_000_000)) (pos 0) ≡ true
brought_by true paid base burden value fees rest t h = cut_below (pos (paid + base + burden) -ℤ (pos value -ℤ pos fees)) (all_brought paid base burden value fees h)
brought_by false paid base burden value fees rest t h = absurd (cc)

some_given : (coins : List Candidate) → not (length coins == 0) ≡ true → 0 < length coins
some_given [] e = absurd (cc)
some_given (c ∷ coins) e = omega arith

given_some : (coins : List Candidate) → 0 < length coins → not (length coins == 0) ≡ true
given_some coins some = by (length coins == 0) refl
  where
    by : (b : Bool) → (length coins == 0) ≡ b → not b ≡ true
    by true is = let none = eqb-true (length coins) 0 is in absurd (omega (arith, some))
    by false is = refl

abbrev base_fee : PlainPlan → ℕ
base_fee p = fee_of p.request.rate (vsize_of (base_of (load_of p.request p.change (presets_in p) (burden_in p))))

pub given_brings : (p : PlainPlan) → is_given p ≡ true → BringAll p
unfolding load_of
given_brings p e =
    let r = p.request in
    let given = presets_in p in
    let both = and_parts (not (length given == 0)) (int_le (target_of (rates_of r) (load_of r p.change given (burden_in p))) (pos 0)) e in
    record {
      some = some_given given both.0;
      enough = brings_by (not (length given == 0)) (paid_to r.recipients) (base_fee p) (burden_in p) (value_of given) (charges_of r.rate given) (1 - (paid_to r.recipients + base_fee p + burden_in p)) both.0 both.1;
    }

brings_given : (p : PlainPlan) → BringAll p → is_given p ≡ true
unfolding load_of
brings_given p b =
    let r = p.request in
    let given = presets_in p in
    let some = given_some given b.some in
    and_from (not (length given == 0)) (int_le (target_of (rates_of r) (load_of r p.change given (burden_in p))) (pos 0)) some
    (brought_by (not (length given == 0)) (paid_to r.recipients) (base_fee p) (burden_in p) (value_of given) (charges_of r.rate given) (1 - (paid_to r.recipients + base_fee p + burden_in p)) some b.enough)

pub given_where : (p : PlainPlan) → (is_given p ≡ true ↔ BringAll p)
given_where p = (given_brings p, brings_given p)

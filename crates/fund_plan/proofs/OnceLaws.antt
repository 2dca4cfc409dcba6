-- A plan has one outcome.
use Rattle.std.specs.Prelude.{ℕ, ◌≡◌, ◌≤◌, ◌+◌, ◌↔◌, List, Option, Some, None}
use Rattle.std.proofs.Common.{refl, sym, ap, subst, ◌∙◌, arith}
use Rattle.coin_candidates.specs.declared.candidate.Candidate.{Candidate}
use Rattle.tx_codec.specs.Transaction.{Transaction}
use Rattle.fee_rates.specs.Fee.{fee_of, vsize_of}
use Rattle.fee_rates.specs.Terms.{base_of, change_fee_of, change_least_of}
use Rattle.request_text.specs.PlainRequest.{paid_to}
use Rattle.fund_steps.specs.Amounts.{charges_of, value_of}
use Rattle.fund_plan.specs.Answer.{AnswersAlone, PaysAlone, given_from}
use Rattle.fund_plan.specs.Pays.{raised_of}
use Rattle.fund_plan.specs.Selection.{PlainFunded}
use Rattle.fund_steps.specs.Listed.{burden_in}
use Rattle.fund_steps.specs.Plan.{IsPlan, PlainPlan}
use Rattle.fund_steps.specs.Terms.{load_of, rates_of}
use Rattle.fund_plan.specs.declared.outcome.Outcome.{Outcome}
use Rattle.fund_plan.specs.declared.outcome.Outcome.TheVariants.{Funded, NoSelection, Unfinished}
use Rattle.fund_plan.specs.Outcome.{given_of}
use Rattle.fund_plan.proofs.AnswerLaws.{given_means}
use Rattle.fund_plan.proofs.PaysLaws.{sum_plain, sum_change}
use Rattle.fund_steps.proofs.BumpLaws.{one_presets}

-- ---- the change is told by the coins

clash : (paid n base fees burden raised value cf cl : ℕ) → value + 1 ≤ paid + base + fees + burden + raised + cf + cl → value ≡ paid + n + base + fees + burden + raised + cf → cl ≤ n → ⊥
clash paid n base fees burden raised value cf cl a b c = absurd (omega arith)

together : (paid n m base fees burden raised value cf : ℕ) → value ≡ paid + n + base + fees + burden + raised + cf → value ≡ paid + m + base + fees + burden + raised + cf → n ≡ m
together paid n m base fees burden raised value cf a b = omega arith

-- not both without change and with one
apart : (p : PlainPlan) (coins : List Candidate) (n : ℕ) (t u : Transaction) → PaysAlone p coins None t → PaysAlone p coins (Some n) u → ⊥
apart p coins n t u x y =
    let l = load_of p.request p.change coins (burden_in p) in
    let plain = rw (sum_plain p.request.recipients t.outputs x.outputs) at x.fee in
    let changed = rw (sum_change p.request.recipients u.outputs (record { value = n; script = p.change.script }) y.outputs) at y.fee in
    clash (paid_to p.request.recipients) n (fee_of p.request.rate (vsize_of (base_of l))) (charges_of p.request.rate coins) l.burden (raised_of p.request.rate l) (value_of coins) (change_fee_of (rates_of p.request) l) (change_least_of (rates_of p.request) l) plain.1 changed y.change_worth

one_change : (p : PlainPlan) (coins : List Candidate) (a b : Option ℕ) (t u : Transaction) → PaysAlone p coins a t → PaysAlone p coins b u → a ≡ b
one_change p coins None None t u x y = refl
one_change p coins None (Some n) t u x y = absurd (apart p coins n t u x y)
one_change p coins (Some n) None t u x y = absurd (apart p coins n u t y x)
one_change p coins (Some n) (Some m) t u x y =
    let l = load_of p.request p.change coins (burden_in p) in
    let first = rw (sum_change p.request.recipients t.outputs (record { value = n; script = p.change.script }) x.outputs) at x.fee in
    let second = rw (sum_change p.request.recipients u.outputs (record { value = m; script = p.change.script }) y.outputs) at y.fee in
    ap (λ (k : ℕ). Some k) (together (paid_to p.request.recipients) n m (fee_of p.request.rate (vsize_of (base_of l))) (charges_of p.request.rate coins) l.burden (raised_of p.request.rate l) (value_of coins) (change_fee_of (rates_of p.request) l) first second)

-- ---- the outcome

with_coins : (p : PlainPlan) (xs ys : List Candidate) (amount : Option ℕ) (t : Transaction) → xs ≡ ys → PaysAlone p xs amount t → PaysAlone p ys amount t
with_coins p xs ys amount t e h = subst (λ (l : List Candidate). PaysAlone p l amount t) e h

pub one_outcome : (p : PlainPlan) (a b : Outcome) → IsPlan p → AnswersAlone p a → AnswersAlone p b → a ≡ b
one_outcome p Unfinished b h x y = absurd x
one_outcome p NoSelection Unfinished h x y = absurd y
one_outcome p (Funded f) Unfinished h x y = absurd y
one_outcome p NoSelection NoSelection h x y = refl
one_outcome p NoSelection (Funded g) h x y = absurd (x.2 g.change _ (with_coins p g.coins x.0 g.change _ (one_presets p g.coins x.0 h y.0 x.1) y.1))
one_outcome p (Funded f) NoSelection h x y = absurd (y.2 f.change _ (with_coins p f.coins y.0 f.change _ (one_presets p f.coins y.0 h x.0 y.1) x.1))
one_outcome p (Funded f) (Funded g) h x y =
    let coins = one_presets p f.coins g.coins h x.0 y.0 in
    let change = one_change p g.coins f.change g.change _ _ (with_coins p f.coins g.coins f.change _ coins x.1) y.1 in
    ap (λ (k : PlainFunded). Funded k) (x.2 ∙ ap (λ (cs : List Candidate). given_from p cs f.change) coins ∙ ap (λ (o : Option ℕ). given_from p g.coins o) change ∙ sym y.2)

-- what is reckoned is the outcome
pub outcome_where : (p : PlainPlan) (o : Outcome) → IsPlan p → (AnswersAlone p o ↔ (o ≡ given_of p))
outcome_where p o h = (
  λ a. one_outcome p o (given_of p) h a (given_means p h),
  λ e. subst (AnswersAlone p) (sym e) (given_means p h),
)

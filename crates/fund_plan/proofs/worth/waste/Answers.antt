use Rattle.std.specs.Prelude.{ℕ, ℤ, pos, neg_ℤ, ◌≡◌, ◌≤◌, ◌≤ℤ◌, ◌+ℤ◌, ◌-ℤ◌}
use Rattle.std.proofs.Common.{arith, ap, ◌∙◌}
use Rattle.std.proofs.lemmas.Int.{ints}
use Rattle.fee_rates.specs.Terms.{change_fee_of, change_spend_of}
use Rattle.fee_rates.specs.declared.terms.Rates.{Rates}
use Rattle.fund_steps.specs.Amounts.{charges_of, fees_of, value_of}
use Rattle.request_text.specs.PlainRequest.{paid_to}
use Rattle.fund_plan.specs.Figures.{cost_of}
use Rattle.fund_plan.specs.Pays.{due_of}
use Rattle.fund_plan.proofs.worth.waste.Goals as goal
use mir.Syntax.{w128}
use mir.Val.{to_z, of_z}

none_is : (a b d x : ℤ) (v u : ℕ) → neg_ℤ (pos 1_000_000_000_000_000) ≤ℤ a → a ≤ℤ pos 210_001_000_000_000_000_000 → v ≤ 2_100_000_000_000_000 → u ≤ 220_000_000_000_000_000_000 → a ≡ x → b ≡ pos v → d ≡ pos u
    → to_z w128 (of_z w128 (to_z w128 (of_z w128 a) +ℤ to_z w128 (of_z w128 (to_z w128 (of_z w128 b) -ℤ to_z w128 (of_z w128 d))))) ≡ x +ℤ (pos v -ℤ pos u)
none_is a b d x v u low high value due p q r = omega (arith, ints)

some_is : (a b x : ℤ) (n : ℕ) → neg_ℤ (pos 1_000_000_000_000_000) ≤ℤ a → a ≤ℤ pos 210_001_000_000_000_000_000 → n ≤ 100_010_000_000_000 → a ≡ x → b ≡ pos n
    → to_z w128 (of_z w128 (to_z w128 (of_z w128 a) +ℤ to_z w128 (of_z w128 b))) ≡ x +ℤ pos n
some_is a b x n low high most p q = omega (arith, ints)

pub returns-in-None : goal.returns-in-None
returns-in-None c = λ r e paid.
    let coins = c.args.coins.now in
    let l = c.args.load.now in
    let k = c.cost-cost.ensures in
    let cost = k.value ∙ ap (λ (x : Rates). pos (charges_of x.rate coins) -ℤ pos (fees_of x.long_term coins)) e in
    let worth = c.from.ensures ∙ ap pos c.value.ensures.value in
    let due = c.due.ensures.value ∙ ap (λ (x : Rates). due_of x.rate l coins l.paid) e ∙ ap (due_of r.rate l coins) paid in
    rw c.in-None.is (none_is c.cost-cost.result c.from.result (pos c.due.result) (cost_of r coins) (value_of coins) (due_of r.rate l coins (paid_to r.recipients)) k.low k.high (omega (arith, c.value.ensures.most, c.value.ensures.value)) (omega (arith, c.due.ensures.most, due)) cost worth (ap pos due))

pub returns-in-Some : goal.returns-in-Some
returns-in-Some c = λ r e paid.
    let coins = c.args.coins.now in
    let l = c.args.load.now in
    let k = c.cost-cost.ensures in
    let t = c.new-terms.ensures in
    let cost = k.value ∙ ap (λ (x : Rates). pos (charges_of x.rate coins) -ℤ pos (fees_of x.long_term coins)) e in
    let fee = t.change_fee ∙ ap (λ (x : Rates). change_fee_of x l) e in
    let spend = t.change_spend ∙ ap (λ (x : Rates). change_spend_of x l) e in
    rw c.in-Some.is (some_is c.cost-cost.result c.from-in-Some.result (cost_of r coins) _ k.low k.high (omega (arith, t.change_fee_most, t.change_spend_most, fee, spend)) cost (c.from-in-Some.ensures ∙ ap pos (omega (arith, fee, spend))))

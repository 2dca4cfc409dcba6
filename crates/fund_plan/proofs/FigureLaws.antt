-- The figures of a payment add up.
use Rattle.std.specs.Prelude.{ℕ, ℤ, pos, ◌≡◌, ◌+◌, ◌-◌, ◌*◌, ◌≤◌, ◌+ℤ◌, ◌-ℤ◌, List, Option, Some, None}
use Rattle.std.proofs.Common.{arith, ap, ◌∙◌}
use Rattle.std.proofs.lemmas.Int.{ints}
use Rattle.coin_candidates.specs.declared.candidate.Candidate.{Candidate}
use Rattle.tx_codec.specs.Transaction.{Transaction}
use Rattle.fee_rates.specs.Fee.{fee_of, vsize_of}
use Rattle.fee_rates.specs.Terms.{base_of, change_fee_of, change_spend_of}
use Rattle.fee_rates.specs.declared.terms.PaymentLoad.{PaymentLoad}
use Rattle.request_text.specs.PlainRequest.{PlainRequest, paid_to}
use Rattle.wallet_text.specs.declared.wallet.Watch.{Watch}
use Rattle.fund_steps.specs.Amounts.{charges_of, fees_of, value_of}
use Rattle.fund_steps.specs.Plan.{PlainPlan}
use Rattle.fund_steps.specs.Terms.{rates_of}
use Rattle.fund_plan.specs.Answer.{IsPayment}
use Rattle.fund_plan.specs.Chosen.{load_for}
use Rattle.fund_plan.specs.Figures.{AddUp, figures_of, spending_of, waste_of}
use Rattle.fund_plan.specs.Pays.{Pays, outputs_of, payment_from, payment_of, payment_weight, raised_of}
use Rattle.fund_plan.specs.Selection.{PlainFunded}
use Rattle.fund_plan.proofs.PaysLaws.{outputs_sum, pays_within, sum_change, sum_plain}

-- the waste at plain numbers
plain_waste : (paid base fees later burden raised value : ℕ) → paid + base + fees + burden + raised ≤ value
    → ((pos fees -ℤ pos later) +ℤ (pos value -ℤ pos (paid + base + fees + burden + raised))) +ℤ pos (base + later + burden + raised) ≡ pos ((value - paid) + 0)
plain_waste paid base fees later burden raised value due = omega (arith, ints, due)

change_waste : (paid amount base fees later burden raised value cf spend : ℕ) → value ≡ paid + amount + base + fees + burden + raised + cf
    → ((pos fees -ℤ pos later) +ℤ pos (cf + spend)) +ℤ pos (base + later + burden + raised) ≡ pos ((value - (paid + amount)) + spend)
change_waste paid amount base fees later burden raised value cf spend due = omega (arith, ints, due)

wastes : (r : PlainRequest) (w : Watch) (l : PaymentLoad) (coins : List Candidate) (amount : Option ℕ) (t : Transaction) → Pays r w l coins amount t
    → waste_of r l coins amount +ℤ pos (fee_of r.rate (vsize_of (base_of l)) + fees_of r.long_term coins + l.burden + raised_of r.rate l) ≡ pos ((value_of coins - outputs_of r amount) + spending_of r l amount)
wastes r w l coins None t p =
    let fee = rw (sum_plain r.recipients t.outputs p.outputs) at p.fee in
    plain_waste (paid_to r.recipients) (fee_of r.rate (vsize_of (base_of l))) (charges_of r.rate coins) (fees_of r.long_term coins) l.burden (raised_of r.rate l) (value_of coins) fee.0
wastes r w l coins (Some amount) t p =
    let fee = rw (sum_change r.recipients t.outputs (record { value = amount; script = w.script }) p.outputs) at p.fee in
    change_waste (paid_to r.recipients) amount (fee_of r.rate (vsize_of (base_of l))) (charges_of r.rate coins) (fees_of r.long_term coins) l.burden (raised_of r.rate l) (value_of coins) (change_fee_of (rates_of r) l) (change_spend_of (rates_of r) l) fee

quarter : (w : ℕ) → (w ≤ 4 * vsize_of w) × (4 * vsize_of w ≤ w + 3)
unfolding vsize_of
quarter w = (omega arith, omega arith)

pub figures_agree : (p : PlainPlan) (f : PlainFunded) → IsPayment p f → AddUp p.request p.change (load_for p f.row) f (figures_of p.request f)
unfolding payment_from
figures_agree p f a =
    let r = p.request in
    let w = p.change in
    let l = load_for p f.row in
    let t = payment_of r w f in
    let within = pays_within r w l f.coins f.change t a.pays in
    let sum = outputs_sum r w f.change in
    let rate : fee_of r.rate (vsize_of f.weight) ≡ fee_of r.rate (vsize_of (payment_weight l f.coins f.change)) = ap (λ (n : ℕ). fee_of r.rate (vsize_of n)) a.weight_is in
    record {
      money = omega (arith, sum, within);
      rate = omega (arith, sum, within, rate, a.pays.fee_covers);
      prices = omega (arith, sum, within, rate, a.pays.fee_covers);
      size = quarter f.weight;
      light = omega (arith, a.weight_is, a.pays.weight);
      waste =
          ap (λ (z : ℤ). z +ℤ pos (fee_of r.rate (vsize_of (base_of l)) + fees_of r.long_term f.coins + l.burden + raised_of r.rate l)) a.waste_is
          ∙ wastes r w l f.coins f.change t a.pays;
    }

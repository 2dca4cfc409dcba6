-- Weight, fee and waste of a payment.
use Rattle.std.specs.Prelude.{ℕ, ℤ, pos, ◌≡◌, ◌≤◌, ◌+◌, ◌-◌, ◌*◌, ◌+ℤ◌, ◌-ℤ◌, List, sum_by, Option, Some, None}
use Rattle.coin_candidates.specs.declared.candidate.Candidate.{Candidate}
use Rattle.tx_codec.specs.declared.tx.TxOut.{TxOut}
use Rattle.fee_rates.specs.Fee.{fee_of, vsize_of}
use Rattle.fee_rates.specs.Terms.{base_of, change_fee_of, change_spend_of}
use Rattle.fee_rates.specs.declared.terms.PaymentLoad.{PaymentLoad}
use Rattle.request_text.specs.PlainRequest.{PlainRequest, paid_to}
use Rattle.wallet_text.specs.declared.wallet.Watch.{Watch}
use Rattle.fund_steps.specs.Amounts.{charges_of, fees_of, prices_of, value_of}
use Rattle.fund_plan.specs.Pays.{due_of, outputs_of, payment_of, raised_of}
use Rattle.fund_plan.specs.Selection.{PlainFunded}
use Rattle.fund_steps.specs.Terms.{rates_of}
use Rattle.fund_plan.specs.declared.figures.Figures.{Figures}

-- what it costs to spend coins now and not in the long run: the fees of their inputs now and their prices, less the fees of
-- these inputs in the long run
abbrev pub cost_of : PlainRequest → List Candidate → ℤ
cost_of r coins = pos (charges_of r.rate coins) -ℤ pos (fees_of r.long_term coins)

-- what coins bring beyond what is due where there is no change
abbrev pub excess_of : PlainRequest → PaymentLoad → List Candidate → ℤ
excess_of r l coins = pos (value_of coins) -ℤ pos (due_of r.rate l coins (paid_to r.recipients))

-- The waste of a payment: the cost of its coins, and that of making and spending the change, or the excess where there
-- is none (Bitcoin Core, `RecalculateWaste`).
abbrev pub waste_of : PlainRequest → PaymentLoad → List Candidate → Option ℕ → ℤ
waste_of r l coins None = cost_of r coins +ℤ excess_of r l coins
waste_of r l coins (Some amount) = cost_of r coins +ℤ pos (change_fee_of (rates_of r) l + change_spend_of (rates_of r) l)

-- What a payment comes to. Its fee is what the coins are worth less what the outputs take.
abbrev pub figures_of : PlainRequest → PlainFunded → Figures
figures_of r f = record {
  weight = f.weight;
  vsize = vsize_of f.weight;
  fee = value_of f.coins - outputs_of r f.change;
  waste = f.waste;
}

-- what the spending of the change costs later, where there is any
abbrev pub spending_of : PlainRequest → PaymentLoad → Option ℕ → ℕ
spending_of r l None = 0
spending_of r l (Some amount) = change_spend_of (rates_of r) l

-- How the figures of a payment stand to its money. What the coins are worth goes to the outputs and the fee. The fee is no
-- less than that of the virtual size at the rate and the prices of the coins together, and that size is a quarter of the
-- weight, rounded up. The waste is what
-- the fee is above the fee of the base and of the same inputs at the long-term rate, the burden of a replacement and the 1
-- by which the target may be raised, and what the change's spending costs. The load is what the payment is to carry.
pub record AddUp (r : PlainRequest) (change : Watch) (l : PaymentLoad) (f : PlainFunded) (g : Figures) : Type 0 where
  pub money : value_of f.coins ≡ sum_by (λ (o : TxOut). o.value) (payment_of r change f).outputs + g.fee
  pub rate : fee_of r.rate g.vsize ≤ g.fee
  pub prices : fee_of r.rate g.vsize + prices_of f.coins ≤ g.fee
  pub size : (g.weight ≤ 4 * g.vsize) × (4 * g.vsize ≤ g.weight + 3)
  pub light : g.weight ≤ 400_000
  pub waste : g.waste +ℤ pos (fee_of r.rate (vsize_of (base_of l)) + fees_of r.long_term f.coins + l.burden + raised_of r.rate l) ≡ pos (g.fee + spending_of r l f.change)

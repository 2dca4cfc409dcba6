-- A payment has a text.
use Rattle.std.specs.Prelude.{◌<◌, length, All}
use Rattle.std.proofs.Common.{arith}
use Rattle.tx_codec.specs.TransactionText.{IsTransaction}
use Rattle.fund_steps.specs.Plan.{IsPlan, PlainPlan}
use Rattle.fund_plan.specs.Answer.{IsPayment}
use Rattle.fund_plan.specs.Chosen.{load_for}
use Rattle.fund_plan.specs.Pays.{payment_of}
use Rattle.fund_plan.specs.Selection.{PlainFunded}
use Rattle.fund_plan.specs.Weighed.{HasOutpoint}
use Rattle.fund_plan.proofs.PaymentLaws.{outputs_few, outputs_fit, payment_text, points_fit, recipients_few}
use Rattle.fund_plan.proofs.PaysLaws.{pays_within}
use Rattle.fund_plan.proofs.WeightLaws.{load_is}

pub answer_text : (p : PlainPlan) (f : PlainFunded) → IsPlan p → IsPayment p f → 0 < length f.coins → All HasOutpoint f.coins → IsTransaction (payment_of p.request p.change f)
answer_text p f h a some points =
    let r = p.request in
    let money = pays_within r p.change (load_for p f.row) f.coins f.change _ a.pays in
    let few = recipients_few r p.change (load_for p f.row) f.coins f.change (load_is p f.row) a.pays.weight in
    payment_text r p.change f h.request.locktime h.request.some some (omega (arith, a.coins.count)) (omega (arith, money, a.coins.value)) (points_fit r f.coins points)
    (outputs_fit r p.change f.change h.request h.change) (omega (arith, few, outputs_few r p.change f.change))

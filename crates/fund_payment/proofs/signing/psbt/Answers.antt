use Rattle.std.proofs.Common.{◌∙◌, ap}
use Rattle.fund_plan.specs.Selection.{PlainFunded}
use Rattle.fund_payment.proofs.ParentLaws.{psbt_made}
use Rattle.fund_payment.proofs.signing.psbt.Goals as goal

pub returns-clause-fits : goal.returns-clause-fits
returns-clause-fits c =
    psbt_made _ c.args.request.now _ c.args.funded.now c.deref.result.now c.in_ok-tx.tx c.in_ok-spent.spent.items (c.deref.ensures.value ∙ ap (λ (f : PlainFunded). f.coins) c.funded.view_is) c.in_ok-tx.ensures.value c.in_ok-spent.ensures.value c.in_ok-tx.ensures.text
    (c.pays_in_text.ensures.bare c.args.request.now _ c.args.funded.now) c.in_ok-spent.ensures.fits

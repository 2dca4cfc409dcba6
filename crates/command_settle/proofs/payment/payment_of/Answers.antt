use Rattle.std.proofs.Common.{◌∙◌, ℕ, List, ap, subst}
use Rattle.std.proofs.lemmas.Result.{err_from_is_err_and}
use Rattle.fund_report.specs.PlainFunded.{PlainFunded}
use Rattle.psbt_codec.specs.Text.{IsPsbtText}
use Rattle.command_settle.proofs.StopLaws.{form_stops_all, text_stops_all, value_stops_all}
use Rattle.command_settle.specs.Payment.{HasPayment}
use Rattle.command_settle.specs.Stops.{IsTextFault, StopsBy}
use Rattle.command_settle.proofs.payment.payment_of.Goals as goal

pub returns-in_err-funded-clause-stop : goal.returns-in_err-funded-clause-stop
returns-in_err-funded-clause-stop c =
    let p = err_from_is_err_and c.from_residual.result c.from_residual.ensures.1 in
    rw (p.1, p.2) (form_stops_all c.args.report.now c.args.scripts.now c.in_err-funded.field-0.0 c.in_err-funded.ensures.stop)

pub returns-in_err-psbt-clause-stop : goal.returns-in_err-psbt-clause-stop
returns-in_err-psbt-clause-stop c =
    let p = err_from_is_err_and c.from_residual-in_err-psbt.result c.from_residual-in_err-psbt.ensures.1 in
    let text = c.deref.ensures.value ∙ ap (λ (f : PlainFunded). f.text) c.funded.view_is in
    rw (p.1, p.2) (text_stops_all c.args.report.now c.args.scripts.now c.in_ok-funded.funded c.in_ok-funded.ensures.report c.in_err-psbt.field-0.0 (subst (λ (b : List ℕ). StopsBy (IsTextFault b) c.in_err-psbt.field-0.0) text c.in_err-psbt.ensures.stop))

pub returns-in_err-spent-clause-stop : goal.returns-in_err-spent-clause-stop
returns-in_err-spent-clause-stop c =
    let p = err_from_is_err_and c.from_residual-in_err-spent.result c.from_residual-in_err-spent.ensures.1 in
    let text = c.deref.ensures.value ∙ ap (λ (f : PlainFunded). f.text) c.funded.view_is in
    let has : HasPayment c.args.report.now c.in_ok-psbt.psbt = (c.in_ok-funded.funded, c.in_ok-funded.ensures.report, subst (λ (b : List ℕ). IsPsbtText b c.in_ok-psbt.psbt) text c.in_ok-psbt.ensures.psbt) in
    rw (p.1, p.2) (value_stops_all c.args.report.now c.args.scripts.now c.in_ok-psbt.psbt has c.in_err-spent.field-0.0 c.in_err-spent.ensures.stop)

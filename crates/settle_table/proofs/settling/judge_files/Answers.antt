use Rattle.std.proofs.Common.{◌∙◌, ◌≡◌, ℕ, List, ap, subst, sym}
use Rattle.std.specs.Prelude.{IfErr, IfOk}
use Rattle.std.proofs.lemmas.Result.{err_from_is_err_and}
use Rattle.settle_check.specs.Broken.{IsSettleFault}
use Rattle.tx_codec.specs.Transaction.{Transaction}
use Rattle.wallet_text.specs.declared.wallet.Watch.{Watch}
use Rattle.command_settle.proofs.PaymentLaws.{declared_long, declared_within, spent_long}
use Rattle.command_settle.specs.Payment.{IsPayment, IsPaymentFault}
use Rattle.command_settle.specs.Stops.{StopsBy}
use Rattle.command_settle.specs.declared.files.Files.{Files}
use Rattle.settle_table.proofs.OnlyLaws.{judged_only, payment_only}
use Rattle.settle_table.proofs.StopLaws.{if_settle_stops, if_settled, payment_stops, signed_stops}
use Rattle.settle_table.specs.Forms.{Holds}
use Rattle.settle_table.specs.Outcome.{IsSettledBy}
use Rattle.settle_table.specs.Stops.{StopsAt, StopsBroken}
use Rattle.settle_table.proofs.settling.judge_files.Goals as goal

pub returns-in_err-signed-clause-stop : goal.returns-in_err-signed-clause-stop
returns-in_err-signed-clause-stop c =
    let p = err_from_is_err_and c.from_residual.result c.from_residual.ensures.1 in
    let tx : c.deref.result.now ≡ c.args.files.now.tx.items = c.deref.ensures.value ∙ ap (λ (f : Files). f.tx.items) c.files.view_is in
    rw (p.1, p.2) (signed_stops c.args.files.now.wallet c.args.files.now.request c.args.files.now.report.items c.args.files.now.tx.items c.in_err-signed.field-0.0 (subst (λ (b : List ℕ). StopsAt b c.in_err-signed.field-0.0) tx c.in_err-signed.ensures.stop))

pub returns-in_err-signed-clause-only : goal.returns-in_err-signed-clause-only
returns-in_err-signed-clause-only c = λ s inputs x.
    let p = err_from_is_err_and c.from_residual.result c.from_residual.ensures.1 in
    let tx : c.deref.result.now ≡ c.args.files.now.tx.items = c.deref.ensures.value ∙ ap (λ (f : Files). f.tx.items) c.files.view_is in
    rw (p.1, p.2) (c.in_err-signed.ensures.only x.signed (subst (λ (b : List ℕ). Holds b x.signed) (sym tx) x.holds))

pub returns-in_err-payment-clause-stop : goal.returns-in_err-payment-clause-stop
returns-in_err-payment-clause-stop c =
    let p = err_from_is_err_and c.from_residual-in_err-payment.result c.from_residual-in_err-payment.ensures.1 in
    let scripts : c.deref-2.result.now ≡ c.args.files.now.wallet.scripts = c.deref-2.ensures.value ∙ ap (λ (f : Files). f.wallet.scripts) c.files.view_is in
    let report : c.deref-3.result.now ≡ c.args.files.now.report.items = c.deref-3.ensures.value ∙ ap (λ (f : Files). f.report.items) c.files.view_is in
    let tx : c.deref.result.now ≡ c.args.files.now.tx.items = c.deref.ensures.value ∙ ap (λ (f : Files). f.tx.items) c.files.view_is in
    let holds : Holds c.args.files.now.tx.items c.in_ok-signed.signed = subst (λ (b : List ℕ). Holds b c.in_ok-signed.signed) tx c.in_ok-signed.ensures.signed in
    let stops = subst (λ (l : List Watch). StopsBy (IsPaymentFault c.args.files.now.report.items l) c.in_err-payment.field-0.0) scripts (subst (λ (b : List ℕ). StopsBy (IsPaymentFault b c.deref-2.result.now) c.in_err-payment.field-0.0) report c.in_err-payment.ensures.stop) in
    rw (p.1, p.2) (payment_stops c.args.files.now.wallet c.args.files.now.request c.args.files.now.report.items c.args.files.now.tx.items c.in_ok-signed.signed holds c.in_err-payment.field-0.0 stops)

pub returns-in_err-payment-clause-only : goal.returns-in_err-payment-clause-only
returns-in_err-payment-clause-only c = λ s inputs x.
    let p = err_from_is_err_and c.from_residual-in_err-payment.result c.from_residual-in_err-payment.ensures.1 in
    let scripts : c.deref-2.result.now ≡ c.args.files.now.wallet.scripts = c.deref-2.ensures.value ∙ ap (λ (f : Files). f.wallet.scripts) c.files.view_is in
    let report : c.deref-3.result.now ≡ c.args.files.now.report.items = c.deref-3.ensures.value ∙ ap (λ (f : Files). f.report.items) c.files.view_is in
    let stops = subst (λ (l : List Watch). StopsBy (IsPaymentFault c.args.files.now.report.items l) c.in_err-payment.field-0.0) scripts (subst (λ (b : List ℕ). StopsBy (IsPaymentFault b c.deref-2.result.now) c.in_err-payment.field-0.0) report c.in_err-payment.ensures.stop) in
    rw (p.1, p.2) (payment_only c.args.files.now.wallet c.args.files.now.request c.args.files.now.report.items c.args.files.now.tx.items s inputs x c.in_err-payment.field-0.0 stops)

pub judge-requires-clause-spent : goal.judge-requires-clause-spent
judge-requires-clause-spent c = spent_long _ _ c.in_ok-payment.payment.psbt c.in_ok-payment.payment.spent.items c.in_ok-payment.payment.declared.items c.in_ok-payment.ensures.payment

pub judge-requires-clause-declared : goal.judge-requires-clause-declared
judge-requires-clause-declared c = declared_long _ _ c.in_ok-payment.payment.psbt c.in_ok-payment.payment.spent.items c.in_ok-payment.payment.declared.items c.in_ok-payment.ensures.payment

pub judge-requires-clause-weights : goal.judge-requires-clause-weights
judge-requires-clause-weights c =
    let scripts : c.deref-2.result.now ≡ c.args.files.now.wallet.scripts = c.deref-2.ensures.value ∙ ap (λ (f : Files). f.wallet.scripts) c.files.view_is in
    let report : c.deref-3.result.now ≡ c.args.files.now.report.items = c.deref-3.ensures.value ∙ ap (λ (f : Files). f.report.items) c.files.view_is in
    let x = c.in_ok-payment.payment in
    let payment = subst (λ (l : List Watch). IsPayment c.args.files.now.report.items l x.psbt x.spent.items x.declared.items) scripts (subst (λ (b : List ℕ). IsPayment b c.deref-2.result.now x.psbt x.spent.items x.declared.items) report c.in_ok-payment.ensures.payment) in
    declared_within c.args.files.now.report.items c.args.files.now.wallet.scripts x.psbt x.spent.items x.declared.items c.requires.scripts payment

pub returns-clause-settled : goal.returns-clause-settled
returns-clause-settled c =
    let scripts : c.deref-2.result.now ≡ c.args.files.now.wallet.scripts = c.deref-2.ensures.value ∙ ap (λ (f : Files). f.wallet.scripts) c.files.view_is in
    let report : c.deref-3.result.now ≡ c.args.files.now.report.items = c.deref-3.ensures.value ∙ ap (λ (f : Files). f.report.items) c.files.view_is in
    let tx : c.deref.result.now ≡ c.args.files.now.tx.items = c.deref.ensures.value ∙ ap (λ (f : Files). f.tx.items) c.files.view_is in
    let x = c.in_ok-payment.payment in
    let payment = subst (λ (l : List Watch). IsPayment c.args.files.now.report.items l x.psbt x.spent.items x.declared.items) scripts (subst (λ (b : List ℕ). IsPayment b c.deref-2.result.now x.psbt x.spent.items x.declared.items) report c.in_ok-payment.ensures.payment) in
    let holds : Holds c.args.files.now.tx.items c.in_ok-signed.signed = subst (λ (b : List ℕ). Holds b c.in_ok-signed.signed) tx c.in_ok-signed.ensures.signed in
    if_settled c.args.files.now.wallet c.args.files.now.request c.args.files.now.report.items c.args.files.now.tx.items c.in_ok-signed.signed holds x.psbt x.spent.items x.declared.items payment c.judge.result
    (subst (λ (rate : ℕ). IfOk c.judge.result (λ y. IsSettledBy x.psbt.tx x.spent.items x.declared.items c.in_ok-signed.signed rate y.settled y.inputs.items)) (ap (λ (f : Files). f.request.rate) c.files.view_is) c.judge.ensures.settled)

pub returns-clause-stop : goal.returns-clause-stop
returns-clause-stop c =
    let scripts : c.deref-2.result.now ≡ c.args.files.now.wallet.scripts = c.deref-2.ensures.value ∙ ap (λ (f : Files). f.wallet.scripts) c.files.view_is in
    let report : c.deref-3.result.now ≡ c.args.files.now.report.items = c.deref-3.ensures.value ∙ ap (λ (f : Files). f.report.items) c.files.view_is in
    let tx : c.deref.result.now ≡ c.args.files.now.tx.items = c.deref.ensures.value ∙ ap (λ (f : Files). f.tx.items) c.files.view_is in
    let x = c.in_ok-payment.payment in
    let payment = subst (λ (l : List Watch). IsPayment c.args.files.now.report.items l x.psbt x.spent.items x.declared.items) scripts (subst (λ (b : List ℕ). IsPayment b c.deref-2.result.now x.psbt x.spent.items x.declared.items) report c.in_ok-payment.ensures.payment) in
    let holds : Holds c.args.files.now.tx.items c.in_ok-signed.signed = subst (λ (b : List ℕ). Holds b c.in_ok-signed.signed) tx c.in_ok-signed.ensures.signed in
    if_settle_stops c.args.files.now.wallet c.args.files.now.request c.args.files.now.report.items c.args.files.now.tx.items c.in_ok-signed.signed holds x.psbt x.spent.items x.declared.items payment c.judge.result
    (subst (λ (rate : ℕ). IfErr c.judge.result (StopsBroken (IsSettleFault x.psbt.tx x.spent.items x.declared.items c.in_ok-signed.signed rate))) (ap (λ (f : Files). f.request.rate) c.files.view_is) c.judge.ensures.stop)

pub returns-clause-only : goal.returns-clause-only
returns-clause-only c = λ s inputs y.
    let scripts : c.deref-2.result.now ≡ c.args.files.now.wallet.scripts = c.deref-2.ensures.value ∙ ap (λ (f : Files). f.wallet.scripts) c.files.view_is in
    let report : c.deref-3.result.now ≡ c.args.files.now.report.items = c.deref-3.ensures.value ∙ ap (λ (f : Files). f.report.items) c.files.view_is in
    let tx : c.deref.result.now ≡ c.args.files.now.tx.items = c.deref.ensures.value ∙ ap (λ (f : Files). f.tx.items) c.files.view_is in
    let x = c.in_ok-payment.payment in
    let payment = subst (λ (l : List Watch). IsPayment c.args.files.now.report.items l x.psbt x.spent.items x.declared.items) scripts (subst (λ (b : List ℕ). IsPayment b c.deref-2.result.now x.psbt x.spent.items x.declared.items) report c.in_ok-payment.ensures.payment) in
    let is : c.in_ok-signed.signed ≡ y.signed = c.in_ok-signed.ensures.only y.signed (subst (λ (b : List ℕ). Holds b y.signed) (sym tx) y.holds) in
    judged_only c.args.files.now.wallet c.args.files.now.request c.args.files.now.report.items c.args.files.now.tx.items s inputs y x.psbt x.spent.items x.declared.items payment c.in_ok-signed.signed is c.judge.result
    (subst (λ (rate : ℕ). IfOk c.judge.result (λ z. IsSettledBy x.psbt.tx x.spent.items x.declared.items c.in_ok-signed.signed rate z.settled z.inputs.items)) (ap (λ (f : Files). f.request.rate) c.files.view_is) c.judge.ensures.settled)
    (subst (λ (rate : ℕ). IfErr c.judge.result (StopsBroken (IsSettleFault x.psbt.tx x.spent.items x.declared.items c.in_ok-signed.signed rate))) (ap (λ (f : Files). f.request.rate) c.files.view_is) c.judge.ensures.stop)

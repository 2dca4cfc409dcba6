use Rattle.std.proofs.Common.{◌∙◌, ◌≡◌, ℕ, List, Ok, ap, subst}
use Rattle.std.specs.Prelude.{IfErr, IfOk, string_bytes}
use Rattle.settle_check.specs.Broken.{IsSettleFault}
use Rattle.command_settle.specs.Outcome.{IsSettledBy}
use Rattle.std.proofs.lemmas.Result.{err_from_is_err_and}
use Rattle.wallet_text.specs.declared.wallet.Watch.{Watch}
use Rattle.command_settle.proofs.PaymentLaws.{declared_long, declared_within, spent_long}
use Rattle.command_settle.proofs.StopLaws.{if_settle_stops, if_settled, payment_stops}
use Rattle.command_settle.specs.Files.{signed_of}
use Rattle.command_settle.specs.declared.files.Files.{Files}
use Rattle.command_settle.specs.Payment.{IsPayment, IsPaymentFault}
use Rattle.command_settle.specs.Stops.{StopsBy}
use Rattle.command_settle.proofs.judging.judge_files.Goals as goal

pub returns-in_err-payment-clause-stop : goal.returns-in_err-payment-clause-stop
returns-in_err-payment-clause-stop c =
    let p = err_from_is_err_and c.from_residual-in_err-payment.result c.from_residual-in_err-payment.ensures.1 in
    let scripts : c.deref-2.result.now ≡ c.args.files.now.wallet.scripts = c.deref-2.ensures.value ∙ ap (λ (f : Files). f.wallet.scripts) c.files.view_is in
    let report : c.deref-3.result.now ≡ c.args.files.now.report.items = c.deref-3.ensures.value ∙ ap (λ (f : Files). f.report.items) c.files.view_is in
    let signed : signed_of c.args.files.now.tx.items ≡ Ok c.in_ok-signed.signed = subst (λ (b : List ℕ). signed_of b ≡ Ok c.in_ok-signed.signed) (c.deref.ensures.value ∙ ap (λ (f : Files). f.tx.items) c.files.view_is) c.in_ok-signed.ensures.signed in
    let stops = subst (λ (l : List Watch). StopsBy (IsPaymentFault c.args.files.now.report.items l) c.in_err-payment.field-0.0) scripts (subst (λ (b : List ℕ). StopsBy (IsPaymentFault b c.deref-2.result.now) c.in_err-payment.field-0.0) report c.in_err-payment.ensures.stop) in
    rw (p.1, p.2) (payment_stops c.args.files.now.wallet c.args.files.now.request c.args.files.now.report.items c.args.files.now.tx.items c.in_ok-signed.signed signed c.in_err-payment.field-0.0 stops)

pub judge-requires-clause-spent : goal.judge-requires-clause-spent
judge-requires-clause-spent c = spent_long _ _ c.in_ok-payment.payment.psbt c.in_ok-payment.payment.spent.items c.in_ok-payment.payment.declared.items c.in_ok-payment.ensures.payment

pub judge-requires-clause-declared : goal.judge-requires-clause-declared
judge-requires-clause-declared c = declared_long _ _ c.in_ok-payment.payment.psbt c.in_ok-payment.payment.spent.items c.in_ok-payment.payment.declared.items c.in_ok-payment.ensures.payment

pub judge-requires-clause-weights : goal.judge-requires-clause-weights
judge-requires-clause-weights c =
    let scripts : c.deref-2.result.now ≡ c.args.files.now.wallet.scripts = c.deref-2.ensures.value ∙ ap (λ (f : Files). f.wallet.scripts) c.files.view_is in
    let report : c.deref-3.result.now ≡ c.args.files.now.report.items = c.deref-3.ensures.value ∙ ap (λ (f : Files). f.report.items) c.files.view_is in
    let x = c.in_ok-payment.payment in
    let payment = subst (λ (l : List Watch). IsPayment c.args.files.now.report.items l x.psbt x.spent.items x.declared.items) scripts (subst (λ (b : List ℕ). IsPayment b c.deref-2.result.now x.psbt x.spent.items x.declared.items) report c.in_ok-payment.ensures.payment) in
    declared_within c.args.files.now.report.items c.args.files.now.wallet.scripts x.psbt x.spent.items x.declared.items c.requires.scripts payment

pub returns-clause-settled : goal.returns-clause-settled
returns-clause-settled c =
    let scripts : c.deref-2.result.now ≡ c.args.files.now.wallet.scripts = c.deref-2.ensures.value ∙ ap (λ (f : Files). f.wallet.scripts) c.files.view_is in
    let report : c.deref-3.result.now ≡ c.args.files.now.report.items = c.deref-3.ensures.value ∙ ap (λ (f : Files). f.report.items) c.files.view_is in
    let x = c.in_ok-payment.payment in
    let payment = subst (λ (l : List Watch). IsPayment c.args.files.now.report.items l x.psbt x.spent.items x.declared.items) scripts (subst (λ (b : List ℕ). IsPayment b c.deref-2.result.now x.psbt x.spent.items x.declared.items) report c.in_ok-payment.ensures.payment) in
    let signed : signed_of c.args.files.now.tx.items ≡ Ok c.in_ok-signed.signed = subst (λ (b : List ℕ). signed_of b ≡ Ok c.in_ok-signed.signed) (c.deref.ensures.value ∙ ap (λ (f : Files). f.tx.items) c.files.view_is) c.in_ok-signed.ensures.signed in
    if_settled c.args.files.now.wallet c.args.files.now.request c.args.files.now.report.items c.args.files.now.tx.items c.in_ok-signed.signed signed x.psbt x.spent.items x.declared.items payment c.judge.result
    (subst (λ (rate : ℕ). IfOk c.judge.result (λ text. IsSettledBy x.psbt.tx x.spent.items x.declared.items c.in_ok-signed.signed rate (string_bytes text))) (ap (λ (f : Files). f.request.rate) c.files.view_is) c.judge.ensures.settled)

pub returns-clause-stop : goal.returns-clause-stop
returns-clause-stop c =
    let scripts : c.deref-2.result.now ≡ c.args.files.now.wallet.scripts = c.deref-2.ensures.value ∙ ap (λ (f : Files). f.wallet.scripts) c.files.view_is in
    let report : c.deref-3.result.now ≡ c.args.files.now.report.items = c.deref-3.ensures.value ∙ ap (λ (f : Files). f.report.items) c.files.view_is in
    let x = c.in_ok-payment.payment in
    let payment = subst (λ (l : List Watch). IsPayment c.args.files.now.report.items l x.psbt x.spent.items x.declared.items) scripts (subst (λ (b : List ℕ). IsPayment b c.deref-2.result.now x.psbt x.spent.items x.declared.items) report c.in_ok-payment.ensures.payment) in
    let signed : signed_of c.args.files.now.tx.items ≡ Ok c.in_ok-signed.signed = subst (λ (b : List ℕ). signed_of b ≡ Ok c.in_ok-signed.signed) (c.deref.ensures.value ∙ ap (λ (f : Files). f.tx.items) c.files.view_is) c.in_ok-signed.ensures.signed in
    if_settle_stops c.args.files.now.wallet c.args.files.now.request c.args.files.now.report.items c.args.files.now.tx.items c.in_ok-signed.signed signed x.psbt x.spent.items x.declared.items payment c.judge.result
    (subst (λ (rate : ℕ). IfErr c.judge.result (StopsBy (IsSettleFault x.psbt.tx x.spent.items x.declared.items c.in_ok-signed.signed rate))) (ap (λ (f : Files). f.request.rate) c.files.view_is) c.judge.ensures.stop)

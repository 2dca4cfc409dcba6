use Rattle.std.proofs.Common.{ℕ, ap, subst, sym}
use Rattle.std.proofs.lemmas.Result.{err_from_is_err_and}
use Rattle.fee_sharing.specs.Shares.{AllReach, AreLeft}
use Rattle.request_text.specs.PlainRequest.{IsRequest}
use Rattle.command_amounts.specs.Amounts.{amounts_of}
use Rattle.command_share.proofs.ConcludedLaws.{can_pay, dust_ends, moved, none_end, open_end, paid_end}
use Rattle.command_share.specs.Bearing.{IsBearFault}
use Rattle.command_share.specs.Endings.{CanPay, IsPaidText, IsRunOf}
use Rattle.command_share.specs.Paying.{PlainPaying, amounts_left, dusts_of, shared_request}
use Rattle.command_share.specs.Rows.{PlainRun}
use Rattle.command_share.proofs.ending.ends.Goals as goal

pub returns-in_ok-report-in-Open-clause-ends : goal.returns-in_ok-report-in-Open-clause-ends
returns-in_ok-report-in-Open-clause-ends c =
    let h = subst (λ (x : PlainRun). IsRunOf c.args.held.now c.args.request.now x) (sym c.run.view_is) c.requires.run in
    let e = c.in_ok-report-in-Open.ensures in
    open_end c.args.held.now c.args.request.now _ h c.in-Open.number c.in_ok-report-in-Open.report.items c.in-Open.is e.text e.means

pub returns-in_ok-log-in-Nothing-clause-ends : goal.returns-in_ok-log-in-Nothing-clause-ends
returns-in_ok-log-in-Nothing-clause-ends c =
    let h = subst (λ (x : PlainRun). IsRunOf c.args.held.now c.args.request.now x) (sym c.run.view_is) c.requires.run in
    let e = c.in_ok-report-in-Nothing.ensures in
    none_end c.args.held.now c.args.request.now _ h c.in_ok-report-in-Nothing.report.items c.in_ok-log-in-Nothing.log.items c.in-Nothing.is e.text e.means c.in_ok-log-in-Nothing.ensures

pub paid_report-requires-clause-can : goal.paid_report-requires-clause-can
paid_report-requires-clause-can c =
    let h = subst (λ (x : PlainRun). IsRunOf c.args.held.now c.args.request.now x) (sym c.run.view_is) c.requires.run in
    let view = c.payment.view_is in
    moved (CanPay c.args.held.now c.args.request.now) _ _ (can_pay c.args.held.now c.args.request.now _ h _ c.in-Found.is) (cc)

pub returns-in_ok-log-in-Found-clause-ends : goal.returns-in_ok-log-in-Found-clause-ends
returns-in_ok-log-in-Found-clause-ends c =
    let k = c.args.held.now in
    let r = c.args.request.now in
    let h = subst (λ (x : PlainRun). IsRunOf c.args.held.now c.args.request.now x) (sym c.run.view_is) c.requires.run in
    let view = c.payment.view_is in
    let borne = ap (λ (p : PlainPaying). p.borne) c.payment.view_is in
    let e = c.in_ok-amounts-in-Found.ensures in
    let f = c.in-Found.payment in
    let reach = moved (λ (n : ℕ). AllReach n (amounts_of c.args.request.now) (dusts_of c.args.request.now)) _ f.borne e.reach (cc) in
    let left = moved (λ (n : ℕ). AreLeft n (amounts_of c.args.request.now) (dusts_of c.args.request.now) (amounts_left c.args.request.now n)) _ f.borne e.left (cc) in
    let rules = moved (λ (n : ℕ). IsRequest (shared_request c.args.request.now n)) _ f.borne e.rules (cc) in
    let text = moved (λ (p : PlainPaying). IsPaidText c.args.held.now c.args.request.now c.run.inside.tries p c.in_ok-report-in-Found.report.items) _ f c.in_ok-report-in-Found.ensures (cc) in
    paid_end k r _ h f c.in_ok-report-in-Found.report.items c.in_ok-log-in-Found.log.items c.in-Found.is reach left rules text c.in_ok-log-in-Found.ensures

pub returns-in_err-amounts-in-Found-clause-stop : goal.returns-in_err-amounts-in-Found-clause-stop
returns-in_err-amounts-in-Found-clause-stop c =
    let h = subst (λ (x : PlainRun). IsRunOf c.args.held.now c.args.request.now x) (sym c.run.view_is) c.requires.run in
    let borne = ap (λ (p : PlainPaying). p.borne) c.payment.view_is in
    let f = c.in-Found.payment in
    let fault = c.in_err-amounts-in-Found.field-0.0 in
    let p = err_from_is_err_and c.from_residual-in_err-amounts-in-Found.result c.from_residual-in_err-amounts-in-Found.ensures.1 in
    let short = moved (λ (n : ℕ). IsBearFault c.args.request.now n c.in_err-amounts-in-Found.field-0.0) _ f.borne c.in_err-amounts-in-Found.ensures.fault (cc) in
    rw (p.1, p.2) (dust_ends c.args.held.now c.args.request.now _ h f fault c.in-Found.is short)

use Rattle.std.proofs.Common.{◌≡◌, ◌<◌, List, ℕ, refl, sym, subst}
use Rattle.std.specs.Prelude.{IfOk, Result}
use Rattle.std.proofs.Math.Nat.{lt_of_not-le}
use Rattle.fund_base.specs.declared.memory.Memory.{Memory}
use Rattle.command_end.specs.declared.status.Status.{Status}
use Rattle.command_end.specs.declared.status.Status.TheVariants as statuses
use Rattle.held_run.specs.declared.run.Run.{Run}
use Rattle.amount_reports.specs.SweptText.{IsSweptText, PlainSwept}
use Rattle.command_sweeping.specs.Fees.{greatest_of}
use Rattle.command_sweeping.specs.Run.{IsPayment, IsRun}
use Rattle.command_sweeping.specs.Sweeps.{Sweeps}
use Rattle.command_sweeping.specs.declared.outcome.Ending.{Ending}
use Rattle.command_sweeping.proofs.PaymentLaws.{is_payment, report_of_run}
use Rattle.command_sweeping.proofs.sweeping.sweep_asked.Goals as goal

pub payment_in-requires : goal.payment_in-requires
payment_in-requires g c =
    let ran : IsRun g.H.Shelf.tells c.args.asked.now (g.H.Shelf.view c.args.files) (g.H.Shelf.view c.run_asked-ended.result.1) c.in-Ok.run'.status c.in-Ok.run'.said.items = subst (λ (x : Result Run Memory). IfOk x (λ r. IsRun g.H.Shelf.tells c.args.asked.now (g.H.Shelf.view c.args.files) (g.H.Shelf.view c.run_asked-ended.result.1) r.status r.said.items)) c.in-Ok.is c.run_asked-ended.ensures.run in
    let done : c.in-Ok.run'.status ≡ statuses.Done = c.is_done.ensures.0 c.if-not-is_done.false in
    let run : IsRun g.H.Shelf.tells c.args.asked.now (g.H.Shelf.view c.args.files) (g.H.Shelf.view c.run_asked-ended.result.1) statuses.Done c.in-Ok.run'.said.items = subst (λ (s : Status). IsRun g.H.Shelf.tells c.args.asked.now (g.H.Shelf.view c.args.files) (g.H.Shelf.view c.run_asked-ended.result.1) s c.in-Ok.run'.said.items) done ran in
    let found = report_of_run g.H.Shelf.tells c.args.asked.now (g.H.Shelf.view c.args.files) (g.H.Shelf.view c.run_asked-ended.result.1) c.in-Ok.run'.said.items run in
    (found.0, subst (λ (t : List ℕ). IsSweptText t found.0) (sym c.deref.ensures.value) found.1)

pub returns-then-not-accepts_fee-clause-sweeps : goal.returns-then-not-accepts_fee-clause-sweeps
returns-then-not-accepts_fee-clause-sweeps g c =
    let ran : IsRun g.H.Shelf.tells c.args.asked.now (g.H.Shelf.view c.args.files) (g.H.Shelf.view c.run_asked-ended.result.1) c.in-Ok.run'.status c.in-Ok.run'.said.items = subst (λ (x : Result Run Memory). IfOk x (λ r. IsRun g.H.Shelf.tells c.args.asked.now (g.H.Shelf.view c.args.files) (g.H.Shelf.view c.run_asked-ended.result.1) r.status r.said.items)) c.in-Ok.is c.run_asked-ended.ensures.run in
    let r : PlainSwept = c.in-Ok-payment_in.report in
    let done : c.in-Ok.run'.status ≡ statuses.Done = c.is_done.ensures.0 c.if-not-is_done.false in
    let payment : IsPayment g.H.Shelf.tells c.args.asked.now (g.H.Shelf.view c.args.files) (g.H.Shelf.view c.run_asked-ended.result.1) r = is_payment _ _ _ _ c.in-Ok.run'.status r c.in-Ok.run'.said.items c.deref.result.now ran done c.deref.ensures.value c.in-Ok-payment_in.ensures in
    let less : greatest_of c.args.asked.now r < r.fee = lt_of_not-le (λ h. let yes = c.accepts_fee.ensures.1 h in let no = c.if-not-accepts_fee.true in cc) in
    subst (λ (e : Ending). Sweeps g.H.Shelf.tells g.N.Shelf.tells c.args.asked.now (g.H.Shelf.view c.args.files) (g.H.Shelf.view c.run_asked-ended.result.1) (g.N.Shelf.view c.args.new_files.now) (g.N.Shelf.view c.args.new_files.now) e) (sym c.high_fee.ensures) (r, payment, refl, refl, less, refl)

use Rattle.std.proofs.Common.{◌≡◌, ◌<◌, ℕ, List, inr, refl, sym, subst}
use Rattle.std.specs.Prelude.{IfOk, Result}
use Rattle.std.proofs.Math.Nat.{lt_of_not-le}
use Rattle.fund_base.specs.declared.memory.Memory.{Memory}
use Rattle.command_end.specs.declared.status.Status.{Status}
use Rattle.command_end.specs.declared.status.Status.TheVariants as statuses
use Rattle.command_pay.specs.Paid.{fee_in}
use Rattle.command_pay.specs.Pays.{Pays, greatest_fee}
use Rattle.command_pay.specs.Run.{IsPayment, IsRun, IsSomeReport}
use Rattle.command_pay.specs.declared.outcome.Ending.{Ending}
use Rattle.command_pay.specs.declared.report.PaidReport.{PaidReport}
use Rattle.held_run.specs.declared.run.Run.{Run}
use Rattle.pay_words.specs.declared.asked.Asked.{Asked}
use Rattle.payment_files.specs.Files.{HasAll, HasFirst, IsLost, PutStops, contents}
use Rattle.payment_files.specs.declared.file.NewFile.{NewFile}
use Rattle.payment_files.specs.declared.file.PutFault.{PutFault}
use Rattle.payment_files.specs.declared.file.PutFault.TheVariants as puts
use Rattle.fund_shelf.specs.Causes.{ShelfView}
use Rattle.command_pay.proofs.PaymentLaws.{is_payment, report_of_run}
use Rattle.command_pay.proofs.TakenLaws.{taken_with}
use Rattle.command_pay.proofs.paying.pay_asked.Goals as goal

pub payment_in-requires : goal.payment_in-requires
payment_in-requires g c =
    let ran : IsRun g.H.Shelf.tells c.args.asked.now (g.H.Shelf.view c.args.files) (g.H.Shelf.view c.run_asked-ended.result.1) c.in-Ok.run'.status c.in-Ok.run'.said.items c.in-Ok.run'.log.items = subst (λ (x : Result Run Memory). IfOk x (λ r. IsRun g.H.Shelf.tells c.args.asked.now (g.H.Shelf.view c.args.files) (g.H.Shelf.view c.run_asked-ended.result.1) r.status r.said.items r.log.items)) c.in-Ok.is c.run_asked-ended.ensures.run in
    let done : c.in-Ok.run'.status ≡ statuses.Done = c.is_done.ensures.0 c.if-not-is_done.false in
    let run : IsRun g.H.Shelf.tells c.args.asked.now (g.H.Shelf.view c.args.files) (g.H.Shelf.view c.run_asked-ended.result.1) statuses.Done c.in-Ok.run'.said.items c.in-Ok.run'.log.items = subst (λ (s : Status). IsRun g.H.Shelf.tells c.args.asked.now (g.H.Shelf.view c.args.files) (g.H.Shelf.view c.run_asked-ended.result.1) s c.in-Ok.run'.said.items c.in-Ok.run'.log.items) done ran in
    let found = report_of_run g.H.Shelf.tells c.args.asked.now (g.H.Shelf.view c.args.files) (g.H.Shelf.view c.run_asked-ended.result.1) c.in-Ok.run'.said.items c.in-Ok.run'.log.items run in
    subst (λ (t : List ℕ). IsSomeReport c.args.asked.now.way t) (sym c.deref.ensures.value) found

pub returns-then-not-accepts_fee-clause-pays : goal.returns-then-not-accepts_fee-clause-pays
returns-then-not-accepts_fee-clause-pays g c =
    let ran : IsRun g.H.Shelf.tells c.args.asked.now (g.H.Shelf.view c.args.files) (g.H.Shelf.view c.run_asked-ended.result.1) c.in-Ok.run'.status c.in-Ok.run'.said.items c.in-Ok.run'.log.items = subst (λ (x : Result Run Memory). IfOk x (λ r. IsRun g.H.Shelf.tells c.args.asked.now (g.H.Shelf.view c.args.files) (g.H.Shelf.view c.run_asked-ended.result.1) r.status r.said.items r.log.items)) c.in-Ok.is c.run_asked-ended.ensures.run in
    let f : PaidReport = c.in-Ok-payment_in.report in
    let log : List ℕ = c.in-Ok.run'.log.items in
    let done : c.in-Ok.run'.status ≡ statuses.Done = c.is_done.ensures.0 c.if-not-is_done.false in
    let payment : IsPayment g.H.Shelf.tells c.args.asked.now (g.H.Shelf.view c.args.files) (g.H.Shelf.view c.run_asked-ended.result.1) f log = is_payment _ _ _ _ c.in-Ok.run'.status f c.in-Ok.run'.said.items c.deref.result.now log ran done c.deref.ensures.value c.in-Ok-payment_in.ensures in
    let less : greatest_fee c.args.asked.now < fee_in f = lt_of_not-le (λ h. let yes = c.accepts_fee.ensures.1 h in let no = c.if-not-accepts_fee.true in cc) in
    subst (λ (e : Ending). Pays g.H.Shelf.tells g.N.Shelf.tells c.args.asked.now (g.H.Shelf.view c.args.files) (g.H.Shelf.view c.run_asked-ended.result.1) (g.N.Shelf.view c.args.new_files.now) (g.N.Shelf.view c.args.new_files.now) e) (sym c.high_fee.ensures) (f, log, payment, refl, refl, less, refl)

pub returns-in-Ok-put_files-clause-pays : goal.returns-in-Ok-put_files-clause-pays
returns-in-Ok-put_files-clause-pays g c =
    let told = g.H.Shelf.tells in
    let asked : Asked = c.args.asked.now in
    let before : ShelfView = g.H.Shelf.view c.args.files in
    let after : ShelfView = g.H.Shelf.view c.run_asked-ended.result.1 in
    let old : ShelfView = g.N.Shelf.view c.args.new_files.now in
    let new : ShelfView = g.N.Shelf.view c.put_files.new.new_files in
    let f : PaidReport = c.in-Ok-payment_in.report in
    let ran : IsRun told asked before after c.in-Ok.run'.status c.in-Ok.run'.said.items c.in-Ok.run'.log.items = subst (λ (x : Result Run Memory). IfOk x (λ r. IsRun told asked before after r.status r.said.items r.log.items)) c.in-Ok.is c.run_asked-ended.ensures.run in
    let done : c.in-Ok.run'.status ≡ statuses.Done = c.is_done.ensures.0 c.if-not-is_done.false in
    taken_with told asked before after c.in-Ok.run'.status f c.in-Ok.run'.said.items c.deref.result.now c.in-Ok.run'.log.items c.deref-2.result.now c.deref-3.result.now c.psbt.result.now (λ (b : NewFile → List ℕ). HasAll g.N.Shelf.tells asked b old new)
    ran done c.deref.ensures.value c.in-Ok-payment_in.ensures (c.accepts_fee.ensures.0 c.if-not-accepts_fee.false) c.deref-2.ensures.value c.deref-3.ensures.value c.psbt.ensures c.in-Ok-put_files.ensures.ok

pub returns-in-Err-Unwritten-clause-pays : goal.returns-in-Err-Unwritten-clause-pays
returns-in-Err-Unwritten-clause-pays g c =
    let told = g.H.Shelf.tells in
    let asked : Asked = c.args.asked.now in
    let before : ShelfView = g.H.Shelf.view c.args.files in
    let after : ShelfView = g.H.Shelf.view c.run_asked-ended.result.1 in
    let old : ShelfView = g.N.Shelf.view c.args.new_files.now in
    let new : ShelfView = g.N.Shelf.view c.put_files.new.new_files in
    let f : PaidReport = c.in-Ok-payment_in.report in
    let ran : IsRun told asked before after c.in-Ok.run'.status c.in-Ok.run'.said.items c.in-Ok.run'.log.items = subst (λ (x : Result Run Memory). IfOk x (λ r. IsRun told asked before after r.status r.said.items r.log.items)) c.in-Ok.is c.run_asked-ended.ensures.run in
    let done : c.in-Ok.run'.status ≡ statuses.Done = c.is_done.ensures.0 c.if-not-is_done.false in
    let file : NewFile = c.in-Err-Unwritten.file in
    let stops : PutStops g.N.Shelf.tells asked (contents asked c.deref-2.result.now c.deref-3.result.now c.psbt.result.now) old new (puts.Unwritten file) = subst (λ (x : PutFault). PutStops g.N.Shelf.tells asked (contents asked c.deref-2.result.now c.deref-3.result.now c.psbt.result.now) old new x) c.in-Err-Unwritten.field-0-is c.in-Err-Unwritten.ensures.stop in
    let paid = taken_with told asked before after c.in-Ok.run'.status f c.in-Ok.run'.said.items c.deref.result.now c.in-Ok.run'.log.items c.deref-2.result.now c.deref-3.result.now c.psbt.result.now (λ (b : NewFile → List ℕ). IsLost g.N.Shelf.tells asked b file old new)
    ran done c.deref.ensures.value c.in-Ok-payment_in.ensures (c.accepts_fee.ensures.0 c.if-not-accepts_fee.false) c.deref-2.ensures.value c.deref-3.ensures.value c.psbt.ensures stops in
    (f, c.in-Ok.run'.log.items, paid.0, paid.1)

pub returns-clause-pays : goal.returns-clause-pays
returns-clause-pays g c =
    let told = g.H.Shelf.tells in
    let asked : Asked = c.args.asked.now in
    let before : ShelfView = g.H.Shelf.view c.args.files in
    let after : ShelfView = g.H.Shelf.view c.run_asked-ended.result.1 in
    let old : ShelfView = g.N.Shelf.view c.args.new_files.now in
    let new : ShelfView = g.N.Shelf.view c.put_files.new.new_files in
    let f : PaidReport = c.in-Ok-payment_in.report in
    let ran : IsRun told asked before after c.in-Ok.run'.status c.in-Ok.run'.said.items c.in-Ok.run'.log.items = subst (λ (x : Result Run Memory). IfOk x (λ r. IsRun told asked before after r.status r.said.items r.log.items)) c.in-Ok.is c.run_asked-ended.ensures.run in
    let done : c.in-Ok.run'.status ≡ statuses.Done = c.is_done.ensures.0 c.if-not-is_done.false in
    let stops : HasFirst g.N.Shelf.tells asked (contents asked c.deref-2.result.now c.deref-3.result.now c.psbt.result.now) old new = subst (λ (x : PutFault). PutStops g.N.Shelf.tells asked (contents asked c.deref-2.result.now c.deref-3.result.now c.psbt.result.now) old new x) c.in-Err-Memory.field-0-is c.in-Err-Memory.ensures.stop in
    let paid = taken_with told asked before after c.in-Ok.run'.status f c.in-Ok.run'.said.items c.deref.result.now c.in-Ok.run'.log.items c.deref-2.result.now c.deref-3.result.now c.psbt.result.now (λ (b : NewFile → List ℕ). HasFirst g.N.Shelf.tells asked b old new)
    ran done c.deref.ensures.value c.in-Ok-payment_in.ensures (c.accepts_fee.ensures.0 c.if-not-accepts_fee.false) c.deref-2.ensures.value c.deref-3.ensures.value c.psbt.ensures stops in
    inr (f, c.in-Ok.run'.log.items, paid.0, paid.1)

use Rattle.std.proofs.Common.{ℕ, List, refl}
use Rattle.fund_shelf.specs.Causes.{ShelfView}
use Rattle.pay_words.specs.declared.asked.Asked.{Asked}
use Rattle.payment_files.specs.Files.{contents}
use Rattle.payment_files.specs.declared.file.NewFile.{NewFile}
use Rattle.payment_files.specs.declared.file.NewFile.TheVariants.{Request, Log, Report}
use Rattle.payment_files.proofs.FileLaws.{last_put, last_stopped, stopped}
use Rattle.payment_files.proofs.writing.put_files.Goals as goal

pub returns-in_err-put_request-clause-stop : goal.returns-in_err-put_request-clause-stop
returns-in_err-put_request-clause-stop g c =
    let told : Type 0 = g.N.Shelf.tells in
    let asked : Asked = c.args.asked.now in
    let bytes : NewFile → List ℕ = contents asked c.args.log.now c.args.report.now c.args.psbt.now in
    let old : ShelfView = g.N.Shelf.view c.args.new_files.now in
    let requested : ShelfView = g.N.Shelf.view c.put_request.new.new_files in
    stopped told asked bytes Request old old requested c.in_err-put_request.field-0.0 c.from_residual.result c.from_residual.ensures.1 refl c.in_err-put_request.ensures.stop

pub returns-in_err-put_new-clause-stop : goal.returns-in_err-put_new-clause-stop
returns-in_err-put_new-clause-stop g c =
    let told : Type 0 = g.N.Shelf.tells in
    let asked : Asked = c.args.asked.now in
    let bytes : NewFile → List ℕ = contents asked c.args.log.now c.args.report.now c.args.psbt.now in
    let old : ShelfView = g.N.Shelf.view c.args.new_files.now in
    let requested : ShelfView = g.N.Shelf.view c.put_request.new.new_files in
    let logged : ShelfView = g.N.Shelf.view c.put_new.new.new_files in
    stopped told asked bytes Log old requested logged c.in_err-put_new.field-0.0 c.from_residual-in_err-put_new.result c.from_residual-in_err-put_new.ensures.1 (requested, c.in_ok-put_request.ensures.ok, refl) c.in_err-put_new.ensures.stop

pub returns-in_err-put_new-2-clause-stop : goal.returns-in_err-put_new-2-clause-stop
returns-in_err-put_new-2-clause-stop g c =
    let told : Type 0 = g.N.Shelf.tells in
    let asked : Asked = c.args.asked.now in
    let bytes : NewFile → List ℕ = contents asked c.args.log.now c.args.report.now c.args.psbt.now in
    let old : ShelfView = g.N.Shelf.view c.args.new_files.now in
    let requested : ShelfView = g.N.Shelf.view c.put_request.new.new_files in
    let logged : ShelfView = g.N.Shelf.view c.put_new.new.new_files in
    let reported : ShelfView = g.N.Shelf.view c.put_new-2.new.new_files in
    stopped told asked bytes Report old logged reported c.in_err-put_new-2.field-0.0 c.from_residual-in_err-put_new-2.result c.from_residual-in_err-put_new-2.ensures.1 (requested, c.in_ok-put_request.ensures.ok, (logged, c.in_ok-put_new.ensures.ok, refl)) c.in_err-put_new-2.ensures.stop

pub returns-clause-ok : goal.returns-clause-ok
returns-clause-ok g c =
    let told : Type 0 = g.N.Shelf.tells in
    let asked : Asked = c.args.asked.now in
    let bytes : NewFile → List ℕ = contents asked c.args.log.now c.args.report.now c.args.psbt.now in
    let old : ShelfView = g.N.Shelf.view c.args.new_files.now in
    let requested : ShelfView = g.N.Shelf.view c.put_request.new.new_files in
    let logged : ShelfView = g.N.Shelf.view c.put_new.new.new_files in
    let reported : ShelfView = g.N.Shelf.view c.put_new-2.new.new_files in
    let new : ShelfView = g.N.Shelf.view c.put_new-3.new.new_files in
    last_put told asked bytes old requested logged reported new c.put_new-3.result c.requires c.in_ok-put_request.ensures.ok c.in_ok-put_new.ensures.ok c.in_ok-put_new-2.ensures.ok c.put_new-3.ensures.ok

pub returns-clause-stop : goal.returns-clause-stop
returns-clause-stop g c =
    let told : Type 0 = g.N.Shelf.tells in
    let asked : Asked = c.args.asked.now in
    let bytes : NewFile → List ℕ = contents asked c.args.log.now c.args.report.now c.args.psbt.now in
    let old : ShelfView = g.N.Shelf.view c.args.new_files.now in
    let requested : ShelfView = g.N.Shelf.view c.put_request.new.new_files in
    let logged : ShelfView = g.N.Shelf.view c.put_new.new.new_files in
    let reported : ShelfView = g.N.Shelf.view c.put_new-2.new.new_files in
    let new : ShelfView = g.N.Shelf.view c.put_new-3.new.new_files in
    last_stopped told asked bytes old reported new c.put_new-3.result (requested, c.in_ok-put_request.ensures.ok, (logged, c.in_ok-put_new.ensures.ok, (reported, c.in_ok-put_new-2.ensures.ok, refl))) c.put_new-3.ensures.stop

use Rattle.std.proofs.Common.{◌≡◌, ◌∙◌, List, [], ◌∷◌, ap}
use Rattle.fund_shelf.specs.Causes.{ShelfView}
use Rattle.fund_shelf.specs.Files.{bytes_of}
use Rattle.fund_shelf.specs.SureShelf.{view_of}
use Rattle.fund_calls.specs.Given.{plain_given}
use Rattle.fund_calls.proofs.Files.{Named, files_are}
use Rattle.fund_calls.proofs.given.shelf_of.Goals as goal

pub returns : goal.returns
returns c =
    let made : List Named → ShelfView = λ files. record { files = bytes_of files; reads = λ _. 0; writes = λ _. 0; asked = [] } in
    let view : view_of c.new.result ≡ made (c.in_ok-wallet.wallet ∷ c.in_ok-blocks.blocks ∷ c.in_ok-request.request ∷ c.in_ok-report.report ∷ c.in_ok-log.log ∷ c.in_ok-tx.tx ∷ []) = c.new.ensures.view ∙ ap made c.in_ok-files.ensures.items in
    files_are (view_of c.new.result) (plain_given c.args.given.now) c.in_ok-wallet.wallet c.in_ok-blocks.blocks c.in_ok-request.request c.in_ok-report.report c.in_ok-log.log c.in_ok-tx.tx view
    c.in_ok-wallet.ensures.name c.in_ok-wallet.ensures.bytes c.in_ok-blocks.ensures.name c.in_ok-blocks.ensures.bytes c.in_ok-request.ensures.name c.in_ok-request.ensures.bytes c.in_ok-report.ensures.name c.in_ok-report.ensures.bytes c.in_ok-log.ensures.name c.in_ok-log.ensures.bytes c.in_ok-tx.ensures.name c.in_ok-tx.ensures.bytes

-- The files of the system.
use Rattle.std.specs.Prelude.{[]}
use Rattle.fund_shelf.specs.Causes.{ShelfView}
use Rattle.fund_shelf.specs.declared.file_shelf.FileShelf.{FileShelf}

-- what it counts; neither what the files hold nor the names that were asked for are told
abbrev pub view_of : {R File Dir : Type 0} → FileShelf R File Dir → ShelfView
view_of shelf = record { files = λ _. []; reads = λ _. shelf.reads; writes = λ _. shelf.writes; asked = [] }

-- The shelf in memory that doesn't fail.
use Rattle.std.specs.Prelude.{ℕ, List, Option}
use Rattle.fund_shelf.specs.Causes.{ShelfView}
use Rattle.fund_shelf.specs.Files.{file_of, bytes_of, names_in}
use Rattle.fund_shelf.specs.declared.sure_shelf.SureShelf.{SureShelf}

-- its files, and the names that were asked for; it never fails
abbrev pub view_of : SureShelf → ShelfView
view_of shelf = record { files = bytes_of shelf.files.items; reads = λ _. 0; writes = λ _. 0; asked = names_in shelf.asked.items }

-- the bytes of its file of that name
abbrev pub file_in : SureShelf → List ℕ → Option (List ℕ)
file_in shelf = file_of shelf.files.items

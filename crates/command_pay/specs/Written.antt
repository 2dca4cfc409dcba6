-- Files to which new ones are written.
use Rattle.std.specs.Prelude.{ℕ}
use Rattle.fund_shelf.specs.Causes.{ShelfView}

-- files of which only reads are counted elsewhere: nothing is told of what they hold, and each count stands for every name
abbrev pub new_file_view : ShelfView → ℕ → ShelfView
new_file_view files writes = record files { writes = λ _. writes }

use Rattle.std.proofs.Common.{◌+◌, ◌-◌}
use Rattle.fund_shelf.specs.Causes.{ReadsOne}
use Rattle.fund_files.proofs.first_pass.look_in_file.Given as goal

abbrev pub invariant-reading : goal.invariant-reading
invariant-reading g l = ReadsOne g.H.Shelf.tells ⊥ l.name (g.H.Shelf.view l.initial.shelf) (g.H.Shelf.view l.shelf)

abbrev pub decreases-reading : goal.decreases-reading
decreases-reading g l = 1073741824 + 1 - l.place

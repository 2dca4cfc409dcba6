use Rattle.std.proofs.Common.{◌≡◌, length}
use Rattle.fund_shelf.specs.Files.{file_of}
use Rattle.fund_shelf.proofs.store.find.Given as goal

abbrev pub invariant-finding : goal.invariant-finding
invariant-finding l = file_of l.rest l.name ≡ file_of l.files l.name

abbrev pub decreases-finding : goal.decreases-finding
decreases-finding l = length l.rest

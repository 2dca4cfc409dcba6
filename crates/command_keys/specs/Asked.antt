-- Which files are asked for, and in what order.
use Rattle.std.specs.Prelude.{ℕ, List, [], ◌∷◌}
use Rattle.fund_shelf.specs.Causes.{Asks, ShelfView}
use Rattle.command_end.specs.Names.{Sources}
use Rattle.command_complete.specs.Asked as completing
use Rattle.command_keys.specs.declared.stop.Stop.{Stop}
use Rattle.command_keys.specs.declared.stop.Stop.TheVariants as stops

-- The wallet file was asked for, then the block file, the PSBT file and the keys file, each any number of times, and no other
-- name was.
abbrev pub AsksInOrder : Sources → (name keys : List ℕ) → ShelfView → ShelfView → Type 0
AsksInOrder s name keys old new = Asks (s.wallet ∷ s.blocks ∷ name ∷ keys ∷ []) old.asked new.asked

-- Where the PSBT isn't made whole, what making it whole asks for was asked for, and no keys file.
abbrev pub AsksUpTo : Sources → (name keys : List ℕ) → ShelfView → ShelfView → Stop → Type 0
AsksUpTo s name keys old new (stops.Incomplete stop) = completing.AsksUpTo s name old new stop
AsksUpTo s name keys old new stop = AsksInOrder s name keys old new

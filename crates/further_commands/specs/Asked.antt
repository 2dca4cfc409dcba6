-- Which files a command asks for, and in what order.
use Rattle.fund_shelf.specs.Causes.{ShelfView}
use Rattle.command_inputs.specs.Inputs.{AsksInOrder, NoneBehind}
use Rattle.command_settle.specs.Asked as settles
use Rattle.command_sweep.specs.Asked.{asked_by}
use Rattle.further_commands.specs.Command.{FurtherCommand, Wide, Settle, Share, Sweep}

-- The files that its words name are asked for, one after the other, each as often as its reading takes, and no other name is. The
-- log of a payment isn't: it is written. After a file that is refused none is asked for.
abbrev pub AsksFor : FurtherCommand → ShelfView → ShelfView → Type 0
AsksFor (Wide s p) shelf shelf' = AsksInOrder s p shelf shelf' × NoneBehind s shelf shelf'
AsksFor (Settle n) shelf shelf' = settles.AsksFiles n shelf shelf'
AsksFor (Share s p) shelf shelf' = AsksInOrder s p shelf shelf' × NoneBehind s shelf shelf'
AsksFor (Sweep s request) shelf shelf' = AsksInOrder s (asked_by request) shelf shelf' × NoneBehind s shelf shelf'

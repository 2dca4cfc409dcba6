-- The commands beside funding, by their names.
use Rattle.std.specs.Prelude.{ℕ, List}
use Rattle.command_end.specs.Names.{Sources, plain_sources}
use Rattle.command_inputs.specs.Names.{Payment, plain_payment}
use Rattle.command_settle.specs.Names.{Names, plain_names}
use Rattle.further_commands.specs.declared.command.FurtherCommand.{FurtherCommand as Given}
use Rattle.further_commands.specs.declared.command.FurtherCommand.TheVariants as given

-- to fund a payment without change by the wide search; to tell whether a signed transaction is the payment of a report; to fund a
-- payment whose recipients bear the fee; or to pay all coins to the one recipient of a request
pub data FurtherCommand : Type 0 where
  Wide : Sources → Payment → FurtherCommand
  Settle : Names → FurtherCommand
  Share : Sources → Payment → FurtherCommand
  Sweep : Sources → (request : List ℕ) → FurtherCommand

-- a command by its names, without where they lie in memory
abbrev pub plain : Given → FurtherCommand
plain (given.Wide s p) = Wide (plain_sources s) (plain_payment p)
plain (given.Settle n) = Settle (plain_names n)
plain (given.Share s p) = Share (plain_sources s) (plain_payment p)
plain (given.Sweep s request) = Sweep (plain_sources s) request.now

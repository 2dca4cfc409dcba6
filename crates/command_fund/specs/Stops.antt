-- Why a payment stops before it writes or prints.
use Rattle.std.specs.Prelude.{ℕ, List, Option, IsSome}
use Rattle.fund_shelf.specs.Causes.{Rose}
use Rattle.fund_outside.specs.Kept.{KeeperView}
use Rattle.command_inputs.specs.declared.refusal.Stop.{Stop}
use Rattle.command_inputs.specs.declared.refusal.Stop.TheVariants as stops

-- Why a plan isn't kept as a job: the keeper failed, or there was not enough memory. Without a job it isn't asked.
abbrev pub StopsKeeping : Option (List ℕ) → KeeperView → KeeperView → Stop → Type 0
StopsKeeping job keeper keeper' (stops.Read file) = ⊥
StopsKeeping job keeper keeper' (stops.Refused refusal) = ⊥
StopsKeeping job keeper keeper' stops.Keep = IsSome job × Rose keeper.faults keeper'.faults
StopsKeeping job keeper keeper' stops.Memory = Unit {0}

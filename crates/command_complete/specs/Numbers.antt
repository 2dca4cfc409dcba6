-- The numbers and the coin of a refusal, as those of every refusal of the command are.
use Rattle.fault_laws.specs.Numbers.{HasPsbtNumbers, IsNumber}
use Rattle.command_end.specs.Coin.{IsShown}
use Rattle.command_complete.specs.declared.fault.CompleteFault.TheVariants.{Missing, OtherOutput, Memory}
use Rattle.command_complete.specs.declared.stop.Refusal.{Refusal}
use Rattle.command_complete.specs.declared.stop.Refusal.TheVariants as refusals

-- A number has 128 bits at most, and the hash of a coin 32 bytes. No fault of an input is that there was not enough memory.
abbrev pub HasNumbers : Refusal → Type 0
HasNumbers (refusals.Psbt fault) = HasPsbtNumbers fault
HasNumbers refusals.OtherPairs = Unit {0}
HasNumbers (refusals.Input (Missing index coin)) = IsNumber index × IsShown coin
HasNumbers (refusals.Input (OtherOutput index coin)) = IsNumber index × IsShown coin
HasNumbers (refusals.Input Memory) = ⊥

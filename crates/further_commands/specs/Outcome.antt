-- What the files of a command come to.
use Rattle.std.specs.Prelude.{ℕ, ◌≡◌, List}
use Rattle.command_end.specs.declared.status.Status.{Status}
use Rattle.command_sweep.specs.Asked.{asked_by}
use Rattle.command_wide.specs.Outcome as wides
use Rattle.command_settle.specs.Outcome as settles
use Rattle.command_share.specs.Outcome as shares
use Rattle.command_sweep.specs.Outcome as sweeps
use Rattle.further_commands.specs.Command.{FurtherCommand, Wide, Settle, Share, Sweep}

-- what the files of one of the commands come to
pub data Outcome : Type 0 where
  OfWide : wides.Outcome → Outcome
  OfSettle : settles.Outcome → Outcome
  OfShare : shares.Outcome → Outcome
  OfSweep : sweeps.Outcome → Outcome

-- what a command comes to, by the content of files
abbrev pub ComesTo : (List ℕ → List ℕ) → FurtherCommand → Outcome → Type 0
ComesTo files (Wide s p) o = o ≡ OfWide (wides.outcome_of files s p)
ComesTo files (Settle n) o = (due : settles.Outcome) × settles.ComesTo files n due × (o ≡ OfSettle due)
ComesTo files (Share s p) o = o ≡ OfShare (shares.outcome_of files s p)
ComesTo files (Sweep s request) o = o ≡ OfSweep (sweeps.outcome_of files s (asked_by request))

-- the files are refused, or what they hold is
abbrev pub IsRefusal : Outcome → Type 0
IsRefusal (OfWide due) = wides.IsRefusal due
IsRefusal (OfSettle due) = settles.IsASettlement due → ⊥
IsRefusal (OfShare due) = shares.IsRefusal due
IsRefusal (OfSweep due) = sweeps.IsRefusal due

-- the status of that, where nothing fails
abbrev pub status_of : Outcome → Status
status_of (OfWide due) = wides.status_of due
status_of (OfSettle due) = settles.status_of due
status_of (OfShare due) = shares.status_of due
status_of (OfSweep due) = sweeps.status_of due

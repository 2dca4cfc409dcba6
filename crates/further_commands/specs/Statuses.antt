-- How a command ends, by its status.
use Rattle.std.specs.Prelude.{ℕ, ◌≡◌, List}
use Rattle.fund_shelf.specs.Causes.{ShelfView, SinkView, Rose, SameElsewhere}
use Rattle.command_end.specs.declared.status.Status.{Status}
use Rattle.command_end.specs.declared.status.Status.TheVariants as statuses
use Rattle.command_sweep.specs.Asked.{asked_by}
use Rattle.command_wide.specs.Statuses as wides
use Rattle.command_settle.specs.Statuses as settles
use Rattle.command_share.specs.Statuses as shares
use Rattle.command_sweep.specs.Statuses as sweeps
use Rattle.further_commands.specs.Command.{FurtherCommand, Wide, Settle, Share, Sweep}

-- how a command ends, by its status. None ends with usage, and none with a status of a kept job or of a report that is checked
abbrev pub Ends : (told_files told : Type 0) → FurtherCommand → ShelfView → ShelfView → SinkView → SinkView → Status → Type 0
Ends told_files told (Wide s p) shelf shelf' sink sink' status = wides.Ends told_files told s p shelf shelf' sink sink' status
Ends told_files told (Settle n) shelf shelf' sink sink' status = settles.Ends told_files told n shelf shelf' sink sink' status
Ends told_files told (Share s p) shelf shelf' sink sink' status = shares.Ends told_files told s p shelf shelf' sink sink' status
Ends told_files told (Sweep s request) shelf shelf' sink sink' status = sweeps.Ends told_files told s (asked_by request) shelf shelf' sink sink' status

-- a refusal of the input: a rule that a file breaks, or what it asks for, with its line
abbrev pub EndsInput : (told_files told : Type 0) → FurtherCommand → ShelfView → SinkView → SinkView → Type 0
EndsInput told_files told (Wide s p) shelf sink sink' = wides.EndsInput told_files told s p shelf sink sink'
EndsInput told_files told (Settle n) shelf sink sink' = settles.EndsRefused statuses.Input told_files told n shelf sink sink'
EndsInput told_files told (Share s p) shelf sink sink' = shares.EndsInput told_files told s p shelf sink sink'
EndsInput told_files told (Sweep s request) shelf sink sink' = sweeps.EndsInput told_files told s (asked_by request) shelf sink sink'

-- a signed transaction that isn't the payment of its report, or doesn't pay what was asked, with its line
abbrev pub EndsUnsettled : (told_files told : Type 0) → FurtherCommand → ShelfView → SinkView → SinkView → Type 0
EndsUnsettled told_files told (Wide s p) shelf sink sink' = ⊥
EndsUnsettled told_files told (Settle n) shelf sink sink' = settles.EndsRefused statuses.Settle told_files told n shelf sink sink'
EndsUnsettled told_files told (Share s p) shelf sink sink' = ⊥
EndsUnsettled told_files told (Sweep s request) shelf sink sink' = ⊥

-- what a command leaves as it was: every file, but for the log of a payment
abbrev pub KeepsOthers : FurtherCommand → (List ℕ → List ℕ) → (List ℕ → List ℕ) → Type 0
KeepsOthers (Wide s p) old new = SameElsewhere p.log old new
KeepsOthers (Settle n) old new = new ≡ old
KeepsOthers (Share s p) old new = SameElsewhere p.log old new
KeepsOthers (Sweep s request) old new = new ≡ old

-- no read of a file of the command failed
abbrev pub NoneUnread : FurtherCommand → ShelfView → ShelfView → Type 0
NoneUnread (Wide s p) shelf shelf' = wides.NoneUnread s p shelf shelf'
NoneUnread (Settle n) shelf shelf' = settles.NoneUnread n shelf shelf'
NoneUnread (Share s p) shelf shelf' = shares.NoneUnread s p shelf shelf'
NoneUnread (Sweep s request) shelf shelf' = sweeps.NoneUnread s (asked_by request) shelf shelf'

-- the writing of its log failed
abbrev pub IsLogUnwritten : FurtherCommand → ShelfView → ShelfView → Type 0
IsLogUnwritten (Wide s p) shelf shelf' = Rose (shelf.writes p.log) (shelf'.writes p.log)
IsLogUnwritten (Settle n) shelf shelf' = ⊥
IsLogUnwritten (Share s p) shelf shelf' = Rose (shelf.writes p.log) (shelf'.writes p.log)
IsLogUnwritten (Sweep s request) shelf shelf' = ⊥

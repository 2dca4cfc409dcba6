-- A status that tells what is printed whole: what it says of the sink, and that no stop has one.
use Rattle.std.proofs.Common.{◌≡◌, ℕ, List, subst, ◌∙◌}
use Rattle.std.specs.Prelude.{◌≢◌}
use Rattle.fund_shelf.specs.Causes.{SinkView}
use Rattle.fund_files.specs.Cause as causes
use Rattle.fund_files.specs.Cause.{FileCause}
use Rattle.command_end.specs.AnswerLines.{IsAnswered, IsWanting}
use Rattle.command_end.specs.Lines.{status_of_file}
use Rattle.command_end.specs.Printed.{TellsWhole, TookAll}
use Rattle.command_end.specs.declared.status.Status.{Status}
use Rattle.command_end.specs.declared.status.Status.TheVariants as statuses

-- a report that is put, with a status of neither fault of the sink
pub put_whole : (sink sink' : SinkView) (result : Status) → (result ≢ statuses.WriteFault → result ≢ statuses.Memory → TookAll sink sink') → TellsWhole result → TookAll sink sink'
put_whole sink sink' result took whole = took (λ e. subst TellsWhole e whole) (λ e. subst TellsWhole e whole)

-- a result that is a status which tells no such thing
pub not_whole : (status result : Status) → (TellsWhole status → ⊥) → result ≡ status → TellsWhole result → ⊥
not_whole status result stops is whole = stops (subst TellsWhole is whole)

pub wanting_stops : (told : Type 0) (sink sink' : SinkView) (result : Status) → IsWanting told sink sink' result → TellsWhole result → ⊥
wanting_stops told sink sink' result w whole = subst TellsWhole w.0 whole

pub answered_stops : (told : Type 0) (words : List ℕ) (status : Status) (sink sink' : SinkView) (result : Status) → (TellsWhole status → ⊥) → IsAnswered told words status sink sink' result → TellsWhole result → ⊥
answered_stops told words status sink sink' result stops a whole = stops (subst TellsWhole a.0 whole)

pub file_stops : (cause : FileCause) → TellsWhole (status_of_file cause) → ⊥
file_stops (causes.TooLong file) whole = whole
file_stops (causes.BadWallet fault) whole = whole
file_stops (causes.BadBlocks fault) whole = whole
file_stops (causes.RepeatCoin coin) whole = whole
file_stops causes.ManyCoins whole = whole
file_stops (causes.BadRequest fault) whole = whole

-- one put behind another
pub took_on : (sink middle sink' : SinkView) → TookAll sink middle → TookAll middle sink' → TookAll sink sink'
took_on sink middle sink' first rest = record { faults = rest.faults ∙ first.faults; refusals = rest.refusals ∙ first.refusals }

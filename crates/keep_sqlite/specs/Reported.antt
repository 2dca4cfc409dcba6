-- What an answer of the database is told as.
use Rattle.std.specs.Prelude.{◌≡◌, Result, Ok, Err}
use Rattle.fund_outside.specs.declared.keeper.KeepFault.{KeepFault}
use Rattle.fund_outside.specs.declared.keeper.KeepFault.TheVariants.{Failed, Memory}
use Rattle.sqlite.specs.declared.error.Error.{Error}
use Rattle.sqlite.specs.declared.error.Error.TheVariants.{SqliteFailure}
use Rattle.sqlite.specs.declared.error.ErrorCode.TheVariants.{OutOfMemory}

-- that it was out of memory as that, and every other one as a failure
abbrev pub reported_as : Error → KeepFault
reported_as (SqliteFailure OutOfMemory) = Memory
reported_as _ = Failed

-- what it gave as that
abbrev pub reported_answer : {T : Type 0} → Result T Error → Result T KeepFault
reported_answer (Ok given) = Ok given
reported_answer (Err error) = Err (reported_as error)

-- the result tells an answer that is so
abbrev pub Reports : {T : Type 0} → (Result T Error → Type 0) → Result T KeepFault → Type 0
Reports IsSo result = (answer : Result _ Error) × IsSo answer × (result ≡ reported_answer answer)

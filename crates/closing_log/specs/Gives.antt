-- What a reader of the code answers, beside reading on lists.
use Rattle.std.specs.Prelude.{ℕ, ◌≡◌, ◌+◌, List, length, Result, Ok, Err}
use Rattle.std.specs.Borrow.{Bor}
use Rattle.closing_log.specs.declared.fault.LineFault.{LineFault}
use Rattle.closing_log.specs.declared.fault.LineFault.TheVariants as lines
use Rattle.closing_log.specs.declared.fault.LogTextFault.{LogTextFault}
use Rattle.closing_log.specs.declared.fault.LogTextFault.TheVariants as faults
use Rattle.closing_log.specs.Exact.{IsFirstFault}
use Rattle.closing_log.specs.Log.{PlainLog}
use Rattle.closing_log.specs.LogText.{IsLogText, IsCount}

-- What a call returned, seen by view, is what reading gives, unless memory ran out.
abbrev pub Fails : {Y : Type 0} → LineFault → Result Y (List ℕ) → Type 0
Fails lines.Memory read = Unit {0}
Fails (lines.Form stop) read = read ≡ Err stop.now

abbrev pub Gives : {X Y : Type 0} → (X → Y) → Result X LineFault → Result Y (List ℕ) → Type 0
Gives view (Ok x) read = read ≡ Ok (view x)
Gives view (Err e) read = Fails e read

-- The same of a call that takes no memory, whose error is what is left.
abbrev pub Reads : {X Y : Type 0} → (X → Y) → Result X (Bor (List ℕ)) → Result Y (List ℕ) → Type 0
Reads view (Ok x) read = read ≡ Ok (view x)
Reads view (Err stop) read = read ≡ Err stop.now

-- where the bytes that are left begin
pub record IsPlaceOf (bytes : List ℕ) (read : Result PlainLog (List ℕ × ℕ)) (place sections : ℕ) : Type 0 where
  pub stop : List ℕ
  pub is : read ≡ Err (stop, sections)
  pub place_is : place + length stop ≡ length bytes

abbrev pub Agrees : List ℕ → Result PlainLog LogTextFault → Result PlainLog (List ℕ × ℕ) → Type 0
Agrees bytes (Ok log) read = read ≡ Ok log
Agrees bytes (Err faults.Memory) read = Unit {0}
Agrees bytes (Err (faults.Form place sections)) read = IsPlaceOf bytes read place sections

-- what is told of bytes that are no text: the place of the first fault, and how many sections stand before it
abbrev pub IsLogTextFault : List ℕ → LogTextFault → Type 0
IsLogTextFault bytes faults.Memory = Unit {0}
IsLogTextFault bytes (faults.Form place sections) = IsFirstFault IsLogText bytes place × IsCount bytes place sections

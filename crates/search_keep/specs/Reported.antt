-- What reading a saved text answers.
use Rattle.std.specs.Prelude.{ℕ, ◌≡◌, ◌+◌, List, length, Result, Ok, Err}
use Rattle.closing_log.specs.Exact.{IsFirstFault}
use Rattle.search_keep.specs.declared.fault.SavedFault.{SavedFault}
use Rattle.search_keep.specs.declared.fault.SavedFault.TheVariants as faults
use Rattle.search_keep.specs.SavedText.{IsSavedText, PlainSaved}

-- where the bytes that are left begin
pub record IsPlaceOf (bytes : List ℕ) (read : Result PlainSaved (List ℕ)) (place : ℕ) : Type 0 where
  pub stop : List ℕ
  pub is : read ≡ Err stop
  pub place_is : place + length stop ≡ length bytes

abbrev pub Agrees : List ℕ → Result PlainSaved SavedFault → Result PlainSaved (List ℕ) → Type 0
Agrees bytes (Ok saved) read = read ≡ Ok saved
Agrees bytes (Err faults.Memory) read = Unit {0}
Agrees bytes (Err (faults.Form place)) read = IsPlaceOf bytes read place
Agrees bytes (Err _) read = ⊥

-- what is told of bytes that are no saved text: the place of the first fault
abbrev pub IsSavedTextFault : List ℕ → SavedFault → Type 0
IsSavedTextFault bytes faults.Memory = Unit {0}
IsSavedTextFault bytes (faults.Form place) = IsFirstFault IsSavedText bytes place
IsSavedTextFault bytes _ = ⊥

-- Calls that are made twice.
use Rattle.std.specs.Prelude.{ℕ, ◌≡◌, List, Option}
use Rattle.command_end.specs.declared.status.Status.{Status}
use Rattle.fund_top.specs.Words.{Command}
use Rattle.fund_calls.specs.Call.{IsCall}
use Rattle.fund_calls.specs.Given.{PlainGiven}

-- two calls have one status, and give the same print, log and job
pub record AreSame (a b : Status) (printed log kept printed' log' kept' : List ℕ) : Type 0 where
  pub status : a ≡ b
  pub print : printed ≡ printed'
  pub logs : log ≡ log'
  pub job : kept ≡ kept'

-- The words give the same each time on these bytes, and with this packed job where one is given.
abbrev pub GivesTheSame : Option Command → PlainGiven → Option (List ℕ) → Type 0
GivesTheSame words g job =
    (a b : Status) (printed log kept printed' log' kept' : List ℕ) → IsCall words g job a printed log kept → IsCall words g job b printed' log' kept' → AreSame a b printed log kept printed' log' kept'

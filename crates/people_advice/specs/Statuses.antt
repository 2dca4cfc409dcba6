-- The statuses with which the program ends, by their numbers.
use Rattle.std.specs.Prelude.{ℕ, ◌==◌, List, codes, find, Option, Some, None}
use Rattle.fund_base.specs.Decimal.{number_of}
use Rattle.command_end.specs.StatusCode.{code_of}
use Rattle.command_end.specs.declared.status.Status.{Status}
use Rattle.command_end.specs.declared.status.Status.TheVariants as statuses
use Rattle.people_advice.specs.declared.statuses.TheConstants.{STATUSES}

-- by the number that a word spells
abbrev pub status_by : Option ℕ → Option Status
status_by None = None
status_by (Some code) = find (λ (s : Status). code_of s == code) STATUSES

-- the status whose number the word is, in decimal digits
unfoldable pub status_numbered : List ℕ → Option Status
status_numbered word = status_by (number_of 255 word)

-- what it means, and what to do
unfoldable pub status_sentence : Status → List ℕ
status_sentence statuses.Done = codes "It is done: what was asked for is shown whole."
status_sentence statuses.Usage = codes "The words are no command: --help behind a command shows how it is spelled."
status_sentence statuses.Input = codes "A file, or what is asked for, is refused: the line that was printed says which, and explain says more of it."
status_sentence statuses.ReadFault = codes "A file could not be read: look whether its name is right, and whether you may read it."
status_sentence statuses.WriteFault = codes "A new file was not written, or what was to be shown was not: look at its folder and the disk, and whether it is there already."
status_sentence statuses.KeepFault = codes "The file of kept jobs could not be read or written: look whether it is yours, and not used by another program."
status_sentence statuses.Memory = codes "The machine has too little memory: try again with less beside it."
status_sentence statuses.Saved = codes "A kept job is refused: it is not there, or it is not one of these files and this request."
status_sentence statuses.Limit = codes "A file is too long, or there are too many coins or tries: the line that was printed says which."
status_sentence statuses.Unfinished = codes "The tries were used up before the search was done, and nothing is paid: give more tries, or take the best so far."
status_sentence statuses.NoSelection = codes "No coins pay for what is asked: ask for less, pay a lower rate, or let more coins be spent."
status_sentence statuses.CheckRefused = codes "The report and its log are not accepted: the line that was printed says why."
status_sentence statuses.Settle = codes "The signed transaction is not the payment of the report, or does not pay what was asked: the line that was printed says why."

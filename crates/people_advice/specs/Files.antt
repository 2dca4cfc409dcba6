-- A new file that is there already.
use Rattle.std.specs.Prelude.{ℕ, Bool, List, ◌++◌, codes, if◌then◌else◌}

-- what is said of the new files before one that was not written, where any is asked for
abbrev pub earlier_words : Bool → List ℕ
earlier_words any = if any then codes " The files asked for before it, in the order request, log, report and PSBT, were written." else codes ""

-- a new file that was there before
unfoldable pub there_text : (name : List ℕ) → (earlier_written : Bool) → List ℕ
there_text name earlier_written = codes "The file " ++ (name ++ (codes " is there already, and stays as it was: name a new file." ++ earlier_words earlier_written))

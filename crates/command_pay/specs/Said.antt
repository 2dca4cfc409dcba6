-- What is said of a payment whose fee is too great, that was not written, or whose change may be lost.
use Rattle.std.specs.Prelude.{ℕ, Bool, List, ◌++◌, codes, if◌then◌else◌}
use Rattle.std.specs.Fmt.{decimal}

-- a fee that is above the greatest that is taken, both in satoshi
unfoldable pub high_fee_text : (fee most : ℕ) → List ℕ
high_fee_text fee most = codes "The fee of " ++ (decimal fee ++ (codes " sat is above " ++ (decimal most ++ codes " sat, the greatest that is taken: give less for --fee-rate, or more for --max-fee.")))

-- what is said of the new files before one that was not written, where any is asked for
abbrev pub earlier_words : Bool → List ℕ
earlier_words any = if any then codes " The files asked for before it, in the order request, log, report and PSBT, were written." else codes ""

-- a new file that was not written, or in part
unfoldable pub unwritten_text : (name : List ℕ) → (earlier_written : Bool) → List ℕ
unwritten_text name earlier_written = codes "The file " ++ (name ++ (codes " was not written: it is there already, its folder is missing or closed to you, or the disk is full; name a new file. A part of it may stand there." ++ earlier_words earlier_written))

-- change to a script that the wallet doesn't watch
unfoldable pub change_warning : List ℕ
change_warning = codes "warning The change script is not among the scripts of the wallet: change would be lost from sight, or be another's."

-- change, where the wallet file could not be read to look whether its script is watched
unfoldable pub unread_warning : List ℕ
unread_warning = codes "warning The wallet file could not be read again: look whether the change script is yours."

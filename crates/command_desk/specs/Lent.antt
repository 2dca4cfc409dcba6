-- A line by its words, without where they lie in memory.
use Rattle.std.specs.Prelude.{ℕ, ◌==◌, ◌||◌, List, Bool, codes, bytes_eq, length, reverse, Option, Some, None, Result, Ok, Err, if◌then◌else◌}
use Rattle.hex.specs.Hex.{decode_of}
use Rattle.hex.specs.declared.error.FromHexError.{FromHexError}
use Rattle.command_desk.specs.Line as lines
use Rattle.command_desk.specs.declared.line.Line.{Line}
use Rattle.command_desk.specs.declared.line.Line.TheVariants.{Open, Turn, Commit, Close, Release, Blocks, Pending, Other}

-- the line that is lent
abbrev pub plain_line : Line → lines.Line
plain_line (Open name file) = lines.Open name.now file.now
plain_line (Turn name tries) = lines.Turn name.now tries
plain_line (Commit name) = lines.Commit name.now
plain_line (Close name) = lines.Close name.now
plain_line (Release txid) = lines.Release txid
plain_line (Blocks file) = lines.Blocks file.now
plain_line (Pending hex) = lines.Pending hex.now
plain_line Other = lines.Other

-- the txid that bytes show, if they are 32
abbrev pub txid_in : Result (List ℕ) FromHexError → Option (List ℕ)
txid_in (Err error) = None
txid_in (Ok bytes) = if length bytes == 32 then Some (reverse bytes) else None

-- the txid that a word shows
abbrev pub txid_word : List ℕ → Option (List ℕ)
txid_word word = txid_in (decode_of word)

-- a verb that names a job alone
abbrev pub is_job_verb : List ℕ → Bool
is_job_verb verb = bytes_eq verb (codes "commit") || bytes_eq verb (codes "close")

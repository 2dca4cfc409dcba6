-- What a line of a script says.
use Rattle.std.specs.Prelude.{ℕ, ◌≡◌, ◌≢◌, ◌≤◌, ◌<◌, ◌==◌, ◌&&◌, List, [], ◌∷◌, All, Bool, codes, length, bytes_eq, nat_le, nat_lt, reverse, Option, Some, None, Result, Ok, Err, if◌then◌else◌}
use Rattle.std.specs.Fmt.{decimal}
use Rattle.std.specs.Str.{IsUtf8, is_utf8}
use Rattle.hex.specs.Hex.{decode_of}
use Rattle.hex.specs.declared.error.FromHexError.{FromHexError}
use Rattle.fund_base.specs.Decimal.{number_of}
use Rattle.desk_machine.specs.Commands as commands
use Rattle.desk_machine.specs.Commands.{Command}
use Rattle.fund_outside.specs.JobName.{IsJobName, is_job_name}
use Rattle.command_desk.specs.Script.{three_words, two_words, words_of}

-- a command, by the names of its files; or any other line
pub data Line : Type 0 where
  Open : (name file : List ℕ) → Line
  Turn : (name : List ℕ) → (tries : ℕ) → Line
  Commit : (name : List ℕ) → Line
  Close : (name : List ℕ) → Line
  Release : (txid : List ℕ) → Line
  Blocks : (file : List ℕ) → Line
  Pending : (hex : List ℕ) → Line
  Other : Line

-- ---- meaning

-- a file's name in a line: one or more bytes of UTF-8 text without a blank
pub record IsFileWord (file : List ℕ) : Type 0 where
  pub some : 0 < length file
  pub text : IsUtf8 file
  pub plain : All (λ b. b ≢ 32) file

-- a txid in a line: it is the bytes of 64 hex digits, in either case, from the last to the first
abbrev pub IsTxidWord : List ℕ → List ℕ → Type 0
IsTxidWord word txid = (decode_of word ≡ Ok (reverse txid)) × (length txid ≡ 32)

-- The line says this: the words of a command, with one blank between them.
abbrev pub Says : List ℕ → Line → Type 0
Says line (Open name file) = (line ≡ three_words (codes "open") name file) × IsJobName name × IsFileWord file
Says line (Turn name tries) = (line ≡ three_words (codes "turn") name (decimal tries)) × IsJobName name × (1 ≤ tries) × (tries ≤ 10_000_000)
Says line (Commit name) = (line ≡ two_words (codes "commit") name) × IsJobName name
Says line (Close name) = (line ≡ two_words (codes "close") name) × IsJobName name
Says line (Release txid) = (word : List ℕ) × (line ≡ two_words (codes "release") word) × IsTxidWord word txid
Says line (Blocks file) = (line ≡ two_words (codes "blocks") file) × IsFileWord file
Says line (Pending hex) = (line ≡ two_words (codes "pending") hex) × (0 < length hex) × All (λ b. b ≢ 32) hex
Says line Other = Unit {0}

-- ---- the same, worked out

abbrev pub is_file_word : List ℕ → Bool
is_file_word file = nat_lt 0 (length file) && is_utf8 file

abbrev pub where_fits : Bool → Line → Line
where_fits fits line = if fits then line else Other

abbrev pub by_tries : List ℕ → Option ℕ → Line
by_tries name None = Other
by_tries name (Some n) = where_fits (is_job_name name && nat_le 1 n) (Turn name n)

abbrev pub by_hash : Result (List ℕ) FromHexError → Line
by_hash (Err error) = Other
by_hash (Ok bytes) = where_fits (length bytes == 32) (Release (reverse bytes))

-- of two words behind a verb
abbrev pub by_two : (verb a b : List ℕ) → Line
by_two verb a b =
    if bytes_eq verb (codes "open") then where_fits (is_job_name a && is_file_word b) (Open a b)
    else if bytes_eq verb (codes "turn") then by_tries a (number_of 10_000_000 b)
    else Other

-- of one
abbrev pub by_one : (verb a : List ℕ) → Line
by_one verb a =
    if bytes_eq verb (codes "commit") then where_fits (is_job_name a) (Commit a)
    else if bytes_eq verb (codes "close") then where_fits (is_job_name a) (Close a)
    else if bytes_eq verb (codes "release") then by_hash (decode_of a)
    else if bytes_eq verb (codes "blocks") then where_fits (is_file_word a) (Blocks a)
    else if bytes_eq verb (codes "pending") then where_fits (nat_lt 0 (length a)) (Pending a)
    else Other

abbrev pub by_words : List (List ℕ) → Line
by_words (verb ∷ a ∷ b ∷ []) = by_two verb a b
by_words (verb ∷ a ∷ []) = by_one verb a
by_words words = Other

-- what a line says
abbrev pub line_of : List ℕ → Line
line_of line = by_words (words_of line)

-- ---- its command

-- the file that the line names, and the most bytes that it may have
pub record Wanted : Type 0 where
  pub file : List ℕ
  pub most : ℕ

abbrev pub wanted : Line → Option Wanted
wanted (Open name file) = Some (record { file = file; most = 1_048_576 })
wanted (Blocks file) = Some (record { file = file; most = 67_108_864 })
wanted (Turn name tries) = None
wanted (Commit name) = None
wanted (Close name) = None
wanted (Release txid) = None
wanted (Pending hex) = None
wanted Other = None

-- the command of a line, by the content of files
abbrev pub command_of : (List ℕ → List ℕ) → Line → Option Command
command_of files (Open name file) = Some (commands.Open name (files file))
command_of files (Turn name tries) = Some (commands.Turn name tries)
command_of files (Commit name) = Some (commands.Commit name)
command_of files (Close name) = Some (commands.Close name)
command_of files (Release txid) = Some (commands.Release txid)
command_of files (Blocks file) = Some (commands.Blocks (files file))
command_of files (Pending hex) = Some (commands.Pending hex)
command_of files Other = None

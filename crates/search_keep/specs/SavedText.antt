-- A saved position as a text of nine lines: a line that names the format, and a line for each thing that is saved. In the
-- second version of the format a tenth line has a digest of the log.
use Rattle.std.specs.Prelude.{ℕ, ◌≡◌, ◌≤◌, ◌<◌, ◌+◌, List, [], ◌∷◌, ◌++◌, length, All, codes, Option, Some, None, IfSome}
use Rattle.std.specs.List.{AllByRecursion}
use Rattle.std.specs.Fmt.{decimal}
use Rattle.hex.specs.Hex.{encode_lower}
use Rattle.closing_log.specs.declared.log.Stage.{Stage}
use Rattle.search_keep.specs.declared.saved.Version.{Version}
use Rattle.search_keep.specs.declared.saved.Version.TheVariants.{First, Second}
use Rattle.closing_log.specs.LogText.{HasSmallPlaces, IsAnswer, IsDigest, IsSearched, answer_text, places_text, stage_word}

-- what is saved: the digest of the job; its tries, and the row and the stage of the search that goes on; the chosen
-- places, the next place and the best selection so far of that search; in how many parts the log is kept; and the digest
-- of these parts joined, where it is kept
pub record PlainSaved : Type 0 where
  pub job : List ℕ
  pub tries : ℕ
  pub row : ℕ
  pub stage : Stage
  pub chosen : List ℕ
  pub next : ℕ
  pub best : Option (List ℕ)
  pub parts : ℕ
  pub log : Option (List ℕ)

-- ---- lines

-- a line: its name and a blank, what it says, and a line feed
abbrev pub line : List ℕ → List ℕ → List ℕ
line name said = name ++ (said ++ codes "\n")

-- chosen places, or `-` where none is chosen
abbrev pub chosen_text : List ℕ → List ℕ
chosen_text [] = codes "-"
chosen_text (p ∷ ps) = places_text (p ∷ ps)

-- the lines behind the stage; places have a blank between them, and a best selection that there isn't is `none`
abbrev pub position_text : PlainSaved → List ℕ
position_text s =
    line (codes "chosen ") (chosen_text s.chosen) ++ (line (codes "next ") (decimal s.next) ++ (line (codes "best ") (answer_text s.best) ++ line (codes "parts ") (decimal s.parts)))

-- the version of the text: the second where a digest of the log is kept
abbrev pub version_of : Option (List ℕ) → Version
version_of None = First
version_of (Some digest) = Second

abbrev pub version_word : Version → List ℕ
version_word First = codes "1"
version_word Second = codes "2"

-- the line of the log's digest, where one is kept; `digits` are those of it
abbrev pub log_text : (digits : List ℕ) → Option (List ℕ) → List ℕ
log_text digits None = []
log_text digits (Some digest) = line (codes "log ") digits

-- the whole text; `job` are the digits of the job's digest, and `log` those of the log's
unfoldable pub saved_text : (job log : List ℕ) → PlainSaved → List ℕ
saved_text job log s =
    line (codes "fund-saved ") (version_word (version_of s.log))
    ++ (line (codes "job ") job ++ (line (codes "tries ") (decimal s.tries) ++ (line (codes "row ") (decimal s.row) ++ (line (codes "stage ") (stage_word s.stage) ++ (position_text s ++ log_text log s.log)))))

-- the digits that are written of the log's digest
abbrev pub log_digits : Option (List ℕ) → List ℕ
log_digits None = []
log_digits (Some digest) = encode_lower digest

-- the text that is written, with its digests in lower case
abbrev pub text_of : PlainSaved → List ℕ
text_of s = saved_text (encode_lower s.job) (log_digits s.log) s

-- ---- what has a text

-- a search goes on, its best selection isn't empty, and each part but the first was written behind a try
pub record CanBeSaved (s : PlainSaved) : Type 0 where
  pub stage : IsSearched s.stage
  pub best : IsAnswer s.best
  pub some : 1 ≤ s.parts
  pub parts : s.parts ≤ s.tries + 1

-- numbers that fit: tries in eight bytes, a row in one, the others in four
pub record HasNumbers (s : PlainSaved) : Type 0 where
  pub tries : s.tries ≤ 18_446_744_073_709_551_615
  pub row : s.row ≤ 255
  pub chosen : AllByRecursion (λ p. p ≤ 4_294_967_295) s.chosen
  pub next : s.next ≤ 4_294_967_295
  pub best : HasSmallPlaces s.best
  pub parts : s.parts ≤ 4_294_967_295

-- 32 bytes
abbrev pub IsDigestOf : List ℕ → Type 0
IsDigestOf digest = (length digest ≡ 32) × All (λ b. b < 256) digest

-- and digests of 32 bytes
pub record IsSized (s : PlainSaved) : Type 0 where
  pub job : IsDigestOf s.job
  pub log : IfSome s.log IsDigestOf
  pub numbers : HasNumbers s

-- ---- the relation between bytes and what is saved

-- the bytes are a text of this position; the digits of its digests are in either case
pub record IsSavedText (bytes : List ℕ) (s : PlainSaved) : Type 0 where
  pub digits : List ℕ
  pub log_digits : List ℕ
  pub lines : bytes ≡ saved_text digits log_digits s
  pub job : IsDigest digits s.job
  pub log : IfSome s.log (IsDigest log_digits)
  pub can : CanBeSaved s
  pub numbers : HasNumbers s

-- What a keeper has of a job: its saved text, and the parts of its log.
use Rattle.std.specs.Prelude.{ℕ, ◌≡◌, ◌≤◌, List, [], ◌∷◌, ◌++◌, length, take, Option, Some, IfSome}
use Rattle.sha2.specs.Sha256.{sha256}
use Rattle.closing_log.specs.Log.{PlainLog}
use Rattle.closing_log.specs.LogText.{IsLogText}
use Rattle.fund_outside.specs.Kept.{KeptJob, parts_in}
use Rattle.search_keep.specs.Resumed.{MayGoOn}
use Rattle.search_keep.specs.SavedText.{IsSavedText, PlainSaved}

-- parts one behind the other
abbrev pub joined : List (List ℕ) → List ℕ
joined [] = []
joined (part ∷ parts) = part ++ joined parts

-- the greatest length of all parts of a job that are counted, in bytes
abbrev pub most_bytes : ℕ
most_bytes = 67_108_864

-- the job is there, and its saved text says this position
pub record HasSaved (o : Option KeptJob) (saved : PlainSaved) : Type 0 where
  pub job : KeptJob
  pub is : o ≡ Some job
  pub text : IsSavedText job.saved saved

-- and it is the job of these files, with tries left
pub record HasDue (now : List ℕ) (o : Option KeptJob) (saved : PlainSaved) : Type 0 where
  pub has : HasSaved o saved
  pub due : MayGoOn saved now

-- so many parts are there, and joined they are these bytes, which are within the limit
pub record HasParts (o : Option KeptJob) (count : ℕ) (bytes : List ℕ) : Type 0 where
  pub there : count ≤ length (parts_in o)
  pub are : bytes ≡ joined (take count (parts_in o))
  pub fits : length bytes ≤ most_bytes

-- what is saved, with this digest of the log
abbrev pub with_log : PlainSaved → List ℕ → PlainSaved
with_log saved digest = record saved { log = Some digest }

-- the digest of the log that is saved with a position is this one, if one is saved
abbrev pub IsOfLog : PlainSaved → List ℕ → Type 0
IsOfLog saved digest = IfSome saved.log (λ kept. kept ≡ digest)

-- What is loaded of a job: the position of its saved text, which is due, and the log of which its counted parts, joined,
-- are a text; the saved digest of the log, if there is one, is that of these parts. Parts behind the counted ones don't
-- matter.
pub record IsLoaded (now : List ℕ) (o : Option KeptJob) (saved : PlainSaved) (log : PlainLog) (bytes : List ℕ) : Type 0 where
  pub due : HasDue now o saved
  pub parts : HasParts o saved.parts bytes
  pub digest : IsOfLog saved (sha256 bytes)
  pub text : IsLogText bytes log

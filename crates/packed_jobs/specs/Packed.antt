-- A kept job as one string of bytes.
use Rattle.std.specs.Prelude.{ℕ, ◌≡◌, ◌<◌, ◌≤◌, ◌^◌, ◌==◌, ◌||◌, ◌++◌, List, [], length, All, nat_lt, Option, Some, None, Result, Ok, Err, if◌then◌else◌}
use Rattle.fund_base.specs.CompactSize.{counted, prefixed}
use Rattle.fund_base.specs.Cursor.{At, IsBytes, compact_at}
use Rattle.fund_base.specs.Parsing.{◌>>=◌, cut_as, many_at, string_at}
use Rattle.fund_outside.specs.Kept.{KeptJob}
use Rattle.packed_jobs.specs.Fault.{cut_fault}
use Rattle.packed_jobs.specs.declared.fault.PackFault.{PackFault}
use Rattle.packed_jobs.specs.declared.fault.PackFault.TheVariants.{Parts}

-- The saved text after its length, the number of the parts, and each part after its length. Lengths and number are in
-- CompactSize, as Bitcoin spells them (BIP 144 and the protocol's documentation, 'CompactSize').
abbrev pub packed : KeptJob → List ℕ
packed job = prefixed job.saved ++ counted prefixed job.parts

-- bytes whose length a CompactSize tells
abbrev pub IsString : List ℕ → Type 0
IsString x = IsBytes x × (length x < 2 ^ 64)

-- a job can have so many parts, which a keeper tells apart by numbers of 32 bits
abbrev pub HasParts : ℕ → Type 0
HasParts n = (1 ≤ n) × (n ≤ 4_294_967_295)

-- A job that a packed form has: with at least one part, as each that a keeper keeps.
pub record IsPackable (job : KeptJob) : Type 0 where
  pub saved : IsString job.saved
  pub parts : All IsString job.parts
  pub count : HasParts (length job.parts)

-- These bytes are the packed form of a job.
pub record IsPackedJob (bytes : List ℕ) : Type 0 where
  pub job : KeptJob
  pub fits : IsPackable job
  pub is : bytes ≡ packed job

-- These bytes are the packed form of what a keeper has under a name.
abbrev pub IsPackedIn : List ℕ → Option KeptJob → Type 0
IsPackedIn bytes kept = (job : KeptJob) × IsPackable job × (bytes ≡ packed job) × (kept ≡ Some job)

-- the packed form of a job that may be kept, and no bytes where none is
abbrev pub packed_if : Option KeptJob → List ℕ
packed_if None = []
packed_if (Some job) = packed job

-- ---- from left to right, with the first fault in reading order

-- one byte string
abbrev pub item_at : At → Result (List ℕ × At) PackFault
item_at at = cut_as cut_fault (string_at at)

-- the number of the parts, which is tested before any of them is read, and the parts
unfoldable pub parts_at : At → Result (List (List ℕ) × At) PackFault
parts_at at = do
  n ← cut_as cut_fault (compact_at at)
  if (n.0 == 0) || nat_lt 4_294_967_295 n.0 then Err Parts else many_at item_at n.0 n.1

-- a job
unfoldable pub job_at : At → Result (KeptJob × At) PackFault
job_at at = do
  saved ← item_at at
  parts ← parts_at saved.1
  Ok (record { saved = saved.0; parts = parts.0 }, parts.1)

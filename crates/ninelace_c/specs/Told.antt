-- What an export tells its caller: a code, how long the parts of the answer are, and these parts, one after the other at the
-- front of the caller's buffer.
use Rattle.std.specs.Prelude.{ℕ, ◌≡◌, ◌+◌, ◌<◌, ◌++◌, ◌⊎◌, List, length, take, drop, Option, Result, Ok, Err}
use Rattle.command_end.specs.StatusCode.{code_of}
use Rattle.command_end.specs.declared.status.Status.{Status}
use Rattle.packed_jobs.specs.declared.fault.PackFault.{PackFault}
use Rattle.packed_jobs.specs.declared.fault.PackFault.TheVariants.{Memory}
use Rattle.fund_top.specs.Words.{Command}
use Rattle.fund_calls.specs.Call.{IsCall}
use Rattle.fund_calls.specs.Given.{IsNoJob, PlainGiven}
use Rattle.fund_calls.specs.declared.answer.Answer.{Answer}
use Rattle.ninelace_c.specs.declared.sizes.NinelaceSizes.{NinelaceSizes}

-- ---- an answer in a buffer

-- the parts of an answer: what was printed, the log, and the packed job
pub record Parts : Type 0 where
  pub printed : List ℕ
  pub log : List ℕ
  pub job : List ℕ

abbrev pub parts_in : Answer → Parts
parts_in a = record { printed = a.printed.items; log = a.log.items; job = a.job.items }

-- one after the other
abbrev pub joined : Parts → List ℕ
joined p = (p.printed ++ p.log) ++ p.job

-- how long each is, in bytes, and how long all are
abbrev pub sizes_of : Parts → NinelaceSizes
sizes_of p = record { printed = length p.printed; log = length p.log; job = length p.job }

abbrev pub total : NinelaceSizes → ℕ
total s = s.printed + s.log + s.job

abbrev pub no_sizes : NinelaceSizes
no_sizes = record { printed = 0; log = 0; job = 0 }

-- the parts stand at the front of the buffer, which is as it was after them
pub record IsLaid (p : Parts) (old new : List ℕ) : Type 0 where
  pub front : take (total (sizes_of p)) new ≡ joined p
  pub behind : drop (total (sizes_of p)) new ≡ drop (total (sizes_of p)) old

-- ---- the codes of the library's own, beside those of the statuses

abbrev pub memory_code : ℕ
memory_code = 7

abbrev pub short_code : ℕ
short_code = 20

abbrev pub job_code : ℕ
job_code = 21

abbrev pub fault_code : PackFault → ℕ
fault_code Memory = memory_code
fault_code _ = job_code

-- ---- what is told

-- an answer of this status, whose parts stand in the buffer
pub record IsGiven (status : Status) (p : Parts) (code : ℕ) (old new : List ℕ) (sizes : NinelaceSizes) : Type 0 where
  pub code_is : code ≡ code_of status
  pub sizes_are : sizes ≡ sizes_of p
  pub laid : IsLaid p old new

-- that the buffer is too short for an answer; it is as it was, and the sizes tell what is needed
pub record IsShort (p : Parts) (code : ℕ) (old new : List ℕ) (sizes : NinelaceSizes) : Type 0 where
  pub code_is : code ≡ short_code
  pub sizes_are : sizes ≡ sizes_of p
  pub short : length old < total (sizes_of p)
  pub same : new ≡ old

-- no answer, for this cause; the buffer is as it was
pub record IsNone (due code : ℕ) (old new : List ℕ) (sizes : NinelaceSizes) : Type 0 where
  pub code_is : code ≡ due
  pub sizes_are : sizes ≡ no_sizes
  pub same : new ≡ old

-- what is told of what a call returned
abbrev pub IsTold : Result Answer PackFault → (code : ℕ) → (old new : List ℕ) → NinelaceSizes → Type 0
IsTold (Ok a) code old new sizes = IsGiven a.status (parts_in a) code old new sizes ⊎ IsShort (parts_in a) code old new sizes
IsTold (Err fault) code old new sizes = IsNone (fault_code fault) code old new sizes

-- ---- what an export does

-- The words were done on these bytes: all that is promised of the command is true of these parts.
pub record HasAnswer (words : Option Command) (g : PlainGiven) (job : Option (List ℕ)) : Type 0 where
  pub status : Status
  pub parts : Parts
  pub call : IsCall words g job status parts.printed parts.log parts.job

-- It tells an answer, whose code is that of its status; code 20, exactly where the buffer is too short for the answer; code 7 when
-- out of memory; or that the job's bytes are no packed job, code 21.
abbrev pub Tells : Option Command → PlainGiven → Option (List ℕ) → (code : ℕ) → (old new : List ℕ) → NinelaceSizes → Type 0
Tells words g job code old new sizes =
    ((it : HasAnswer words g job) × (IsGiven it.status it.parts code old new sizes ⊎ IsShort it.parts code old new sizes))
    ⊎ (IsNone memory_code code old new sizes ⊎ (IsNoJob job × IsNone job_code code old new sizes))

-- The buffer was given parts of this kind.
pub record Gives (P : Parts → Type 0) (old new : List ℕ) (sizes : NinelaceSizes) : Type 0 where
  pub parts : Parts
  pub is : P parts
  pub sizes_are : sizes ≡ sizes_of parts
  pub laid : IsLaid parts old new

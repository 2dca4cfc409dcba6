-- Jobs that are kept in memory, told by name.
use Rattle.std.specs.Prelude.{ℕ, Bool, List, [], ◌∷◌, Option, Some, None, Vec, string_bytes, bytes_eq, map, if◌then◌else◌}
use Rattle.std.specs.declared.alloc.Global.{Global}
use Rattle.fund_outside.specs.Kept.{KeptJob}
use Rattle.fund_outside.specs.declared.jobs.Job.{Job}

-- the bytes of each of some parts
abbrev pub bytes_of_each : List (Vec ℕ Global) → List (List ℕ)
bytes_of_each parts = map (λ part. part.items) parts

-- a job, without its name
abbrev pub kept_of : Job → KeptJob
kept_of job = record { saved = job.saved.items; parts = bytes_of_each job.parts.items }

-- the job has this name
abbrev pub is_named : List ℕ → Job → Bool
is_named name job = bytes_eq (string_bytes job.name) name

-- the first job that has the name
abbrev pub job_of : List Job → List ℕ → Option KeptJob
job_of [] name = None
job_of (job ∷ jobs) name = if is_named name job then Some (kept_of job) else job_of jobs name

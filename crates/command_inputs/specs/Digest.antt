-- The digest of the job of some files.
use Rattle.std.specs.Prelude.{ℕ, ◌≡◌, List, Option, Some, None}
use Rattle.kept_job.specs.Digest.{job_digest}
use Rattle.command_end.specs.Names.{Sources}
use Rattle.command_inputs.specs.Names.{Payment}

-- of the wallet file, the block file and the request file
abbrev pub digest_in : (List ℕ → List ℕ) → Sources → Payment → List ℕ
digest_in files s p = job_digest (files s.wallet) (files s.blocks) (files p.request)

-- What is taken as the digest where a job may be named: with a job that of the files, where they are told; without one none.
abbrev pub HasDigest : Type 0 → (List ℕ → List ℕ) → Sources → Payment → (job digest : Option (List ℕ)) → Type 0
HasDigest told files s p None digest = digest ≡ None
HasDigest told files s p (Some job) None = ⊥
HasDigest told files s p (Some job) (Some digest) = told → digest ≡ digest_in files s p

-- The digest that names a job.
use Rattle.std.specs.Prelude.{ℕ, ◌++◌, List}
use Rattle.sha2.specs.Sha256.{sha256}

-- by the digests of its wallet file, its block file and its request file
abbrev pub digest_by : (wallet blocks request : List ℕ) → List ℕ
digest_by wallet blocks request = sha256 (wallet ++ (blocks ++ request))

-- by the files
abbrev pub job_digest : (wallet blocks request : List ℕ) → List ℕ
job_digest wallet blocks request = digest_by (sha256 wallet) (sha256 blocks) (sha256 request)

-- What may be the name of a job, of a kept one and of one at a desk.
use Rattle.std.specs.Prelude.{ℕ, ◌≤◌, ◌||◌, ◌&&◌, ◌==◌, List, Bool, length, nat_le, IsTrue}
use Rattle.std.specs.List.{list_all}

-- a letter from A to Z or a to z, a digit, or a hyphen
abbrev pub is_job_byte : ℕ → Bool
is_job_byte b = (nat_le 65 b && nat_le b 90) || ((nat_le 97 b && nat_le b 122) || ((nat_le 48 b && nat_le b 57) || b == 45))

-- 1 to 32 of these
pub record IsJobName (name : List ℕ) : Type 0 where
  pub some : 1 ≤ length name
  pub most : length name ≤ 32
  pub each : IsTrue (list_all is_job_byte name)

-- the same as a test
abbrev pub is_job_name : List ℕ → Bool
is_job_name name = nat_le 1 (length name) && (nat_le (length name) 32 && list_all is_job_byte name)

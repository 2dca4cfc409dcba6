-- The test of a job's name says what it means.
use Rattle.std.specs.Prelude.{ℕ, ◌≡◌, ◌&&◌, List, true, length, nat_le}
use Rattle.std.specs.List.{list_all}
use Rattle.std.proofs.lemmas.Bool.{and_from, and_parts, le-leb, leb-true}
use Rattle.fund_outside.specs.JobName.{IsJobName, is_job_byte, is_job_name}

pub name_there : (name : List ℕ) → is_job_name name ≡ true → IsJobName name
name_there name e =
    let a = and_parts (nat_le 1 (length name)) (nat_le (length name) 32 && list_all is_job_byte name) e in
    let b = and_parts (nat_le (length name) 32) (list_all is_job_byte name) a.1 in
    record { some = leb-true 1 (length name) a.0; most = leb-true (length name) 32 b.0; each = b.1 }

pub name_back : (name : List ℕ) → IsJobName name → is_job_name name ≡ true
name_back name h =
    and_from (nat_le 1 (length name)) (nat_le (length name) 32 && list_all is_job_byte name) (le-leb 1 (length name) h.some)
    (and_from (nat_le (length name) 32) (list_all is_job_byte name) (le-leb (length name) 32 h.most) h.each)

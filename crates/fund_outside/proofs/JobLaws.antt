-- Jobs by name, once one is put in place of another or as one more.
use Rattle.std.specs.Prelude.{◌≡◌, ◌≢◌, ℕ, suc, ◌+◌, ◌-◌, ◌<◌, ◌≤◌, Bool, true, false, cond, List, [], ◌∷◌, ◌++◌, length, take, min, Some, None, is_some, Vec, string_bytes}
use Rattle.std.specs.List.{position_from}
use Rattle.std.specs.declared.alloc.Global.{Global}
use Rattle.std.proofs.Common.{arith, refl, sym, ap, ◌∙◌}
use Rattle.std.proofs.Math.ListN.{set}
use Rattle.std.proofs.lemmas.Bool.{false_from_ne_true}
use Rattle.std.proofs.lemmas.List.{map_push, take_min, take-map}
use Rattle.fund_base.proofs.Lists.{equal_bytes, same_bytes}
use Rattle.fund_outside.specs.Jobs.{bytes_of_each, is_named, job_of, kept_of}
use Rattle.fund_outside.specs.declared.jobs.Job.{Job}

pub pushed : (parts : List (Vec ℕ Global)) (one : Vec ℕ Global) → bytes_of_each (parts ++ one ∷ []) ≡ bytes_of_each parts ++ one.items ∷ []
pushed parts one = map_push (λ (part : Vec ℕ Global). part.items) parts one

pub first_of_each : (first : ℕ) (parts : List (Vec ℕ Global)) → bytes_of_each (take (min first (length parts)) parts) ≡ take first (bytes_of_each parts)
first_of_each first parts = ap (λ (some : List (Vec ℕ Global)). bytes_of_each some) (take_min first parts) ∙ sym (take-map (λ (part : Vec ℕ Global). part.items) first parts)

pub job_first : (name : List ℕ) (job : Job) (jobs : List Job) → is_named name job ≡ true → job_of (job ∷ jobs) name ≡ Some (kept_of job)
job_first name job jobs e = rw e refl

job_later : (name : List ℕ) (job : Job) (jobs : List Job) → is_named name job ≡ false → job_of (job ∷ jobs) name ≡ job_of jobs name
job_later name job jobs e = rw e refl

-- a job of one name has no other
other_named : (name other : List ℕ) (job : Job) → string_bytes job.name ≡ name → other ≢ name → is_named other job ≡ false
other_named name other job is apart = false_from_ne_true _ (λ same. apart (sym (equal_bytes (string_bytes job.name) other same) ∙ is))

-- what putting a job does to the jobs by name
pub record IsPut (name : List ℕ) (job : Job) (before after : List Job) : Type 0 where
  pub put : job_of after name ≡ Some (kept_of job)
  pub others : (other : List ℕ) → other ≢ name → job_of after other ≡ job_of before other

-- a job that stands behind another
behind : (name : List ℕ) (job first : Job) (before after : List Job) → is_named name first ≡ false → IsPut name job before after → IsPut name job (first ∷ before) (first ∷ after)
behind name job first before after apart rest =
    record {
      put = job_later name first after apart ∙ rest.put;
      others = λ other differs. by other (rest.others other differs) (is_named other first) refl;
    }
  where
    by : (other : List ℕ) → job_of after other ≡ job_of before other → (b : Bool) → is_named other first ≡ b → job_of (first ∷ after) other ≡ job_of (first ∷ before) other
    by other same true e = job_first other first after e ∙ sym (job_first other first before e)
    by other same false e = job_later other first after e ∙ (same ∙ sym (job_later other first before e))

-- a job put in place of the first one of its name
pub record IsReplaced (name : List ℕ) (job : Job) (n k : ℕ) (jobs : List Job) : Type 0 where
  pub from : n ≤ k
  pub below : k < n + length jobs
  pub put : IsPut name job jobs (set jobs (k - n) job)
  pub was : is_some (job_of jobs name) ≡ true

pub replaces : (name : List ℕ) (job : Job) → string_bytes job.name ≡ name → (n k : ℕ) (jobs : List Job) → position_from (is_named name) n jobs ≡ Some k → IsReplaced name job n k jobs
replaces name job is n k [] e = absurd cc
replaces name job is n k (x ∷ xs) e = by (λ f. replaces name job is (n + 1) k xs f) (is_named name x) refl e
  where
    by : (position_from (is_named name) (n + 1) xs ≡ Some k → IsReplaced name job (n + 1) k xs) → (b : Bool) → is_named name x ≡ b → cond b (Some n) (position_from (is_named name) (n + 1) xs) ≡ Some k → IsReplaced name job n k (x ∷ xs)
    by rest true named f =
        let same : n ≡ k = cc in
        let here : k - n ≡ 0 = omega arith in
        let name_is : string_bytes x.name ≡ name = equal_bytes (string_bytes x.name) name named in
        record {
          from = omega arith;
          below = omega arith;
          put = rw here
              (record {
                put = job_first name job xs (same_bytes (string_bytes job.name) name is);
                others = λ other differs. job_later other job xs (other_named name other job is differs) ∙ sym (job_later other x xs (other_named name other x name_is differs));
              });
          was = rw (job_first name x xs named) refl;
        }
    by rest false apart f =
        let found : IsReplaced name job (n + 1) k xs = rest f in
        let later : k - n ≡ suc (k - (n + 1)) = omega (arith, found.from) in
        record {
          from = omega (arith, found.from);
          below = omega (arith, found.below);
          put = rw later (behind name job x xs (set xs (k - (n + 1)) job) apart found.put);
          was = rw (job_later name x xs apart) found.was;
        }

pub none_named : (name : List ℕ) (n : ℕ) (jobs : List Job) → position_from (is_named name) n jobs ≡ None → job_of jobs name ≡ None
none_named name n [] e = refl
none_named name n (x ∷ xs) e = by (λ f. none_named name (n + 1) xs f) (is_named name x) refl e
  where
    by : (position_from (is_named name) (n + 1) xs ≡ None → job_of xs name ≡ None) → (b : Bool) → is_named name x ≡ b → cond b (Some n) (position_from (is_named name) (n + 1) xs) ≡ None → job_of (x ∷ xs) name ≡ None
    by rest true named f = absurd cc
    by rest false apart f = job_later name x xs apart ∙ rest f

-- a job put behind all others, where none has its name
pub adds : (name : List ℕ) (job : Job) → string_bytes job.name ≡ name → (n : ℕ) (jobs : List Job) → position_from (is_named name) n jobs ≡ None → IsPut name job jobs (jobs ++ job ∷ [])
adds name job is n [] e =
    record {
      put = job_first name job [] (same_bytes (string_bytes job.name) name is);
      others = λ other differs. job_later other job [] (other_named name other job is differs);
    }
adds name job is n (x ∷ xs) e = by (λ f. adds name job is (n + 1) xs f) (is_named name x) refl e
  where
    by : (position_from (is_named name) (n + 1) xs ≡ None → IsPut name job xs (xs ++ job ∷ [])) → (b : Bool) → is_named name x ≡ b → cond b (Some n) (position_from (is_named name) (n + 1) xs) ≡ None → IsPut name job (x ∷ xs) (x ∷ (xs ++ job ∷ []))
    by rest true named f = absurd cc
    by rest false apart f = behind name job x xs (xs ++ job ∷ []) apart (rest f)

-- a job of its own name
pub own : (name : List ℕ) (job : Job) → string_bytes job.name ≡ name → job_of (job ∷ []) name ≡ Some (kept_of job)
own name job is = job_first name job [] (same_bytes (string_bytes job.name) name is)

-- Lists of jobs: the job of a name, behind what is done to the list.
use Rattle.std.specs.Prelude.{ℕ, suc, zero, ◌≡◌, ◌≤◌, ◌<◌, ◌++◌, List, [], ◌∷◌, Bool, true, false, not, Option, Some, None, bytes_eq, length, nat_lt, position, slice_get}
use Rattle.std.proofs.Common.{refl, sym, ap, ◌∙◌, arith, cond, get_or, set}
use Rattle.std.specs.List.{position_or_len}
use Rattle.std.specs.Option.{option_or}
use Rattle.std.proofs.lemmas.Bool.{ltb-false}
use Rattle.std.proofs.lemmas.List.Folds.{find-append, find_at}
use Rattle.std.proofs.lemmas.List.Quantifiers.{position-Some}
use Rattle.std.proofs.lemmas.Option.{cond_some, none-some, same_Some, slice_get_past, slice_get_read}
use Rattle.std.proofs.lemmas.Slice.Eq.{bytes_eq-Decides}
use Rattle.desk_machine.specs.State.{Job, has_job, is_named, job_at, put_job, without_job}

-- names that compare as equal are the same
pub same_name : (a b : List ℕ) → bytes_eq a b ≡ true → a ≡ b
same_name a b e = (bytes_eq-Decides a b).0 e

pub name_same : (a b : List ℕ) → a ≡ b → bytes_eq a b ≡ true
name_same a b e = (bytes_eq-Decides a b).1 e

-- a job that was found has the name
pub found_named : (name : List ℕ) (jobs : List Job) (j : Job) → job_at jobs name ≡ Some j → is_named name j ≡ true
found_named name [] j at = absurd (none-some j at)
found_named name (k ∷ rest) j at = by (is_named name k) refl at (found_named name rest j)
  where
    by : (b : Bool) → is_named name k ≡ b → cond b (Some k) (job_at rest name) ≡ Some j → (job_at rest name ≡ Some j → is_named name j ≡ true) → is_named name j ≡ true
    by true e h more = ap (is_named name) (sym (same_Some k j h)) ∙ e
    by false e h more = more h

-- where one is found, there is one
pub found_has : (name : List ℕ) (jobs : List Job) (j : Job) → job_at jobs name ≡ Some j → has_job jobs name ≡ true
found_has name [] j at = absurd (none-some j at)
found_has name (k ∷ rest) j at = by (is_named name k) refl at (found_has name rest j)
  where
    by : (b : Bool) → is_named name k ≡ b → cond b (Some k) (job_at rest name) ≡ Some j → (job_at rest name ≡ Some j → has_job rest name ≡ true) → has_job (k ∷ rest) name ≡ true
    by true e h more = rw e refl
    by false e h more = rw e (more h)

-- another name isn't that of a job of this name
pub other_name : (name other : List ℕ) (k : Job) → is_named other k ≡ true → bytes_eq name other ≡ false → is_named name k ≡ false
other_name name other k e apart = ap (bytes_eq name) (sym (same_name other k.name e)) ∙ apart

-- ---- the list with a job exchanged

pub put_at : (name : List ℕ) (y : Job) (jobs : List Job) (i : ℕ) → i < length jobs → ((d : Job) → is_named name (get_or jobs i d) ≡ true) → ((k : ℕ) (d : Job) → k < i → is_named name (get_or jobs k d) ≡ false)
    → put_job name y jobs ≡ set jobs i y
put_at name y [] i lt at before = absurd (omega (arith, lt))
put_at name y (k ∷ rest) zero lt at before = rw (at k) refl
put_at name y (k ∷ rest) (suc i) lt at before =
    rw (before 0 k (omega arith)) (ap (λ (js : List Job). k ∷ js) (put_at name y rest i (omega (arith, lt)) at (λ n d less. before (suc n) d (omega (arith, less)))))

-- the job that was exchanged is found
pub found_put : (name : List ℕ) (y : Job) (jobs : List Job) (j : Job) → is_named name y ≡ true → job_at jobs name ≡ Some j → job_at (put_job name y jobs) name ≡ Some y
found_put name y [] j named at = absurd (none-some j at)
found_put name y (k ∷ rest) j named at = by (is_named name k) refl at (found_put name y rest j named)
  where
    by : (b : Bool) → is_named name k ≡ b → cond b (Some k) (job_at rest name) ≡ Some j → (job_at rest name ≡ Some j → job_at (put_job name y rest) name ≡ Some y) → job_at (cond b (y ∷ rest) (k ∷ put_job name y rest)) name ≡ Some y
    by true e h more = rw named refl
    by false e h more = rw e (more h)

-- and the others are found as before
pub found_other : (name other : List ℕ) (y : Job) (jobs : List Job) → is_named other y ≡ true → bytes_eq name other ≡ false → job_at (put_job other y jobs) name ≡ job_at jobs name
found_other name other y [] named apart = refl
found_other name other y (k ∷ rest) named apart = by (is_named other k) refl (found_other name other y rest named apart)
  where
    by : (b : Bool) → is_named other k ≡ b → job_at (put_job other y rest) name ≡ job_at rest name → job_at (cond b (y ∷ rest) (k ∷ put_job other y rest)) name ≡ job_at (k ∷ rest) name
    by true e more = rw (other_name name other y named apart, other_name name other k e apart) refl
    by false e more = ap (λ (o : Option Job). cond (is_named name k) (Some k) o) more

-- ---- the list without a job

pub found_without : (name other : List ℕ) (jobs : List Job) → bytes_eq name other ≡ false → job_at (without_job other jobs) name ≡ job_at jobs name
found_without name other [] apart = refl
found_without name other (k ∷ rest) apart = by (is_named other k) refl (found_without name other rest apart)
  where
    by : (b : Bool) → is_named other k ≡ b → job_at (without_job other rest) name ≡ job_at rest name → job_at (cond (not b) (k ∷ without_job other rest) (without_job other rest)) name ≡ job_at (k ∷ rest) name
    by true e more = rw (other_name name other k e apart) more
    by false e more = ap (λ (o : Option Job). cond (is_named name k) (Some k) o) more

-- ---- the list with a job more

pub found_more : (name : List ℕ) (jobs : List Job) (y j : Job) → job_at jobs name ≡ Some j → job_at (jobs ++ y ∷ []) name ≡ Some j
found_more name jobs y j at = find-append (is_named name) jobs (y ∷ []) ∙ ap (λ (o : Option Job). option_or o (job_at (y ∷ []) name)) at

-- ---- the job at a place

pub at_place : (name : List ℕ) (jobs : List Job) (i : ℕ) (j : Job) → position (is_named name) jobs ≡ Some i → j ≡ get_or jobs i j → job_at jobs name ≡ Some j
at_place name jobs i j e is =
    let h = position-Some (is_named name) jobs i j e in
    let place = (cond_some (nat_lt (position_or_len (is_named name) jobs) (length jobs)) (position_or_len (is_named name) jobs) i e).1 in
    find_at (is_named name) jobs ∙ ap (slice_get jobs) place ∙ slice_get_read jobs (length jobs) i j refl h.0 is

pub put_place : (name : List ℕ) (y : Job) (jobs : List Job) (i : ℕ) → position (is_named name) jobs ≡ Some i → put_job name y jobs ≡ set jobs i y
put_place name y jobs i e =
    put_at name y jobs i (position-Some (is_named name) jobs i y e).0 (λ d. (position-Some (is_named name) jobs i d e).1) (λ k d less. (position-Some (is_named name) jobs i d e).2 k less)

pub no_place : (name : List ℕ) (jobs : List Job) → position (is_named name) jobs ≡ None → job_at jobs name ≡ None
no_place name jobs e =
    find_at (is_named name) jobs
    ∙ slice_get_past jobs (position_or_len (is_named name) jobs) (far (nat_lt (position_or_len (is_named name) jobs) (length jobs)) refl e)
  where
    far : (b : Bool) → nat_lt (position_or_len (is_named name) jobs) (length jobs) ≡ b → cond b (Some (position_or_len (is_named name) jobs)) None ≡ None → length jobs ≤ position_or_len (is_named name) jobs
    far true is h = absurd (none-some _ (sym h))
    far false is h = ltb-false (position_or_len (is_named name) jobs) (length jobs) is

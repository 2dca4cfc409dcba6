-- Open jobs have names apart, and are 64 at most.
use Rattle.std.specs.Prelude.{ℕ, suc, zero, ◌≡◌, ◌≢◌, ◌≤◌, ◌<◌, ◌++◌, ◌||◌, List, [], ◌∷◌, Bool, true, false, not, Option, Some, None, Result, Ok, Err, filter, length, nat_le}
use Rattle.std.proofs.Common.{refl, sym, ap, ◌∙◌, subst, inl, inr, cond, get_or, arith, length-append}
use Rattle.std.specs.List.{AllPairs, list_any}
use Rattle.std.proofs.lemmas.Bool.{both_ways, leb-false}
use Rattle.std.proofs.lemmas.List.Kept.{AllPairs-filter}
use Rattle.std.proofs.lemmas.List.Quantifiers.{all_pairs_push}
use Rattle.coin_candidates.specs.declared.candidate.Candidate.{Candidate}
use Rattle.fund_plan.specs.Selection.{PlainFunded}
use Rattle.fund_steps.specs.Plan.{PlainPlan}
use Rattle.desk_machine.specs.Commands.{Command, Open, Turn, Commit, Close, Release, Blocks, Pending}
use Rattle.desk_machine.specs.Does.{Does, LeavesJobs}
use Rattle.desk_machine.specs.Machine.{by_funded, by_plan, by_taken, close_step, commit_by, commit_step, funded_of, has_txid, jobs_in, open_step, plan_for, release_step, stay, taken_at, turn_step, with_committed, with_jobs, without_payment}
use Rattle.desk_machine.specs.Replies.{Refusal, AllOpen, Closed, NoJob, NotCommitted, Released, TakenName}
use Rattle.desk_machine.specs.Runs.{Runs, Said}
use Rattle.desk_machine.specs.State.{Job, PlainDesk, has_job, is_named, job_at, new_job, put_job, without_job}
use Rattle.desk_machine.specs.Turns.{turned}
use Rattle.desk_machine.proofs.JobLists.{found_named, name_same, same_name}

abbrev NamedApart : Job → Job → Type 0
NamedApart a b = a.name ≢ b.name

-- names apart, and 64 at most
pub record AreOpen (jobs : List Job) : Type 0 where
  pub names : AllPairs NamedApart jobs
  pub most : length jobs ≤ 64

-- ---- lists

-- no job of a list has the name
none_named : (name : List ℕ) (jobs : List Job) → has_job jobs name ≡ false → (k : ℕ) (d : Job) → k < length jobs → (get_or jobs k d).name ≢ name
none_named name [] e k d lt = absurd (omega (arith, lt))
none_named name (j ∷ rest) e k d lt = by (is_named name j) refl e (none_named name rest) k lt
  where
    by : (b : Bool) → is_named name j ≡ b → (b || has_job rest name) ≡ false → (has_job rest name ≡ false → (k : ℕ) (d : Job) → k < length rest → (get_or rest k d).name ≢ name) → (k : ℕ) → k < length (j ∷ rest) → (get_or (j ∷ rest) k d).name ≢ name
    by true is h more k lt = absurd cc
    by false is h more zero lt = λ same. absurd (both_ways (is_named name j) is (name_same name j.name (sym same)))
    by false is h more (suc k) lt = more h k d (omega (arith, lt))

pub more_open : (name : List ℕ) (y : Job) (jobs : List Job) → y.name ≡ name → has_job jobs name ≡ false → nat_le 64 (length jobs) ≡ false → AreOpen jobs → AreOpen (jobs ++ y ∷ [])
more_open name y jobs named none few h = record {
  names = all_pairs_push NamedApart jobs y h.names (λ k d lt same. none_named name jobs none k d lt (same ∙ named));
  most = let less = leb-false 64 (length jobs) few in omega (arith, less, length-append jobs (y ∷ []));
}

filter_length : (p : Job → Bool) (jobs : List Job) → length (filter p jobs) ≤ length jobs
filter_length p [] = omega arith
filter_length p (j ∷ rest) = by (p j) (filter_length p rest)
  where
    by : (b : Bool) → length (filter p rest) ≤ length rest → length (cond b (j ∷ filter p rest) (filter p rest)) ≤ length (j ∷ rest)
    by true h = omega (arith, h)
    by false h = omega (arith, h)

pub fewer_open : (name : List ℕ) (jobs : List Job) → AreOpen jobs → AreOpen (without_job name jobs)
fewer_open name jobs h = record {
  names = AllPairs-filter NamedApart (λ (j : Job). not (is_named name j)) jobs h.names;
  most = let few = filter_length (λ (j : Job). not (is_named name j)) jobs in let most = h.most in omega (arith, few, most);
}

-- an exchange keeps each name at its place
put_length : (name : List ℕ) (y : Job) (jobs : List Job) → length (put_job name y jobs) ≡ length jobs
put_length name y [] = refl
put_length name y (j ∷ rest) = by (is_named name j) (put_length name y rest)
  where
    by : (b : Bool) → length (put_job name y rest) ≡ length rest → length (cond b (y ∷ rest) (j ∷ put_job name y rest)) ≡ length (j ∷ rest)
    by true h = refl
    by false h = ap (λ (n : ℕ). suc n) h

put_names : (name : List ℕ) (y : Job) (jobs : List Job) → y.name ≡ name → (k : ℕ) (d : Job) → (get_or (put_job name y jobs) k d).name ≡ (get_or jobs k d).name
put_names name y [] named k d = refl
put_names name y (j ∷ rest) named k d = by (is_named name j) refl (put_names name y rest named) k
  where
    by : (b : Bool) → is_named name j ≡ b → ((k : ℕ) (d : Job) → (get_or (put_job name y rest) k d).name ≡ (get_or rest k d).name) → (k : ℕ) → (get_or (cond b (y ∷ rest) (j ∷ put_job name y rest)) k d).name ≡ (get_or (j ∷ rest) k d).name
    by true is more zero = named ∙ same_name name j.name is
    by true is more (suc k) = refl
    by false is more zero = refl
    by false is more (suc k) = more k d

pub put_open : (name : List ℕ) (y : Job) (jobs : List Job) → y.name ≡ name → AreOpen jobs → AreOpen (put_job name y jobs)
put_open name y jobs named h = record {
  names = λ i j d less lt same.
      h.names i j d less (subst (λ (n : ℕ). j < n) (put_length name y jobs) lt) (sym (put_names name y jobs named i d) ∙ same ∙ put_names name y jobs named j d);
  most = subst (λ (n : ℕ). n ≤ 64) (sym (put_length name y jobs)) h.most;
}

-- ---- one call

open_open : (d : PlainDesk) (name request : List ℕ) → AreOpen d.jobs → AreOpen (open_step d name request).next.jobs
unfolding open_step
open_open d name request h = by (has_job d.jobs name) refl (nat_le 64 (length d.jobs)) refl (plan_for d request)
  where
    by : (a : Bool) → has_job d.jobs name ≡ a → (b : Bool) → nat_le 64 (length d.jobs) ≡ b → (p : Result PlainPlan Refusal) → AreOpen (cond a (stay d TakenName) (cond b (stay d AllOpen) (by_plan d name p))).next.jobs
    by true e b f p = h
    by false e true f p = h
    by false e false f (Err refusal) = h
    by false e false f (Ok p) = more_open name (new_job name p) d.jobs refl e f h

pub turned_open : (jobs : List Job) (name : List ℕ) (n : ℕ) (o : Option Job) → job_at jobs name ≡ o → AreOpen jobs → AreOpen (jobs_in jobs name n o)
turned_open jobs name n None e h = h
turned_open jobs name n (Some j) e h = put_open name (turned j n) jobs (sym (same_name name j.name (found_named name jobs j e))) h

turn_open : (d : PlainDesk) (name : List ℕ) (n : ℕ) → AreOpen d.jobs → AreOpen (turn_step d name n).next.jobs
unfolding turn_step
turn_open d name n h = turned_open d.jobs name n (job_at d.jobs name) refl h

pub left_open : (jobs new : List Job) (name : List ℕ) (n : ℕ) (o : Option Job) → job_at jobs name ≡ o → LeavesJobs jobs name n o new → AreOpen jobs → AreOpen new
left_open jobs new name n None e left h = subst AreOpen (sym left) h
left_open jobs new name n (Some j) e left h = subst AreOpen (sym left.2) (put_open name left.0 jobs (left.1.name ∙ sym (same_name name j.name (found_named name jobs j e))) h)

commit_open : (d : PlainDesk) (name : List ℕ) → AreOpen d.jobs → AreOpen (commit_step d name).next.jobs
unfolding commit_step
commit_open d name h = by_job (job_at d.jobs name)
  where
    by_coin : (i : Job) (f : PlainFunded) (o : Option Candidate) → AreOpen (by_taken d name i f o).next.jobs
    by_coin i f (Some c) = h
    by_coin i f None = fewer_open name d.jobs h

    by_payment : (i : Job) (o : Option PlainFunded) → AreOpen (by_funded d name i o).next.jobs
    by_payment i None = h
    by_payment i (Some f) = by_coin i f (taken_at d i f)

    by_job : (o : Option Job) → AreOpen (commit_by d name o).next.jobs
    by_job None = h
    by_job (Some i) = by_payment i (funded_of i.answer)

close_open : (d : PlainDesk) (name : List ℕ) → AreOpen d.jobs → AreOpen (close_step d name).next.jobs
unfolding close_step
close_open d name h = by (has_job d.jobs name)
  where
    by : (b : Bool) → AreOpen (cond b (record { reply = Closed; next = with_jobs d (without_job name d.jobs) }) (stay d NoJob)).next.jobs
    by true = fewer_open name d.jobs h
    by false = h

release_open : (d : PlainDesk) (txid : List ℕ) → AreOpen d.jobs → AreOpen (release_step d txid).next.jobs
unfolding release_step
release_open d txid h = by (list_any (has_txid txid) d.committed)
  where
    by : (b : Bool) → AreOpen (cond b (record { reply = Released; next = with_committed d (without_payment txid d.committed) }) (stay d NotCommitted)).next.jobs
    by true = h
    by false = h

one_open : (d new : PlainDesk) (s : Said) → Does d s.command s.reply new → AreOpen d.jobs → AreOpen new.jobs
one_open d new s does h = by s.command does
  where
    from : (jobs : List Job) → new.jobs ≡ jobs → AreOpen jobs → AreOpen new.jobs
    from jobs is there = subst AreOpen (sym is) there

    by : (c : Command) → Does d c s.reply new → AreOpen new.jobs
    by (Open name request) (inl k) = from _ (ap (λ (x : PlainDesk). x.jobs) k.next_is) (open_open d name request h)
    by (Open name request) (inr k) = from _ (ap (λ (x : PlainDesk). x.jobs) k.leaves) h
    by (Turn name n) (inl k) = from _ (ap (λ (x : PlainDesk). x.jobs) k.next_is) (turn_open d name n h)
    by (Turn name n) (inr k) = from _ (ap (λ (x : PlainDesk). x.jobs) k.leaves.2) (left_open d.jobs k.leaves.0 name n (job_at d.jobs name) refl k.leaves.1 h)
    by (Commit name) (inl k) = from _ (ap (λ (x : PlainDesk). x.jobs) k.next_is) (commit_open d name h)
    by (Commit name) (inr k) = from _ (ap (λ (x : PlainDesk). x.jobs) k.leaves) h
    by (Close name) (inl k) = from _ (ap (λ (x : PlainDesk). x.jobs) k.next_is) (close_open d name h)
    by (Close name) (inr k) = from _ (ap (λ (x : PlainDesk). x.jobs) k.leaves) h
    by (Release txid) (inl k) = from _ (ap (λ (x : PlainDesk). x.jobs) k.next_is) (release_open d txid h)
    by (Release txid) (inr k) = from _ (ap (λ (x : PlainDesk). x.jobs) k.leaves) h
    by (Blocks bytes) (inl k) = from _ (ap (λ (x : PlainDesk). x.jobs) k.next_is) h
    by (Blocks bytes) (inr k) = from _ (ap (λ (x : PlainDesk). x.jobs) k.leaves.1) h
    by (Pending hex) (inl k) = from _ (ap (λ (x : PlainDesk). x.jobs) k.next_is) h
    by (Pending hex) (inr k) = from _ (ap (λ (x : PlainDesk). x.jobs) k.leaves) h

pub all_open : (d new : PlainDesk) (said : List Said) → AreOpen d.jobs → Runs d said new → AreOpen new.jobs
all_open d new [] h runs = subst (λ (x : PlainDesk). AreOpen x.jobs) (sym runs) h
all_open d new (s ∷ rest) h runs = all_open runs.0 new rest (one_open d runs.0 s runs.1 h) runs.2

-- What calls are to one job.
use Rattle.std.specs.Prelude.{ℕ, ◌≡◌, ◌≢◌, ◌++◌, List, [], ◌∷◌, Bool, true, false, Option, Some, None, Result, Ok, Err, bytes_eq, length, nat_le}
use Rattle.std.proofs.Common.{refl, sym, ap, ◌∙◌, subst, inl, inr, cond}
use Rattle.std.specs.List.{list_any}
use Rattle.coin_candidates.specs.declared.candidate.Candidate.{Candidate}
use Rattle.fund_plan.specs.Selection.{PlainFunded}
use Rattle.fund_steps.specs.Plan.{PlainPlan}
use Rattle.desk_machine.specs.Commands.{Command, Open, Turn, Commit, Close, Release, Blocks, Pending}
use Rattle.desk_machine.specs.Does.{Does, IsLagging, LeavesJobs}
use Rattle.desk_machine.specs.Machine.{Step, by_funded, by_plan, by_taken, close_step, commit_by, commit_step, funded_of, has_txid, jobs_in, open_step, plan_for, release_step, reply_in, stay, taken_at, turn_step, with_committed, with_jobs, without_payment}
use Rattle.desk_machine.specs.Replies.{Reply, Refusal, AllOpen, Closed, Committed, NoJob, NoMemory, NotCommitted, Released, TakenName}
use Rattle.desk_machine.specs.Runs.{AllFed, Alone, KeepOpen, Played, Plays, Runs, Said, StaysOpen, tries_in, turn_in, turns_of}
use Rattle.desk_machine.specs.State.{Job, PlainDesk, has_job, job_at, without_job}
use Rattle.desk_machine.specs.Turns.{turn_reply, turned}
use Rattle.desk_machine.proofs.JobLists.{found_more, found_named, found_other, found_put, found_without, same_name}

-- ---- commands that leave a job where it is

open_leaves : (d : PlainDesk) (other request name : List ℕ) (j : Job) → job_at d.jobs name ≡ Some j → job_at (open_step d other request).next.jobs name ≡ Some j
unfolding open_step
open_leaves d other request name j at = by (has_job d.jobs other) (nat_le 64 (length d.jobs)) (plan_for d request)
  where
    by : (a b : Bool) (p : Result PlainPlan Refusal) → job_at (cond a (stay d TakenName) (cond b (stay d AllOpen) (by_plan d other p))).next.jobs name ≡ Some j
    by true b p = at
    by false true p = at
    by false false (Err refusal) = at
    by false false (Ok p) = found_more name d.jobs _ j at

release_leaves : (d : PlainDesk) (txid name : List ℕ) → job_at (release_step d txid).next.jobs name ≡ job_at d.jobs name
unfolding release_step
release_leaves d txid name = by (list_any (has_txid txid) d.committed)
  where
    by : (b : Bool) → job_at (cond b (record { reply = Released; next = with_committed d (without_payment txid d.committed) }) (stay d NotCommitted)).next.jobs name ≡ job_at d.jobs name
    by true = refl
    by false = refl

close_leaves : (d : PlainDesk) (other name : List ℕ) (j : Job) → job_at d.jobs name ≡ Some j → (other ≡ name → (close_step d other).reply ≢ Closed) → job_at (close_step d other).next.jobs name ≡ Some j
unfolding close_step
close_leaves d other name j at stays = by (bytes_eq name other) refl (has_job d.jobs other) refl
  where
    to : Bool → Step
    to b = cond b (record { reply = Closed; next = with_jobs d (without_job other d.jobs) }) (stay d NoJob)

    by : (same : Bool) → bytes_eq name other ≡ same → (b : Bool) → has_job d.jobs other ≡ b → job_at (to b).next.jobs name ≡ Some j
    by same e false f = at
    by false e true f = found_without name other d.jobs e ∙ at
    by true e true f = absurd (stays (sym (same_name name other e)) (ap (λ (b : Bool). (to b).reply) f))

commit_leaves : (d : PlainDesk) (other name : List ℕ) (j : Job) → job_at d.jobs name ≡ Some j → (other ≡ name → (txid psbt : List ℕ) → (commit_step d other).reply ≢ Committed txid psbt) → job_at (commit_step d other).next.jobs name ≡ Some j
unfolding commit_step
commit_leaves d other name j at stays = by_job (job_at d.jobs other) refl
  where
    by_name : (i : Job) (f : PlainFunded) → commit_by d other (job_at d.jobs other) ≡ by_taken d other i f None → (same : Bool) → bytes_eq name other ≡ same → job_at (without_job other d.jobs) name ≡ Some j
    by_name i f is false e = found_without name other d.jobs e ∙ at
    by_name i f is true e = absurd (stays (sym (same_name name other e)) _ _ (ap (λ (s : Step). s.reply) is))

    by_coin : (i : Job) (f : PlainFunded) (o : Option Candidate) → commit_by d other (job_at d.jobs other) ≡ by_taken d other i f o → job_at (by_taken d other i f o).next.jobs name ≡ Some j
    by_coin i f (Some c) is = at
    by_coin i f None is = by_name i f is (bytes_eq name other) refl

    by_payment : (i : Job) (o : Option PlainFunded) → commit_by d other (job_at d.jobs other) ≡ by_funded d other i o → job_at (by_funded d other i o).next.jobs name ≡ Some j
    by_payment i None is = at
    by_payment i (Some f) is = by_coin i f (taken_at d i f) is

    by_job : (o : Option Job) → job_at d.jobs other ≡ o → job_at (commit_by d other o).next.jobs name ≡ Some j
    by_job None e = at
    by_job (Some i) e = by_payment i (funded_of i.answer) (ap (commit_by d other) e)

-- ---- a turn

-- what stands behind one call: the job, and that its turns go on from it
abbrev Kept : List ℕ → Job → Reply → Command → PlainDesk → Type 0
Kept name j reply c new = (mid : Job) × (job_at new.jobs name ≡ Some mid) × ((rest : List Played) (k : Job) → Alone mid rest k → Alone j (turn_in name reply c ++ rest) k)

turned_found : (d : PlainDesk) (name : List ℕ) (n : ℕ) (j : Job) → job_at d.jobs name ≡ Some j → job_at (turn_step d name n).next.jobs name ≡ Some (turned j n)
unfolding turn_step
turned_found d name n j at =
    ap (λ (o : Option Job). job_at (jobs_in d.jobs name n o) name) at
    ∙ found_put name (turned j n) d.jobs j (found_named name d.jobs j at) at

turned_reply : (d : PlainDesk) (name : List ℕ) (n : ℕ) (j : Job) → job_at d.jobs name ≡ Some j → (turn_step d name n).reply ≡ turn_reply j.state n
unfolding turn_step
turned_reply d name n j at = ap (reply_in n) at

turned_other : (d : PlainDesk) (name other : List ℕ) (n : ℕ) → bytes_eq name other ≡ false → job_at (turn_step d other n).next.jobs name ≡ job_at d.jobs name
unfolding turn_step
turned_other d name other n apart = by (job_at d.jobs other) refl
  where
    by : (o : Option Job) → job_at d.jobs other ≡ o → job_at (jobs_in d.jobs other n o) name ≡ job_at d.jobs name
    by None e = refl
    by (Some i) e = found_other name other (turned i n) d.jobs (found_named other d.jobs i e) apart

left_found : (jobs new : List Job) (name : List ℕ) (n : ℕ) (j : Job) → job_at jobs name ≡ Some j → LeavesJobs jobs name n (job_at jobs name) new → (k : Job) × IsLagging j n k × (job_at new name ≡ Some k)
left_found jobs new name n j at leaves =
    let left = subst (λ (o : Option Job). LeavesJobs jobs name n o new) at leaves in
    let named = ap (bytes_eq name) left.1.name ∙ found_named name jobs j at in
    (left.0, left.1, ap (λ (js : List Job). job_at js name) left.2 ∙ found_put name left.0 jobs j named at)

left_other : (jobs new : List Job) (name other : List ℕ) (n : ℕ) → bytes_eq name other ≡ false → LeavesJobs jobs other n (job_at jobs other) new → job_at new name ≡ job_at jobs name
left_other jobs new name other n apart leaves = by (job_at jobs other) refl leaves
  where
    by : (o : Option Job) → job_at jobs other ≡ o → LeavesJobs jobs other n o new → job_at new name ≡ job_at jobs name
    by None e left = ap (λ (js : List Job). job_at js name) left
    by (Some i) e left = ap (λ (js : List Job). job_at js name) left.2 ∙ found_other name other left.0 jobs (ap (bytes_eq other) left.1.name ∙ found_named other jobs i e) apart

turn_kept : (d new : PlainDesk) (other : List ℕ) (n : ℕ) (reply : Reply) (name : List ℕ) (j : Job) → Does d (Turn other n) reply new → job_at d.jobs name ≡ Some j → Kept name j reply (Turn other n) new
turn_kept d new other n reply name j does at = by (bytes_eq name other) refl does
  where
    stays : (same : Bool) → same ≡ false → job_at new.jobs name ≡ job_at d.jobs name
        → (mid : Job) × (job_at new.jobs name ≡ Some mid) × ((rest : List Played) (k : Job) → Alone mid rest k → Alone j (cond same (record { tries = n; reply = reply } ∷ []) [] ++ rest) k)
    stays true e is = absurd cc
    stays false e is = (j, is ∙ at, λ rest k alone. alone)

    own : (same : Bool) → same ≡ true → (mid : Job) → job_at new.jobs name ≡ Some mid → Plays j (record { tries = n; reply = reply }) mid
        → (mid : Job) × (job_at new.jobs name ≡ Some mid) × ((rest : List Played) (k : Job) → Alone mid rest k → Alone j (cond same (record { tries = n; reply = reply } ∷ []) [] ++ rest) k)
    own false e mid is plays = absurd cc
    own true e mid is plays = (mid, is, λ rest k alone. (mid, plays, alone))

    by : (same : Bool) → bytes_eq name other ≡ same → Does d (Turn other n) reply new → Kept name j reply (Turn other n) new
    by false e (inl s) = stays (bytes_eq name other) e (ap (λ (x : PlainDesk). job_at x.jobs name) s.next_is ∙ turned_other d name other n e)
    by false e (inr s) =
        let left = s.leaves in
        stays (bytes_eq name other) e (ap (λ (x : PlainDesk). job_at x.jobs name) left.2 ∙ left_other d.jobs left.0 name other n e left.1)
    by true e (inl s) =
        let is = same_name name other e in
        let here = subst (λ (x : List ℕ). job_at d.jobs x ≡ Some j) is at in
        own (bytes_eq name other) e (turned j n)
        (ap (λ (x : PlainDesk). job_at x.jobs name) s.next_is ∙ ap (λ (x : List ℕ). job_at (turn_step d other n).next.jobs x) is ∙ turned_found d other n j here)
        (inl (s.reply_is ∙ turned_reply d other n j here, refl))
    by true e (inr s) =
        let is = same_name name other e in
        let here = subst (λ (x : List ℕ). job_at d.jobs x ≡ Some j) is at in
        let left = s.leaves in
        let found = left_found d.jobs left.0 other n j here left.1 in
        own (bytes_eq name other) e found.0
        (ap (λ (x : PlainDesk). job_at x.jobs name) left.2 ∙ ap (λ (x : List ℕ). job_at left.0 x) is ∙ found.2)
        (inr (s.reply_is, found.1))

-- ---- any call

-- a call that leaves the job where it is, and is no turn
idle : (name : List ℕ) (j : Job) (reply : Reply) (c : Command) (new : PlainDesk) → turn_in name reply c ≡ [] → job_at new.jobs name ≡ Some j → Kept name j reply c new
idle name j reply c new none at = (j, at, λ rest k alone. subst (λ (ps : List Played). Alone j (ps ++ rest) k) (sym none) alone)

one_kept : (d new : PlainDesk) (c : Command) (reply : Reply) (name : List ℕ) (j : Job) → Does d c reply new → job_at d.jobs name ≡ Some j → StaysOpen name reply c → Kept name j reply c new
one_kept d new (Open other request) reply name j (inl s) at stays = idle name j reply (Open other request) new refl (ap (λ (x : PlainDesk). job_at x.jobs name) s.next_is ∙ open_leaves d other request name j at)
one_kept d new (Open other request) reply name j (inr s) at stays = idle name j reply (Open other request) new refl (ap (λ (x : PlainDesk). job_at x.jobs name) s.leaves ∙ at)
one_kept d new (Turn other n) reply name j does at stays = turn_kept d new other n reply name j does at
one_kept d new (Commit other) reply name j (inl s) at stays =
    idle name j reply (Commit other) new refl
    (ap (λ (x : PlainDesk). job_at x.jobs name) s.next_is ∙ commit_leaves d other name j at (λ is txid psbt e. stays is txid psbt (s.reply_is ∙ e)))
one_kept d new (Commit other) reply name j (inr s) at stays = idle name j reply (Commit other) new refl (ap (λ (x : PlainDesk). job_at x.jobs name) s.leaves ∙ at)
one_kept d new (Close other) reply name j (inl s) at stays =
    idle name j reply (Close other) new refl (ap (λ (x : PlainDesk). job_at x.jobs name) s.next_is ∙ close_leaves d other name j at (λ is e. stays is (s.reply_is ∙ e)))
one_kept d new (Close other) reply name j (inr s) at stays = idle name j reply (Close other) new refl (ap (λ (x : PlainDesk). job_at x.jobs name) s.leaves ∙ at)
one_kept d new (Release txid) reply name j (inl s) at stays = idle name j reply (Release txid) new refl (ap (λ (x : PlainDesk). job_at x.jobs name) s.next_is ∙ release_leaves d txid name ∙ at)
one_kept d new (Release txid) reply name j (inr s) at stays = idle name j reply (Release txid) new refl (ap (λ (x : PlainDesk). job_at x.jobs name) s.leaves ∙ at)
one_kept d new (Blocks bytes) reply name j (inl s) at stays = idle name j reply (Blocks bytes) new refl (ap (λ (x : PlainDesk). job_at x.jobs name) s.next_is ∙ at)
one_kept d new (Blocks bytes) reply name j (inr s) at stays = idle name j reply (Blocks bytes) new refl (ap (λ (x : PlainDesk). job_at x.jobs name) s.leaves.1 ∙ at)
one_kept d new (Pending hex) reply name j (inl s) at stays = idle name j reply (Pending hex) new refl (ap (λ (x : PlainDesk). job_at x.jobs name) s.next_is ∙ at)
one_kept d new (Pending hex) reply name j (inr s) at stays = idle name j reply (Pending hex) new refl (ap (λ (x : PlainDesk). job_at x.jobs name) s.leaves ∙ at)

pub alone_through : (d new : PlainDesk) (said : List Said) (name : List ℕ) (j : Job) → Runs d said new → job_at d.jobs name ≡ Some j → KeepOpen name said → (k : Job) × (job_at new.jobs name ≡ Some k) × Alone j (turns_of name said) k
alone_through d new [] name j runs at keep = (j, ap (λ (x : PlainDesk). job_at x.jobs name) runs ∙ at, refl)
alone_through d new (s ∷ rest) name j runs at keep =
    let one = one_kept d runs.0 s.command s.reply name j runs.1 at keep.0 in
    let more = alone_through runs.0 new rest name one.0 runs.2 one.1 keep.1 in
    (more.0, more.1, one.2 (turns_of name rest) more.0 more.2)

-- ---- a job alone goes one way

pub played : (j k : Job) (p : Played) → Plays j p k → p.reply ≢ NoMemory → (p.reply ≡ turn_reply j.state p.tries) × (k ≡ turned j p.tries)
played j k p (inl h) fed = h
played j k p (inr h) fed = absurd (fed h.0)

pub one_way : (j k l : Job) (ps qs : List Played) → Alone j ps k → Alone j qs l → tries_in ps ≡ tries_in qs → AllFed ps → AllFed qs → (ps ≡ qs) × (k ≡ l)
one_way j k l [] [] a b same f g = (refl, a ∙ sym b)
one_way j k l [] (q ∷ qs) a b same f g = absurd cc
one_way j k l (p ∷ ps) [] a b same f g = absurd cc
one_way j k l (p ∷ ps) (q ∷ qs) a b same f g =
    let tries : p.tries ≡ q.tries = cc in
    let more : tries_in ps ≡ tries_in qs = cc in
    let x = played j a.0 p a.1 f.0 in
    let y = played j b.0 q b.1 g.0 in
    let reply : p.reply ≡ q.reply = x.0 ∙ ap (turn_reply j.state) tries ∙ sym y.0 in
    let mid : b.0 ≡ a.0 = y.1 ∙ ap (turned j) (sym tries) ∙ sym x.1 in
    let rest = one_way a.0 k l ps qs a.2 (subst (λ (m : Job). Alone m qs l) mid b.2) more f.1 g.1 in
    (ap (λ (n : ℕ). record { tries = n; reply = p.reply } ∷ ps) tries ∙ ap (λ (r : Reply). record { tries = q.tries; reply = r } ∷ ps) reply ∙ ap (λ (rest : List Played). q ∷ rest) rest.0, rest.1)

pub alike_through : (d e new end : PlainDesk) (said heard : List Said) (name : List ℕ) (j : Job) → Runs d said new → Runs e heard end → job_at d.jobs name ≡ Some j → job_at e.jobs name ≡ Some j → KeepOpen name said → KeepOpen name heard
    → tries_in (turns_of name said) ≡ tries_in (turns_of name heard) → AllFed (turns_of name said) → AllFed (turns_of name heard) → (turns_of name said ≡ turns_of name heard) × (job_at new.jobs name ≡ job_at end.jobs name)
alike_through d e new end said heard name j a b at at' keep keep' same fed fed' =
    let x = alone_through d new said name j a at keep in
    let y = alone_through e end heard name j b at' keep' in
    let way = one_way j x.0 y.0 (turns_of name said) (turns_of name heard) x.2 y.2 same fed fed' in
    (way.0, x.1 ∙ ap (λ (k : Job). Some k) way.1 ∙ sym y.1)

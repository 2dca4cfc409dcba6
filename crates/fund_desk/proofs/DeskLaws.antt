-- What is done at a desk keeps its rules.
use Rattle.std.specs.Prelude.{ℕ, ◌≡◌, ◌++◌, List, [], ◌∷◌, All, Bool, true, false, not, None, Result, Ok, Err, OnErr, OnOk, length, nat_le}
use Rattle.std.proofs.Common.{refl, subst, sym, cond}
use Rattle.std.proofs.lemmas.List.Elements.{All-cons, All-filter, All-head, All-push, All-tail}
use Rattle.std.proofs.lemmas.List.Kept.{AllPairs-filter}
use Rattle.fund_files.specs.Chain.{IsChain}
use Rattle.fund_files.specs.declared.chain.Chain.{Chain}
use Rattle.fund_plan.specs.Selection.{PlainFunded}
use Rattle.fund_steps.specs.Plan.{PlainPlan}
use Rattle.wallet_text.specs.declared.wallet.Watch.{Watch}
use Rattle.desk_machine.specs.Does.{LeavesJobs}
use Rattle.desk_machine.specs.Machine.{committed_of, has_txid, jobs_in, taken_at, with_committed, with_jobs, with_payment, without_payment}
use Rattle.desk_machine.specs.Rules.{IsDesk, IsJob, ShareNone}
use Rattle.desk_machine.specs.State.{Job, Payment, PlainDesk, has_job, is_named, job_at, new_job, put_job, without_job}
use Rattle.desk_machine.proofs.ApartLaws.{apart_more}
use Rattle.desk_machine.proofs.RuleLaws.{AreOpen, fewer_open, left_open, more_open, turned_open}

pub are_open : (d : PlainDesk) → IsDesk d → AreOpen d.jobs
are_open d h = record { names = h.names; most = h.most }

pub desk_open : (d : PlainDesk) (name : List ℕ) (p : PlainPlan) → IsDesk d → has_job d.jobs name ≡ false → nat_le 64 (length d.jobs) ≡ false → p.change ≡ d.held.wallet.change → IsDesk (with_jobs d (d.jobs ++ new_job name p ∷ []))
desk_open d name p h none few change =
    let open' = more_open name (new_job name p) d.jobs refl none few (are_open d h) in
    record {
      held = h.held;
      apart = h.apart;
      names = open'.names;
      most = open'.most;
      each = All-push (IsJob d.held.wallet.change) d.jobs (new_job name p) h.each (record { answered = record { pays = tt; fits = tt }; change_is = change });
    }

pub desk_close : (d : PlainDesk) (name : List ℕ) → IsDesk d → IsDesk (with_jobs d (without_job name d.jobs))
desk_close d name h =
    let open' = fewer_open name d.jobs (are_open d h) in
    record {
      held = h.held;
      apart = h.apart;
      names = open'.names;
      most = open'.most;
      each = All-filter (λ (j : Job). not (is_named name j)) (IsJob d.held.wallet.change) d.jobs h.each;
    }

pub desk_release : (d : PlainDesk) (txid : List ℕ) → IsDesk d → IsDesk (with_committed d (without_payment txid d.committed))
desk_release d txid h = record {
  held = h.held;
  apart = AllPairs-filter ShareNone (λ (p : Payment). not (has_txid txid p)) d.committed h.apart;
  names = h.names;
  most = h.most;
  each = h.each;
}

pub desk_commit : (d : PlainDesk) (name : List ℕ) (j : Job) (f : PlainFunded) → IsDesk d → taken_at d j f ≡ None → IsDesk (with_payment d name j f)
desk_commit d name j f h none =
    let open' = fewer_open name d.jobs (are_open d h) in
    record {
      held = h.held;
      apart = apart_more d.committed (committed_of d.held j f) _ j.state.plan.request f.row f.coins refl none h.apart;
      names = open'.names;
      most = open'.most;
      each = All-filter (λ (i : Job). not (is_named name i)) (IsJob d.held.wallet.change) d.jobs h.each;
    }

pub desk_turn : (d : PlainDesk) (jobs : List Job) → IsDesk d → AreOpen jobs → All (IsJob d.held.wallet.change) jobs → IsDesk (with_jobs d jobs)
desk_turn d jobs h there each = record { held = h.held; apart = h.apart; names = there.names; most = there.most; each = each }

pub desk_grown : (d : PlainDesk) (k : Chain) → IsDesk d → IsChain k → k.wallet.change ≡ d.held.wallet.change → IsDesk (record { held = k; committed = d.committed; jobs = d.jobs })
desk_grown d k h held change = record {
  held = held;
  apart = h.apart;
  names = h.names;
  most = h.most;
  each = subst (λ (c : Watch). All (IsJob c) d.jobs) (sym change) h.each;
}

-- one job exchanged for another
pub put_each : (P : Job → Type 0) (name : List ℕ) (y : Job) (jobs : List Job) → P y → All P jobs → All P (put_job name y jobs)
put_each P name y [] own each = each
put_each P name y (j ∷ rest) own each = by (is_named name j) (put_each P name y rest own (All-tail P j rest each))
  where
    by : (b : Bool) → All P (put_job name y rest) → All P (cond b (y ∷ rest) (j ∷ put_job name y rest))
    by true more = All-cons P y rest own (All-tail P j rest each)
    by false more = All-cons P j (put_job name y rest) (All-head P j rest each) more

-- the jobs are open behind a turn, whether it was made or ran out of memory
pub left_any : {A E : Type 0} (r : Result A E) (jobs new : List Job) (name : List ℕ) (n : ℕ) → OnOk r (new ≡ jobs_in jobs name n (job_at jobs name)) → OnErr r (LeavesJobs jobs name n (job_at jobs name) new) → AreOpen jobs → AreOpen new
left_any (Ok a) jobs new name n next left h = subst AreOpen (sym next) (turned_open jobs name n (job_at jobs name) refl h)
left_any (Err e) jobs new name n next left h = left_open jobs new name n (job_at jobs name) refl left h

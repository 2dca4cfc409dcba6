-- What a job is opened with.
use Rattle.std.specs.Prelude.{ℕ, ◌≡◌, ◌≢◌, ◌++◌, List, [], ◌∷◌, Bool, true, false, not, Option, Some, None, Result, Ok, Err, filter, is_some, length, nat_le}
use Rattle.std.proofs.Common.{refl, sym, ap, ◌∙◌, cond}
use Rattle.coin_candidates.specs.declared.candidate.Candidate.{Candidate}
use Rattle.fund_steps.specs.Faults as plans
use Rattle.fund_steps.specs.Plan.{IsPlanFault, PlainPlan}
use Rattle.fund_steps.specs.declared.fault.PlanFault.{PlanFault}
use Rattle.fund_steps.specs.declared.fault.PlanFault.TheVariants as faults
use Rattle.request_text.specs.PlainRequest.{PlainRequest}
use Rattle.request_text.specs.RequestText.{request_of}
use Rattle.request_text.specs.declared.fault.Refusal as requests
use Rattle.wallet_text.specs.declared.wallet.Watch.{Watch}
use Rattle.desk_machine.specs.Machine.{by_fault, by_plan, open_step, plan_by, plan_for, plan_in, stay, with_jobs}
use Rattle.desk_machine.specs.Replies.{AllOpen, HasBump, Opened, Refusal, Refused, TakenName}
use Rattle.desk_machine.specs.State.{Job, PlainDesk, candidates_at, desk_of, has_job, is_reserved, new_job}

abbrev pub plan_of : PlainRequest → Watch → List Candidate → PlainPlan
plan_of r change coins = record { request = r; change = change; candidates = coins; bump = None }

-- the coins that may be spent now, without those of committed payments, are the plan's
pub plan_made : (d : PlainDesk) (r : PlainRequest) (change : Watch) (coins now : List Candidate) → change ≡ d.held.wallet.change → coins ≡ filter (λ (c : Candidate). not (is_reserved d.committed c.coin)) now → now ≡ candidates_at d.held r.rate → plan_of r change coins ≡ plan_in d r
plan_made d r change coins now own kept all =
    ap (λ (w : Watch). plan_of r w coins) own
    ∙ ap (plan_of r d.held.wallet.change) (kept ∙ ap (filter (λ (c : Candidate). not (is_reserved d.committed c.coin))) all)

-- what is done where no job of the name is open, and fewer than 64 are
pub open_is : (d : PlainDesk) (name request : List ℕ) (p : Result PlainPlan Refusal) → has_job d.jobs name ≡ false → nat_le 64 (length d.jobs) ≡ false → plan_for d request ≡ p → open_step d name request ≡ by_plan d name p
unfolding open_step
open_is d name request p none few is =
    ap (λ (a : Bool). cond a (stay d TakenName) (cond (nat_le 64 (length d.jobs)) (stay d AllOpen) (by_plan d name (plan_for d request)))) none
    ∙ ap (λ (b : Bool). cond b (stay d AllOpen) (by_plan d name (plan_for d request))) few
    ∙ ap (by_plan d name) is

-- no job is opened
pub open_refused : (d : PlainDesk) (name request : List ℕ) (refusal : Refusal) → has_job d.jobs name ≡ false → nat_le 64 (length d.jobs) ≡ false → plan_for (desk_of d.held d.committed) request ≡ Err refusal → open_step d name request ≡ stay d (Refused refusal)
open_refused d name request refusal none few is = open_is d name request (Err refusal) none few is

-- one is
pub open_done : (d : PlainDesk) (name request : List ℕ) (p : PlainPlan) → has_job d.jobs name ≡ false → nat_le 64 (length d.jobs) ≡ false → plan_for (desk_of d.held d.committed) request ≡ Ok p
    → open_step d name request ≡ record { reply = Opened; next = with_jobs d (d.jobs ++ new_job name p ∷ []) }
open_done d name request p none few is = open_is d name request (Ok p) none few is

-- a plan that is made pays its change to the wallet's script
pub plan_change : (d : PlainDesk) (request : List ℕ) (p : PlainPlan) → plan_for d request ≡ Ok p → p.change ≡ d.held.wallet.change
plan_change d request p is = by (request_of request) is
  where
    by_last : (q : PlainPlan) (o : Option PlanFault) → q.change ≡ d.held.wallet.change → by_fault q o ≡ Ok p → p.change ≡ d.held.wallet.change
    by_last q None own e = let same : q ≡ p = cc in sym (ap (λ (x : PlainPlan). x.change) same) ∙ own
    by_last q (Some fault) own e = absurd cc

    by_bump : (r : PlainRequest) (b : Bool) → cond b (Err HasBump) (by_fault (plan_in d r) (plans.fault_of (plan_in d r))) ≡ Ok p → p.change ≡ d.held.wallet.change
    by_bump r true e = absurd cc
    by_bump r false e = by_last (plan_in d r) (plans.fault_of (plan_in d r)) refl e

    by : (x : Result PlainRequest requests.Refusal) → plan_by d x ≡ Ok p → p.change ≡ d.held.wallet.change
    by (Err fault) e = absurd cc
    by (Ok r) e = by_bump r (is_some r.bump) e

-- the jobs with the one that is opened
pub with_job : (d : PlainDesk) (name : List ℕ) (p : PlainPlan) (j : Job) (jobs : List Job) → jobs ≡ d.jobs ++ j ∷ [] → j ≡ new_job name p → with_jobs d jobs ≡ with_jobs d (d.jobs ++ new_job name p ∷ [])
with_job d name p j jobs more is = ap (with_jobs d) more ∙ ap (λ (k : Job). with_jobs d (d.jobs ++ k ∷ [])) is

-- the fault that keeps a plan from being made is that of the plan that is due
pub due_fault : (p q : PlainPlan) (e : PlanFault) → ((x : PlainPlan) (fault : PlanFault) → IsPlanFault x fault → fault ≢ faults.Memory → plans.fault_of x ≡ Some fault) → p ≡ q → IsPlanFault p e → e ≢ faults.Memory → plans.fault_of q ≡ Some e
due_fault p q e found same is other = sym (ap plans.fault_of same) ∙ found p e is other

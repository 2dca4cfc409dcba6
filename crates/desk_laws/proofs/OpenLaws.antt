-- What a job is opened with.
use Rattle.std.specs.Prelude.{ℕ, ◌≡◌, ◌++◌, List, [], ◌∷◌, All, Bool, true, false, not, Contains, Result, Ok, Err, filter, length, nat_le}
use Rattle.std.proofs.Common.{refl, sym, ap, ◌∙◌, subst, inl, inr, cond, get_or}
use Rattle.std.proofs.lemmas.Bool.{false_from_ne_true}
use Rattle.std.proofs.lemmas.List.{get_or_default}
use Rattle.std.proofs.lemmas.List.Elements.{All-contains, All-contains_itself, All-filter, filter_passes}
use Rattle.std.proofs.lemmas.List.Folds.{Any-from_list_any}
use Rattle.fund_base.proofs.OutpointLaws.{same_outpoint-Decides}
use Rattle.fund_base.specs.Outpoints.{same_outpoint}
use Rattle.coin_candidates.specs.declared.candidate.Candidate.{Candidate}
use Rattle.fund_base.specs.declared.outpoint.OutPoint.{OutPoint}
use Rattle.fund_steps.specs.Plan.{PlainPlan}
use Rattle.output_groups.proofs.Members.{in_filter}
use Rattle.desk_machine.proofs.ApartLaws.{none_of}
use Rattle.desk_machine.specs.Commands.{Open}
use Rattle.desk_machine.specs.Commits.{IsFree}
use Rattle.desk_machine.specs.Does.{Does}
use Rattle.desk_machine.specs.Machine.{by_plan, open_step, plan_for, stay, with_jobs}
use Rattle.desk_machine.specs.Replies.{Refusal, AllOpen, Opened, TakenName}
use Rattle.desk_machine.specs.State.{Job, Payment, PlainDesk, candidates_at, free_at, has_job, has_point, is_reserved, new_job}
use Rattle.desk_laws.proofs.PlanLaws.{IsMadeOf, made_of}
use Rattle.desk_laws.specs.Opened.{IsOpenedWith}

-- ---- coins that no payment spends

-- a coin that is reserved is spent by a payment
never_reserved : (ps : List Payment) (o : OutPoint) → IsFree ps o → is_reserved ps o ≡ false
never_reserved ps o free = false_from_ne_true (is_reserved ps o) (λ e.
    let a = Any-from_list_any (λ (p : Payment). has_point p.coins o) ps e in
    All-contains (λ (p : Payment). Contains p.coins o → ⊥) ps a.1 free (a.0, a.2, get_or_default ps a.0 a.1 a.1 a.2 ∙ a.3) (at a.1 a.4))
  where
    at : (p : Payment) → has_point p.coins o ≡ true → Contains p.coins o
    at p e =
        let a = Any-from_list_any (λ (x : OutPoint). same_outpoint x o) p.coins e in
        let is : a.1 ≡ o = (same_outpoint-Decides a.1 o).0 a.4 in
        (a.0, a.2, get_or_default p.coins a.0 o a.1 a.2 ∙ a.3 ∙ is)

only_free : (d : PlainDesk) (rate : ℕ) → All (λ (c : Candidate). Contains (candidates_at d.held rate) c × IsFree d.committed c.coin) (free_at d rate)
only_free d rate = λ k c lt.
    let now = candidates_at d.held rate in
    let p : Candidate → Bool = λ x. not (is_reserved d.committed x.coin) in
    let none = none_of d.committed (get_or (filter p now) k c).coin (not_true _ (filter_passes p now k c lt)) in
    (All-filter p (Contains now) now (All-contains_itself now) k c lt, λ i q less has. absurd (none i q less has.0 (get_or (filter p now) k c).coin has.1 has.2))
  where
    not_true : (b : Bool) → not b ≡ true → b ≡ false
    not_true true e = absurd cc
    not_true false e = refl

all_free : (d : PlainDesk) (rate : ℕ) (c : Candidate) → Contains (candidates_at d.held rate) c → IsFree d.committed c.coin → Contains (free_at d rate) c
all_free d rate c there free = in_filter (λ (x : Candidate). not (is_reserved d.committed x.coin)) (candidates_at d.held rate) c there (ap not (never_reserved d.committed c.coin free))

-- ---- an open

abbrev IsOpened : PlainDesk → List ℕ → List ℕ → PlainDesk → Type 0
IsOpened d name request new = (j : Job) × IsOpenedWith d name request j × (new ≡ with_jobs d (d.jobs ++ j ∷ []))

opened_with : (d : PlainDesk) (name request : List ℕ) (p : PlainPlan) → IsMadeOf d request p → IsOpenedWith d name request (new_job name p)
opened_with d name request p m =
    subst (λ (q : PlainPlan). IsOpenedWith d name request (new_job name q)) (sym m.is)
    (record { fresh = refl; asked = m.read; change = refl; bump = refl; only = only_free d m.asked.rate; all = all_free d m.asked.rate })

step_opened : (d : PlainDesk) (name request : List ℕ) → Opened ≡ (open_step d name request).reply → IsOpened d name request (open_step d name request).next
unfolding open_step
step_opened d name request e = by (has_job d.jobs name) (nat_le 64 (length d.jobs)) (plan_for d request) refl e
  where
    by : (a b : Bool) (r : Result PlainPlan Refusal) → plan_for d request ≡ r → Opened ≡ (cond a (stay d TakenName) (cond b (stay d AllOpen) (by_plan d name r))).reply
        → IsOpened d name request (cond a (stay d TakenName) (cond b (stay d AllOpen) (by_plan d name r))).next
    by true b r is h = absurd cc
    by false true r is h = absurd cc
    by false false (Err refusal) is h = absurd cc
    by false false (Ok p) is h = (new_job name p, opened_with d name request p (made_of d request p is), refl)

pub opened_free : (d new : PlainDesk) (name request : List ℕ) → Does d (Open name request) Opened new → (j : Job) × IsOpenedWith d name request j × (new ≡ with_jobs d (d.jobs ++ j ∷ []))
opened_free d new name request (inr s) = let e = s.reply_is in absurd cc
opened_free d new name request (inl s) =
    let o = step_opened d name request s.reply_is in
    (o.0, o.1, s.next_is ∙ o.2)

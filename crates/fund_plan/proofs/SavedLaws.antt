-- Something is saved of a plan exactly where it is unfinished.
use Rattle.std.specs.Prelude.{ℕ, ◌≡◌, ◌↔◌, Bool, true, false, List, ◌∷◌, Option, Some, None, if◌then◌else◌}
use Rattle.std.proofs.Common.{refl, sym, ap, ◌∙◌}
use Rattle.search_keep.specs.SavedText.{PlainSaved}
use Rattle.search_run.specs.Found.{PlainFound}
use Rattle.search_run.specs.Kept as run
use Rattle.search_run.specs.Kept.{saved_by, saved_of}
use Rattle.search_run.specs.Runs.{saved_with}
use Rattle.search_run.specs.Step.{PlainStep}
use Rattle.search_run.specs.declared.ending.End.{End}
use Rattle.search_run.specs.declared.ending.End.TheVariants as ends
use Rattle.fund_plan.specs.Outcome.{by_end, end_at, is_partial}
use Rattle.fund_plan.specs.Resumed.{log_digest, saved_at}
use Rattle.fund_plan.specs.State.{PlanState, end_by, end_in, told}
use Rattle.fund_plan.specs.declared.outcome.Outcome.TheVariants as answers
use Rattle.fund_plan.proofs.ClaimLaws.{ended_so, open_so}
use Rattle.fund_plan.proofs.GivenLaws.{ended_none, never_open}

-- its run's own end, unless a result was taken
own_open : (s : PlanState) (o : Option PlainFound) → end_by s o ≡ ends.Unfinished → end_at s.plan s.stand ≡ ends.Unfinished
own_open s (Some f) e = absurd (cc)
own_open s None e = e

own_ended : (s : PlanState) (o : Option PlainFound) (r : Option PlainFound) → end_by s o ≡ ends.Ended r → end_at s.plan s.stand ≡ ends.Ended r
own_ended s (Some f) r e = absurd (cc)
own_ended s None r e = e

open_told : (s : PlanState) → told s ≡ answers.Unfinished → end_in s ≡ ends.Unfinished
open_told s e = by (end_in s) refl e
  where
    by : (d : End) → end_in s ≡ d → by_end s.plan d ≡ answers.Unfinished → end_in s ≡ ends.Unfinished
    by (ends.Ended None) is e = absurd (never_open s.plan (sym (ended_none s.plan) ∙ e))
    by (ends.Ended (Some g)) is e = absurd (cc)
    by (ends.Partial g) is e = absurd (cc)
    by ends.Unfinished is e = is

-- what is saved, by how it ends
saved_by_end : (s : PlanState) (job : List ℕ) (parts : ℕ) (d : End) → end_in s ≡ d → saved_at job parts s ≡ (if is_partial d then None else saved_with job parts (Some (log_digest s)) (saved_of s.stand))
saved_by_end s job parts d is = ap (λ (x : End). if is_partial x then None else saved_with job parts (Some (log_digest s)) (saved_of s.stand)) is

open_is_saved : (s : PlanState) (job : List ℕ) (parts : ℕ) → told s ≡ answers.Unfinished → (saved : PlainSaved) × (saved_at job parts s ≡ Some saved)
open_is_saved s job parts e =
    let is : end_in s ≡ ends.Unfinished = open_told s e in
    let on = open_so s.plan s.stand (own_open s s.partial is) in
    by on.step on.rest (saved_by_end s job parts ends.Unfinished is ∙ ap (λ (left : List PlainStep). saved_with job parts (Some (log_digest s)) (saved_by s.stand left)) on.left)
  where
    by : (x : PlainStep) (rest : List PlainStep) → saved_at job parts s ≡ saved_with job parts (Some (log_digest s)) (saved_by s.stand (x ∷ rest)) → (saved : PlainSaved) × (saved_at job parts s ≡ Some saved)
    by x rest e = (_, e)

saved_is_open : (s : PlanState) (job : List ℕ) (parts : ℕ) (saved : PlainSaved) → saved_at job parts s ≡ Some saved → told s ≡ answers.Unfinished
saved_is_open s job parts saved e = by (end_in s) refl (e)
  where
    by : (d : End) → end_in s ≡ d → saved_at job parts s ≡ Some saved → told s ≡ answers.Unfinished
    by (ends.Ended r) is e =
        let over = (ended_so s.plan s.stand r (own_ended s s.partial r is)).over in
        let none : None ≡ Some saved = sym (saved_by_end s job parts (ends.Ended r) is ∙ ap (λ (left : List PlainStep). saved_with job parts (Some (log_digest s)) (saved_by s.stand left)) over) ∙ e in
        absurd (cc)
    by (ends.Partial g) is e =
        let none : None ≡ Some saved = sym (saved_by_end s job parts (ends.Partial g) is) ∙ e in
        absurd (cc)
    by ends.Unfinished is e = ap (by_end s.plan) is

pub saved_where_open : (s : PlanState) (job : List ℕ) (parts : ℕ) → (told s ≡ answers.Unfinished) ↔ ((saved : PlainSaved) × (saved_at job parts s ≡ Some saved))
saved_where_open s job parts = (open_is_saved s job parts, λ h. saved_is_open s job parts h.0 h.1)

-- ---- the digest of its log

log_back : (job : List ℕ) (parts : ℕ) (log : Option (List ℕ)) (saved : PlainSaved) (o : Option run.PlainSaved) → saved_with job parts log o ≡ Some saved → saved.log ≡ log
log_back job parts log saved None e = absurd (cc)
log_back job parts log saved (Some k) e =
    let same : record { job = job; tries = k.tries; row = k.row; stage = k.stage; chosen = k.chosen; next = k.next; best = k.best; parts = parts; log = log } ≡ saved = cc in
    sym (ap (λ (s : PlainSaved). s.log) same)

log_by : (s : PlanState) (job : List ℕ) (parts : ℕ) (saved : PlainSaved) (b : Bool) → (if b then None else saved_with job parts (Some (log_digest s)) (saved_of s.stand)) ≡ Some saved → saved.log ≡ Some (log_digest s)
log_by s job parts saved true e = absurd (cc)
log_by s job parts saved false e = log_back job parts (Some (log_digest s)) saved (saved_of s.stand) e

pub saved_log : (s : PlanState) (job : List ℕ) (parts : ℕ) (saved : PlainSaved) → saved_at job parts s ≡ Some saved → saved.log ≡ Some (log_digest s)
saved_log s job parts saved e = log_by s job parts saved (is_partial (end_in s)) e

-- Plans go on in pieces as in one.
use Rattle.std.specs.Prelude.{ℕ, ◌≡◌, ◌≤◌, ◌+◌, ◌-◌, min, List, [], ◌∷◌, Option, Some, None}
use Rattle.std.proofs.Common.{refl, sym, ap, ◌∙◌, arith, inl, inr}
use Rattle.search_run.proofs.RunLaws.{all_tries, runs_add, stays_over}
use Rattle.search_run.specs.Found.{PlainFound}
use Rattle.search_run.specs.Kept.{log_of}
use Rattle.search_run.specs.Run.{Stand, go_on, over}
use Rattle.search_run.specs.Step.{PlainStep}
use Rattle.search_run.specs.declared.ending.End.{End}
use Rattle.fund_steps.specs.Plan.{PlainPlan}
use Rattle.fund_plan.specs.Outcome.{beginning_of, by_end, end_at, is_partial, led, log_at, most_tries, stand_after, tries_at}
use Rattle.fund_plan.specs.State.{GoesOnFrom, IsCutShort, PlanState, end_by, end_in, granted, moved, moved_by, partial_of, told}
use Rattle.fund_plan.proofs.EndLaws.{end_back, end_left, moved_none}

-- ---- a new plan

new_stand : (s : PlanState) (n : ℕ) → s.stand ≡ beginning_of s.plan → (moved_by s None n).stand ≡ stand_after s.plan n
new_stand s n new = ap (λ (x : Stand). led s.plan x (min n (most_tries - x.past.tries))) new

pub new_tries : (s : PlanState) (n : ℕ) → s.stand ≡ beginning_of s.plan → s.partial ≡ None → (moved s n).stand.past.tries ≡ tries_at s.plan n
unfolding tries_at
new_tries s n new none =
    ap (λ (t : PlanState). t.stand.past.tries) (moved_none s n s.partial none)
    ∙ ap (λ (x : Stand). x.past.tries) (new_stand s n new)

pub new_log : (s : PlanState) (n : ℕ) → s.stand ≡ beginning_of s.plan → s.partial ≡ None → log_of (is_partial (end_in (moved s n))) (moved s n).stand ≡ log_at s.plan n
unfolding log_at
new_log s n new none =
    let gone = moved_by s None n in
    ap (λ (t : PlanState). log_of (is_partial (end_in t)) t.stand) (moved_none s n s.partial none)
    ∙ ap (λ (e : End). log_of (is_partial e) gone.stand) (end_back gone (end_at s.plan gone.stand) refl)
    ∙ ap (λ (x : Stand). log_of (is_partial (end_at s.plan x)) x) (new_stand s n new)

-- ---- in pieces

-- so many tries more, of those that are left at a stand
abbrev pub further : PlainPlan → Stand → ℕ → Stand
further p s n = led p s (min n (most_tries - s.past.tries))

-- where all were made those that are left are as many less
left_less : (n m made most : ℕ) → min n (most - made) + min m (most - (made + min n (most - made))) ≡ min (n + m) (most - made)
left_less n m made most = omega arith

further_by : (p : PlainPlan) (s : Stand) (n m : ℕ) (left : List PlainStep) → (further p s n).left ≡ left → further p (further p s n) m ≡ further p s (n + m)
further_by p s n m [] e =
    let seed = p.request.seed in
    let a = min n (most_tries - s.past.tries) in
    let rest = min (n + m) (most_tries - s.past.tries) - a in
    let all : a + rest ≡ min (n + m) (most_tries - s.past.tries) = omega arith in
    stays_over seed (further p s n) (min m (most_tries - (further p s n).past.tries)) e
    ∙ sym (stays_over seed (further p s n) rest e)
    ∙ runs_add seed s a rest
    ∙ ap (go_on seed s) all
further_by p s n m (x ∷ rest) e =
    let seed = p.request.seed in
    let a = min n (most_tries - s.past.tries) in
    let tried = (all_tries seed s a x rest e).tries in
    ap (λ (t : ℕ). led p (further p s n) (min m (most_tries - t))) tried
    ∙ runs_add seed s a (min m (most_tries - (s.past.tries + a)))
    ∙ ap (go_on seed s) (left_less n m s.past.tries most_tries)

pub further_on : (p : PlainPlan) (s : Stand) (n m : ℕ) → further p (further p s n) m ≡ further p s (n + m)
further_on p s n m = further_by p s n m (further p s n).left refl

abbrev pub state_at : PlainPlan → Stand → PlanState
state_at p s = record { plan = p; stand = s; partial = partial_of (end_at p s) }

pub pieces_add : (s : PlanState) (n m : ℕ) → (moved s n).partial ≡ None → moved (moved s n) m ≡ moved s (n + m)
pieces_add s n m none = by s.partial refl none
  where
    by : (o : Option PlainFound) → s.partial ≡ o → (moved_by s o n).partial ≡ None → moved (moved s n) m ≡ moved s (n + m)
    by (Some f) is none = let x = sym is ∙ none in absurd (cc)
    by None is none =
        ap (λ (t : PlanState). moved t m) (moved_none s n s.partial is)
        ∙ moved_none (moved_by s None n) m (moved_by s None n).partial none
        ∙ ap (state_at s.plan) (further_on s.plan s.stand n m)
        ∙ sym (moved_none s (n + m) s.partial is)

-- ---- where it ran out of memory

left_after : (m made most k : ℕ) → k ≤ most - made → k + min m (most - (made + k)) ≡ min (k + m) (most - made)
left_after m made most k h = omega arith

granted_whole : (n left : ℕ) → min (min n left) left ≡ min n left
granted_whole n left = omega arith

pub cut_stays : (s t : PlanState) (f : PlainFound) (n : ℕ) → s.partial ≡ Some f → IsCutShort s n t → t ≡ s
cut_stays s t f n is cut = λ k. record { plan = cut.plan k; stand = cut.taken f is k; partial = cut.partial k }

pub cut_goes : (s t : PlanState) (n : ℕ) → s.partial ≡ None → IsCutShort s n t → GoesOnFrom s n t
cut_goes s t n none cut =
    elim cut.stand [
      | inl led_by ↦ (
          let k = led_by.0 in
          let few : k ≤ granted s n = led_by.1 in
          let leads = led_by.2 in
          record {
            made = k;
            most = few;
            goes = λ m.
                let count : k + min m (most_tries - (s.stand.past.tries + k)) ≡ min (k + m) (most_tries - s.stand.past.tries) = left_after m s.stand.past.tries most_tries k (omega (arith, few)) in
                together m k
                (ap (λ (x : ℕ). led s.plan t.stand (min m (most_tries - x))) leads.tries ∙ leads.goes (min m (most_tries - (s.stand.past.tries + k))) ∙ ap (go_on s.plan.request.seed s.stand) count);
          }
          )
      | inr whole ↦ (
          let g = granted s n in
          record {
            made = g;
            most = omega arith;
            goes = λ m.
                together m g
                (ap (λ (x : Stand). further s.plan x m) (whole ∙ ap (led s.plan s.stand) (sym (granted_whole n (most_tries - s.stand.past.tries)))) ∙ further_on s.plan s.stand g m);
          }
          )
    ]
  where
    together : (m k : ℕ) → further s.plan t.stand m ≡ further s.plan s.stand (k + m) → moved t m ≡ moved s (k + m)
    together m k is =
        moved_none t m t.partial (cut.partial ∙ none)
        ∙ ap (λ (p : PlainPlan). state_at p (further p t.stand m)) cut.plan
        ∙ ap (state_at s.plan) is
        ∙ sym (moved_none s (k + m) s.partial none)

-- ---- a plan that has come to its end

pub taken_stays : (s : PlanState) (f : PlainFound) (n : ℕ) → s.partial ≡ Some f → moved s n ≡ s
taken_stays s f n some = ap (λ (o : Option PlainFound). moved_by s o n) some

pub over_stays : (s : PlanState) (n : ℕ) → s.partial ≡ None → s.stand.left ≡ [] → told (moved s n) ≡ told s
over_stays s n none left =
    let gone = further s.plan s.stand n in
    let is : gone ≡ over s.stand.past = stays_over s.plan.request.seed s.stand (min n (most_tries - s.stand.past.tries)) left in
    ap told (moved_none s n s.partial none)
    ∙ ap (by_end s.plan) (end_back (state_at s.plan gone) (end_at s.plan gone) refl ∙ ap (end_at s.plan) is ∙ sym (end_left s.plan s.stand left))
    ∙ sym (told_none s none)
  where
    told_none : (s : PlanState) → s.partial ≡ None → told s ≡ by_end s.plan (end_at s.plan s.stand)
    told_none s none = ap (λ (o : Option PlainFound). by_end s.plan (end_by s o)) none

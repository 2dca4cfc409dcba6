-- Plans that go on from what was kept of them.
use Rattle.std.specs.Prelude.{ℕ, ◌≡◌, ◌<◌, ◌≤◌, ◌-◌, ◌+◌, min, Bool, true, false, List, [], ◌∷◌, Option, Some, None, if◌then◌else◌}
use Rattle.std.proofs.Common.{refl, sym, ap, subst, ◌∙◌}
use Rattle.sha2.specs.Sha256.{sha256}
use Rattle.closing_log.specs.Log.{PlainLog}
use Rattle.closing_log.specs.LogText.{text_of}
use Rattle.pick_problem.specs.Walk.{upward}
use Rattle.search_keep.specs.SavedText.{CanBeSaved, PlainSaved}
use Rattle.search_run.proofs.KeptLaws.{kept_is, refreshed_goes_on, same_end, same_log, same_saved}
use Rattle.search_run.proofs.MadeLaws.{accepted_best_along, kept_stands_on, stand_answers}
use Rattle.search_run.proofs.ResultLaws.{kept_stands}
use Rattle.search_run.proofs.RunLaws.{all_tries}
use Rattle.search_run.specs.Found.{PlainFound, taken}
use Rattle.search_run.specs.Judged.{saved_in}
use Rattle.search_run.specs.Kept.{CanGoOn, log_of, refreshed, saved_by, saved_of, stand_of}
use Rattle.search_run.specs.Kept as run
use Rattle.search_run.specs.Run.{Stand}
use Rattle.search_run.specs.Runs.{saved_with}
use Rattle.search_run.specs.Step.{AreSteps, PlainStep}
use Rattle.search_run.specs.declared.ending.End.{End}
use Rattle.search_run.specs.declared.ending.End.TheVariants as ends
use Rattle.fund_steps.proofs.WholeLaws.{steps_whole}
use Rattle.fund_steps.specs.Basis.{basis_of}
use Rattle.fund_steps.specs.Plan.{PlainPlan}
use Rattle.fund_plan.specs.Outcome.{IsAnswerOf, by_end, end_at, is_partial, most_tries}
use Rattle.fund_plan.specs.Resumed.{AreAccepted, CanRestore, IsStandOf, log_digest, log_in, restored_at, saved_at}
use Rattle.fund_plan.specs.State.{PlanState, end_by, end_in, granted, moved, moved_by, partial_of, told}
use Rattle.fund_plan.specs.Steps.{steps_of}
use Rattle.fund_plan.proofs.CanLaws.{writable}
use Rattle.fund_plan.proofs.EndLaws.{end_back, end_left, moved_none}
use Rattle.fund_plan.proofs.GoingLaws.{further, further_on, state_at}

-- ---- stands that are alike

end_there : (p : PlainPlan) (x : Stand) → end_in (state_at p x) ≡ end_at p x
end_there p x = end_back (state_at p x) (end_at p x) refl

module _ (p : PlainPlan) (x y : Stand) (e : refreshed x ≡ refreshed y) where
  alike_end : end_in (state_at p x) ≡ end_in (state_at p y)
  alike_end = end_there p x ∙ (same_end p.request.seed x y e p.request.take ∙ sym (end_there p y))

  pub alike_told : told (state_at p x) ≡ told (state_at p y)
  alike_told = ap (by_end p) alike_end

  pub alike_log : log_in (state_at p x) ≡ log_in (state_at p y)
  alike_log =
      ap (λ (end : End). log_of (is_partial end) x) alike_end
      ∙ same_log p.request.seed x y e (is_partial (end_in (state_at p y)))

  pub alike_saved : (job : List ℕ) (parts : ℕ) → saved_at job parts (state_at p x) ≡ saved_at job parts (state_at p y)
  alike_saved job parts =
      ap (λ (end : End). if is_partial end then None else saved_with job parts (Some (log_digest (state_at p x))) (saved_of x)) alike_end
      ∙ (ap (λ (o : Option run.PlainSaved). if is_partial (end_in (state_at p y)) then None else saved_with job parts (Some (log_digest (state_at p x))) o) (same_saved p.request.seed x y e)
      ∙ ap (λ (l : PlainLog). if is_partial (end_in (state_at p y)) then None else saved_with job parts (Some (sha256 (text_of l))) (saved_of y)) alike_log)

-- ---- what is saved of an unfinished plan

saved_back : (job : List ℕ) (parts : ℕ) (log : Option (List ℕ)) (saved : PlainSaved) (o : Option run.PlainSaved) → saved_with job parts log o ≡ Some saved → o ≡ Some (saved_in saved)
saved_back job parts log saved None e = absurd (cc)
saved_back job parts log saved (Some k) e =
    let same : record { job = job; tries = k.tries; row = k.row; stage = k.stage; chosen = k.chosen; next = k.next; best = k.best; parts = parts; log = log } ≡ saved = cc in
    ap (λ (s : PlainSaved). Some (saved_in s)) same

job_back : (job : List ℕ) (parts : ℕ) (log : Option (List ℕ)) (saved : PlainSaved) (o : Option run.PlainSaved) → saved_with job parts log o ≡ Some saved → saved.job ≡ job
job_back job parts log saved None e = absurd (cc)
job_back job parts log saved (Some k) e =
    let same : record { job = job; tries = k.tries; row = k.row; stage = k.stage; chosen = k.chosen; next = k.next; best = k.best; parts = parts; log = log } ≡ saved = cc in
    sym (ap (λ (s : PlainSaved). s.job) same)

parts_back : (job : List ℕ) (parts : ℕ) (log : Option (List ℕ)) (saved : PlainSaved) (o : Option run.PlainSaved) → saved_with job parts log o ≡ Some saved → saved.parts ≡ parts
parts_back job parts log saved None e = absurd (cc)
parts_back job parts log saved (Some k) e =
    let same : record { job = job; tries = k.tries; row = k.row; stage = k.stage; chosen = k.chosen; next = k.next; best = k.best; parts = parts; log = log } ≡ saved = cc in
    sym (ap (λ (s : PlainSaved). s.parts) same)

tries_back : (s : Stand) (left : List PlainStep) (k : run.PlainSaved) → saved_by s left ≡ Some k → k.tries ≡ s.past.tries
tries_back s [] k e = absurd (cc)
tries_back s (x ∷ rest) k e =
    let same : record { tries = s.past.tries; row = x.row; stage = x.stage; chosen = upward s.walk.stack; next = s.walk.next; best = s.walk.best } ≡ k = cc in
    sym (ap (λ (j : run.PlainSaved). j.tries) same)

left_by : (s : Stand) (left : List PlainStep) (k : run.PlainSaved) → saved_by s left ≡ Some k → (x : PlainStep) × ((rest : List PlainStep) × (left ≡ x ∷ rest))
left_by s [] k e = absurd (cc)
left_by s (x ∷ rest) k e = (x, (rest, refl))

-- what is known of a plan of which this is saved after n tries
record IsKept (s : PlanState) (n : ℕ) (job : List ℕ) (parts : ℕ) (saved : PlainSaved) : Type 0 where
  none : s.partial ≡ None
  here : saved_of (further s.plan s.stand n) ≡ Some (saved_in saved)
  log : log_in (moved s n) ≡ log_of false (further s.plan s.stand n)
  of_job : saved.job ≡ job
  of_parts : saved.parts ≡ parts

unsaved : (s : PlanState) (f : PlainFound) (job : List ℕ) (parts : ℕ) → s.partial ≡ Some f → saved_at job parts s ≡ None
unsaved s f job parts some = ap (λ (o : Option PlainFound). if is_partial (end_by s o) then None else saved_with job parts (Some (log_digest s)) (saved_of s.stand)) some

kept_there : (s : PlanState) (n : ℕ) (job : List ℕ) (parts : ℕ) (log : Option (List ℕ)) (saved : PlainSaved) (b : Bool) → s.partial ≡ None → is_partial (end_in (state_at s.plan (further s.plan s.stand n))) ≡ b →
    (if b then None else saved_with job parts log (saved_of (further s.plan s.stand n))) ≡ Some saved → IsKept s n job parts saved
kept_there s n job parts log saved true none is e = absurd (cc)
kept_there s n job parts log saved false none is e = record {
  none = none;
  here = saved_back job parts log saved (saved_of (further s.plan s.stand n)) e;
  log = ap log_in (moved_none s n s.partial none) ∙ ap (λ (b : Bool). log_of b (further s.plan s.stand n)) is;
  of_job = job_back job parts log saved (saved_of (further s.plan s.stand n)) e;
  of_parts = parts_back job parts log saved (saved_of (further s.plan s.stand n)) e;
}

kept : (s : PlanState) (n : ℕ) (job : List ℕ) (parts : ℕ) (saved : PlainSaved) → saved_at job parts (moved s n) ≡ Some saved → IsKept s n job parts saved
kept s n job parts saved e = by s.partial refl
  where
    by : (o : Option PlainFound) → s.partial ≡ o → IsKept s n job parts saved
    by (Some f) is =
        let none : None ≡ Some saved = sym (unsaved s f job parts is) ∙ (sym (ap (λ (o : Option PlainFound). saved_at job parts (moved_by s o n)) is) ∙ e) in
        absurd (cc)
    by None is =
        let there = state_at s.plan (further s.plan s.stand n) in
        kept_there s n job parts (Some (log_digest there)) saved (is_partial (end_in there)) is refl
        (sym (ap (saved_at job parts) (moved_none s n s.partial is)) ∙ e)

-- ---- going on from it

module _ (s : PlanState) (n : ℕ) (job : List ℕ) (parts : ℕ) (saved : PlainSaved) (are : AreSteps (steps_of s.plan)) (stands : IsStandOf s) (k : IsKept s n job parts saved) where
  there : Stand
  there = further s.plan s.stand n

  both : (stand_of s.plan.request.seed (steps_of s.plan) (saved_in saved) (log_of false (further s.plan s.stand n)) ≡ refreshed (further s.plan s.stand n)) × CanGoOn s.plan.request.seed (steps_of s.plan) (saved_in saved) (log_of false (further s.plan s.stand n))
  both =
      let left = left_by (further s.plan s.stand n) (further s.plan s.stand n).left (saved_in saved) k.here in
      kept_is s.plan.request.seed (steps_of s.plan) (saved_in saved) (further s.plan s.stand n)
      (kept_stands_on s.plan.request.seed (steps_of s.plan) are s.stand (granted s n) stands)
      (all_tries s.plan.request.seed s.stand (granted s n) left.0 left.1.0 left.1.1).going k.here

  goes_alike : (m : ℕ) → refreshed (further s.plan (stand_of s.plan.request.seed (steps_of s.plan) (saved_in saved) (log_in (moved s n))) m) ≡ refreshed (further s.plan s.stand (n + m))
  goes_alike m =
      ap (λ (log : PlainLog). refreshed (further s.plan (stand_of s.plan.request.seed (steps_of s.plan) (saved_in saved) log) m)) k.log
      ∙ (ap (λ (x : Stand). refreshed (further s.plan x m)) both.0
      ∙ (refreshed_goes_on s.plan.request.seed (further s.plan s.stand n) (min m (most_tries - (further s.plan s.stand n).past.tries))
      ∙ ap refreshed (further_on s.plan s.stand n m)))

  whole : (m : ℕ) → state_at s.plan (further s.plan s.stand (n + m)) ≡ moved s (n + m)
  whole m = sym (moved_none s (n + m) s.partial k.none)

  goes_told : (m : ℕ) → told (moved (restored_at s.plan saved (log_in (moved s n))) m) ≡ told (moved s (n + m))
  goes_told m =
      alike_told s.plan (further s.plan (stand_of s.plan.request.seed (steps_of s.plan) (saved_in saved) (log_in (moved s n))) m) (further s.plan s.stand (n + m)) (goes_alike m)
      ∙ ap told (whole m)

  goes_tries : (m : ℕ) → (moved (restored_at s.plan saved (log_in (moved s n))) m).stand.past.tries ≡ (moved s (n + m)).stand.past.tries
  goes_tries m = ap (λ (x : Stand). x.past.tries) (goes_alike m) ∙ ap (λ (t : PlanState). t.stand.past.tries) (whole m)

  goes_log : (m : ℕ) → log_in (moved (restored_at s.plan saved (log_in (moved s n))) m) ≡ log_in (moved s (n + m))
  goes_log m =
      alike_log s.plan (further s.plan (stand_of s.plan.request.seed (steps_of s.plan) (saved_in saved) (log_in (moved s n))) m) (further s.plan s.stand (n + m)) (goes_alike m)
      ∙ ap log_in (whole m)

  goes_saved : (m : ℕ) (now : List ℕ) (count : ℕ) → saved_at now count (moved (restored_at s.plan saved (log_in (moved s n))) m) ≡ saved_at now count (moved s (n + m))
  goes_saved m now count =
      alike_saved s.plan (further s.plan (stand_of s.plan.request.seed (steps_of s.plan) (saved_in saved) (log_in (moved s n))) m) (further s.plan s.stand (n + m)) (goes_alike m) now count
      ∙ ap (saved_at now count) (whole m)

  goes_accepted : (moved s n).stand.past.tries < most_tries → CanRestore s.plan job saved (log_in (moved s n))
  goes_accepted few =
      let made : saved.tries ≡ (moved s n).stand.past.tries =
      tries_back (further s.plan s.stand n) (further s.plan s.stand n).left (saved_in saved) k.here
      ∙ sym (ap (λ (t : PlanState). t.stand.past.tries) (moved_none s n s.partial k.none)) in
      record {
        due = record { job = k.of_job; tries = subst (λ (t : ℕ). t < most_tries) (sym made) few };
        can = subst (λ (log : PlainLog). CanGoOn s.plan.request.seed (steps_of s.plan) (saved_in saved) log) (sym k.log) both.1;
      }

  goes_written : 1 ≤ parts → parts ≤ (moved s n).stand.past.tries + 1 → CanBeSaved saved
  goes_written some few =
      let left = left_by (further s.plan s.stand n) (further s.plan s.stand n).left (saved_in saved) k.here in
      let w = writable s.plan.request.seed (steps_of s.plan) (further s.plan s.stand n) (saved_in saved) are
      (kept_stands_on s.plan.request.seed (steps_of s.plan) are s.stand (granted s n) stands)
      (all_tries s.plan.request.seed s.stand (granted s n) left.0 left.1.0 left.1.1).going k.here in
      let made : saved.tries ≡ (moved s n).stand.past.tries =
      tries_back (further s.plan s.stand n) (further s.plan s.stand n).left (saved_in saved) k.here
      ∙ sym (ap (λ (t : PlanState). t.stand.past.tries) (moved_none s n s.partial k.none)) in
      record {
        stage = w.stage;
        best = w.best;
        some = subst (λ (t : ℕ). 1 ≤ t) (sym k.of_parts) some;
        parts = subst (λ (t : ℕ). t ≤ saved.tries + 1) (sym k.of_parts) (subst (λ (t : ℕ). parts ≤ t + 1) (sym made) few);
      }

-- the same, of what is saved
module _ (s : PlanState) (n : ℕ) (job : List ℕ) (parts : ℕ) (saved : PlainSaved) (are : AreSteps (steps_of s.plan)) (stands : IsStandOf s) (e : saved_at job parts (moved s n) ≡ Some saved) where
  pub told_on : (m : ℕ) → told (moved (restored_at s.plan saved (log_in (moved s n))) m) ≡ told (moved s (n + m))
  told_on m = goes_told s n job parts saved are stands (kept s n job parts saved e) m

  pub tries_on : (m : ℕ) → (moved (restored_at s.plan saved (log_in (moved s n))) m).stand.past.tries ≡ (moved s (n + m)).stand.past.tries
  tries_on m = goes_tries s n job parts saved are stands (kept s n job parts saved e) m

  pub log_on : (m : ℕ) → log_in (moved (restored_at s.plan saved (log_in (moved s n))) m) ≡ log_in (moved s (n + m))
  log_on m = goes_log s n job parts saved are stands (kept s n job parts saved e) m

  pub saved_on : (m : ℕ) (now : List ℕ) (count : ℕ) → saved_at now count (moved (restored_at s.plan saved (log_in (moved s n))) m) ≡ saved_at now count (moved s (n + m))
  saved_on m now count = goes_saved s n job parts saved are stands (kept s n job parts saved e) m now count

  pub accepted_on : (moved s n).stand.past.tries < most_tries → CanRestore s.plan job saved (log_in (moved s n))
  accepted_on few = goes_accepted s n job parts saved are stands (kept s n job parts saved e) few

  pub written_on : 1 ≤ parts → parts ≤ (moved s n).stand.past.tries + 1 → CanBeSaved saved
  written_on some few = goes_written s n job parts saved are stands (kept s n job parts saved e) some few

-- ---- whatever was kept

told_over : (s : PlanState) → s.partial ≡ None → s.stand.left ≡ [] → told s ≡ by_end s.plan (ends.Ended (taken s.stand.past.found))
told_over s none over =
    ap (λ (o : Option PlainFound). by_end s.plan (end_by s o)) none ∙ ap (by_end s.plan) (end_left s.plan s.stand over)

pub verified_answers : (s : PlanState) → AreSteps (steps_of s.plan) → IsStandOf s → s.partial ≡ None → s.stand.left ≡ [] → AreAccepted s.plan s.stand.past.closed → IsAnswerOf s.plan (told s)
verified_answers s are stands none over accepted = record {
  found = taken s.stand.past.found;
  answer = stand_answers s.plan.request.seed (steps_of s.plan) s.stand (steps_whole (basis_of s.plan)) stands (accepted_best_along s.plan.request.seed (steps_of s.plan) s.stand.past.closed are accepted) over;
  is = told_over s none over;
}

ended_none : (p : PlainPlan) (x : Stand) → x.left ≡ [] → (state_at p x).partial ≡ None
ended_none p x over = ap partial_of (end_left p x over)

pub restored_answers : (p : PlainPlan) (now : List ℕ) (saved : PlainSaved) (log : PlainLog) (m : ℕ) → AreSteps (steps_of p) →
    CanRestore p now saved log → (moved (restored_at p saved log) m).stand.left ≡ [] →
    AreAccepted p (moved (restored_at p saved log) m).stand.past.closed →
    IsAnswerOf p (told (moved (restored_at p saved log) m))
restored_answers p now saved log m are can over accepted =
    let from = stand_of p.request.seed (steps_of p) (saved_in saved) log in
    let end = further p from m in
    verified_answers (state_at p end) are
    (kept_stands_on p.request.seed (steps_of p) are from (min m (most_tries - saved.tries)) (kept_stands p.request.seed (steps_of p) are (saved_in saved) log can.can))
    (ended_none p end over) over accepted

-- What is kept is refused for one cause.
use Rattle.std.specs.Prelude.{ℕ, ◌≡◌, ◌≢◌, ◌≤◌, ◌⊎◌, min, List}
use Rattle.std.proofs.Common.{refl, sym, ap, ◌∙◌, arith, inl, inr}
use Rattle.closing_log.specs.Log.{PlainLog, PlainSection}
use Rattle.log_checker.specs.declared.fault.LogFault.{LogFault}
use Rattle.log_checker.specs.declared.fault.LogFault.TheVariants as logs
use Rattle.search_keep.specs.Resumed.{MayGoOn}
use Rattle.search_keep.specs.SavedText.{PlainSaved}
use Rattle.search_keep.specs.declared.fault.SavedFault.{SavedFault}
use Rattle.search_keep.specs.declared.fault.SavedFault.TheVariants as saved
use Rattle.search_run.proofs.ComeLaws.{along_weaker}
use Rattle.search_run.proofs.ExactLaws.{kept_not_refused, one_log_fault, one_refusal}
use Rattle.search_run.proofs.MadeLaws.{run_stands}
use Rattle.search_run.specs.Judged.{saved_in}
use Rattle.search_run.specs.Kept.{IsAcceptedAt, first_search}
use Rattle.search_run.specs.Stands.{IsMadeAt}
use Rattle.search_run.specs.Step.{AreSteps}
use Rattle.search_run.specs.declared.fault.RestoreRefused.{RestoreRefused}
use Rattle.search_run.specs.declared.fault.RestoreRefused.TheVariants as refused
use Rattle.search_run.specs.declared.fault.VerifyFault.TheVariants as verified
use Rattle.fund_steps.specs.Plan.{PlainPlan}
use Rattle.fund_plan.specs.Outcome.{most_tries, stand_after}
use Rattle.fund_plan.specs.Resumed.{AreAccepted, CanRestore, IsAnswerFault, IsCheckFault, IsFalseAt, IsNotRestored, IsRefusedIn, IsSavedFault, check_of, fault_of}
use Rattle.fund_plan.specs.Steps.{steps_of}
use Rattle.fund_plan.specs.declared.fault.CheckAt.{CheckAt}
use Rattle.fund_plan.specs.declared.fault.CheckAt.TheVariants as check
use Rattle.fund_plan.specs.declared.fault.PlanSavedFault.{PlanSavedFault}
use Rattle.fund_plan.specs.declared.fault.PlanSavedFault.TheVariants as planned

-- ---- a position and a log

-- the job is due, and the run is refused for a cause that isn't out of memory
record IsOfRun (p : PlainPlan) (now : List ℕ) (s : PlainSaved) (log : PlainLog) (e : PlanSavedFault) : Type 0 where
  due : MayGoOn s now
  cause : RestoreRefused
  some : cause ≢ refused.Memory
  refuses : IsRefusedIn p s log cause
  is : e ≡ fault_of cause

IsOther : List ℕ → PlainSaved → PlanSavedFault → Type 0
IsOther now s e = (e ≡ planned.Saved (saved.JobElse s.job now)) × (s.job ≡ now → ⊥)

IsSpent : List ℕ → PlainSaved → PlanSavedFault → Type 0
IsSpent now s e = (e ≡ planned.Saved saved.Spent) × (s.job ≡ now) × (10_000_000 ≤ s.tries)

IsCause : PlainPlan → List ℕ → PlainSaved → PlainLog → PlanSavedFault → Type 0
IsCause p now s log e = IsOther now s e ⊎ (IsSpent now s e ⊎ IsOfRun p now s log e)

module _ (p : PlainPlan) (now : List ℕ) (s : PlainSaved) (log : PlainLog) where
  of_saved : (f : SavedFault) → IsSavedFault p now s log f → IsCause p now s log (planned.Saved f)
  unfolding IsCause IsOther IsSpent
  of_saved (saved.JobElse kept given) h = inl (ap (λ (k : List ℕ). planned.Saved (saved.JobElse k given)) h.0 ∙ ap (λ (g : List ℕ). planned.Saved (saved.JobElse s.job g)) h.1, h.2)
  of_saved saved.Spent h = inr (inl (refl, h.0, h.1))
  of_saved saved.IllFormed h = inr (inr (record { due = h.0; cause = refused.IllFormed; some = λ e. cc; refuses = h.1; is = refl }))
  of_saved saved.Memory h = absurd h
  of_saved (saved.Form place) h = absurd h

  of_answer : (i : ℕ) (f : LogFault) → IsAnswerFault p now s log i f → IsCause p now s log (planned.False (check.Log i f))
  unfolding IsCause
  of_answer i logs.AnswerNotAdmissible h = inr (inr (record { due = h.0; cause = refused.Answer i; some = λ e. cc; refuses = h.1; is = refl }))
  of_answer i (logs.UnknownToken n) h = absurd h
  of_answer i (logs.ReasonFalse n) h = absurd h
  of_answer i (logs.TooLong n) h = absurd h
  of_answer i logs.Open h = absurd h
  of_answer i logs.AnswerNotMet h = absurd h
  of_answer i (logs.BetterMet n) h = absurd h
  of_answer i logs.Memory h = absurd h

  of_false : (f : CheckAt) → IsFalseAt p now s log f → IsCause p now s log (planned.False f)
  unfolding IsCause
  of_false (check.Section i) h = inr (inr (record { due = h.0; cause = refused.Section i; some = λ e. cc; refuses = h.1; is = refl }))
  of_false (check.Log i f) h = of_answer i f h
  of_false check.Memory h = absurd h

  cause_of : (e : PlanSavedFault) → e ≢ planned.Memory → IsNotRestored p now s log e → IsCause p now s log e
  cause_of (planned.Saved f) some h = of_saved f h
  cause_of (planned.False f) some h = of_false f h
  cause_of planned.Memory some h = absurd (some refl)

  none_by : (e : PlanSavedFault) → CanRestore p now s log → IsCause p now s log e → ⊥
  unfolding IsCause IsOther IsSpent
  none_by e can (inl a) = a.1 can.due.job
  none_by e can (inr (inl b)) = omega (arith, b.2, can.due.tries)
  none_by e can (inr (inr c)) = c.some (kept_not_refused p.request.seed (steps_of p) (saved_in s) log c.cause can.can c.refuses)

  pub kept_no_cause : (e : PlanSavedFault) → CanRestore p now s log → IsNotRestored p now s log e → e ≡ planned.Memory
  kept_no_cause (planned.Saved f) can h = absurd (none_by (planned.Saved f) can (of_saved f h))
  kept_no_cause (planned.False f) can h = absurd (none_by (planned.False f) can (of_false f h))
  kept_no_cause planned.Memory can h = refl

  one_by : (e f : PlanSavedFault) → IsCause p now s log e → IsCause p now s log f → e ≡ f
  unfolding IsCause IsOther IsSpent
  one_by e f (inl a) (inl b) = a.0 ∙ sym b.0
  one_by e f (inl a) (inr (inl b)) = absurd (a.1 b.1)
  one_by e f (inl a) (inr (inr b)) = absurd (a.1 b.due.job)
  one_by e f (inr (inl a)) (inl b) = absurd (b.1 a.1)
  one_by e f (inr (inl a)) (inr (inl b)) = a.0 ∙ sym b.0
  one_by e f (inr (inl a)) (inr (inr b)) = absurd (omega (arith, a.2, b.due.tries))
  one_by e f (inr (inr a)) (inl b) = absurd (b.1 a.due.job)
  one_by e f (inr (inr a)) (inr (inl b)) = absurd (omega (arith, b.2, a.due.tries))
  one_by e f (inr (inr a)) (inr (inr b)) =
      a.is ∙ (ap fault_of (one_refusal p.request.seed (steps_of p) (saved_in s) log a.cause b.cause a.some b.some a.refuses b.refuses) ∙ sym b.is)

  pub one_kept_cause : (e f : PlanSavedFault) → e ≢ planned.Memory → f ≢ planned.Memory → IsNotRestored p now s log e → IsNotRestored p now s log f → e ≡ f
  one_kept_cause e f n m h k = one_by e f (cause_of e n h) (cause_of f m k)

-- ---- a log

pub one_check_cause : (p : PlainPlan) (sections : List PlainSection) (e f : CheckAt) → e ≢ check.Memory → f ≢ check.Memory → IsCheckFault p sections e → IsCheckFault p sections f → e ≡ f
one_check_cause p sections (check.Log i e) (check.Log j f) n m h k =
    ap check_of (one_log_fault p.request.seed (steps_of p) sections (verified.Log i e) (verified.Log j f) (λ x. cc) (λ x. cc) h k)
one_check_cause p sections (check.Log i e) (check.Section j) n m h k = absurd k
one_check_cause p sections (check.Log i e) check.Memory n m h k = absurd (m refl)
one_check_cause p sections (check.Section i) f n m h k = absurd h
one_check_cause p sections check.Memory f n m h k = absurd (n refl)

-- the log of a new plan is accepted
pub new_accepted : (p : PlainPlan) (n : ℕ) → AreSteps (steps_of p) → AreAccepted p (stand_after p n).past.closed
new_accepted p n are =
    along_weaker IsMadeAt IsAcceptedAt p.request.seed (first_search p.request.seed (steps_of p)) (stand_after p n).past.closed (λ a t h. h.1)
    (run_stands p.request.seed (steps_of p) are (min n most_tries)).closed

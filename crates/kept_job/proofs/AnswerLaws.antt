-- What a plan claims that went on from a kept job, whatever was kept.
use Rattle.std.specs.Prelude.{ℕ, ◌≡◌, ◌-◌, ◌⊎◌, min, Bool, true, false, cond, List, [], ◌∷◌, Option, Some, None}
use Rattle.std.proofs.Common.{refl, sym, ap, subst, ◌∙◌, inl, inr}
use Rattle.fund_plan.proofs.ClaimLaws.{ended_so, open_so}
use Rattle.fund_plan.proofs.EndLaws.{end_back}
use Rattle.fund_plan.proofs.GivenLaws.{ended_none, never_open}
use Rattle.fund_plan.proofs.GoingLaws.{further, state_at}
use Rattle.fund_plan.proofs.KeepLaws.{restored_answers}
use Rattle.fund_plan.specs.Outcome.{IsAnswerOf, by_end, end_at, most_tries}
use Rattle.fund_plan.specs.Resumed.{AreAccepted, CanRestore, restored_at}
use Rattle.fund_plan.specs.State.{moved, told}
use Rattle.fund_plan.specs.Steps.{steps_of}
use Rattle.fund_plan.specs.declared.outcome.Outcome.{Outcome}
use Rattle.fund_plan.specs.declared.outcome.Outcome.TheVariants as answers
use Rattle.fund_steps.specs.Plan.{PlainPlan}
use Rattle.closing_log.specs.Log.{PlainLog}
use Rattle.search_keep.specs.SavedText.{PlainSaved}
use Rattle.search_run.proofs.ChoiceLaws.{none_taken}
use Rattle.search_run.proofs.RunLaws.{all_tries}
use Rattle.search_run.specs.Found.{PlainFound, taken}
use Rattle.search_run.specs.Judged.{saved_in}
use Rattle.search_run.specs.Kept.{stand_of}
use Rattle.search_run.specs.Run.{Stand, results_in_column, end_by, or_unfinished}
use Rattle.search_run.specs.Step.{AreSteps, PlainStep}
use Rattle.search_run.specs.declared.ending.End.{End}
use Rattle.search_run.specs.declared.ending.End.TheVariants as ends
use Rattle.kept_job.specs.Continued.{IsSettled, IsUsedUpOn}

-- nothing is taken where it isn't asked for, or nothing is at hand
untaken : (p : PlainPlan) (s : Stand) → end_at p s ≡ ends.Unfinished → (p.request.take ≡ false) ⊎ (results_in_column p.request.seed s s.left ≡ [])
untaken p s e = by s.left e
  where
    by_asked : (b : Bool) (found : List PlainFound) → cond b (or_unfinished (taken found)) ends.Unfinished ≡ ends.Unfinished → (b ≡ false) ⊎ (taken found ≡ None)
    by_asked false found e = inl refl
    by_asked true found e = inr (by_found (taken found) e)
      where
        by_found : (o : Option PlainFound) → or_unfinished o ≡ ends.Unfinished → o ≡ None
        by_found None e = refl
        by_found (Some g) e = absurd (cc)

    by : (left : List PlainStep) → end_by p.request.take p.request.seed s left ≡ ends.Unfinished → (p.request.take ≡ false) ⊎ (results_in_column p.request.seed s left ≡ [])
    by [] e = absurd (cc)
    by (x ∷ rest) e =
        elim (by_asked p.request.take (results_in_column p.request.seed s (x ∷ rest)) e) [
          | inl unasked ↦ inl unasked
          | inr none ↦ inr (none_taken (results_in_column p.request.seed s (x ∷ rest)) none)
        ]

module _ (p : PlainPlan) (now : List ℕ) (saved : PlainSaved) (log : PlainLog) (m : ℕ) where
  pub told_on_is : told (moved (restored_at p saved log) m) ≡ by_end p (end_at p (further p (stand_of p.request.seed (steps_of p) (saved_in saved) log) m))
  told_on_is =
      let x = further p (stand_of p.request.seed (steps_of p) (saved_in saved) log) m in
      ap (by_end p) (end_back (state_at p x) (end_at p x) refl)

  pub settled_answers : AreSteps (steps_of p) → CanRestore p now saved log → (o : Outcome) → o ≡ told (moved (restored_at p saved log) m) → IsSettled o
      → AreAccepted p (moved (restored_at p saved log) m).stand.past.closed → IsAnswerOf p o
  settled_answers are can o is settled accepted =
      by (end_at p (further p (stand_of p.request.seed (steps_of p) (saved_in saved) log) m)) refl
    where
      by : (d : End) → end_at p (further p (stand_of p.request.seed (steps_of p) (saved_in saved) log) m) ≡ d → IsAnswerOf p o
      by (ends.Ended found) e =
          subst (IsAnswerOf p) (sym is) (restored_answers p now saved log m are can (ended_so p (further p (stand_of p.request.seed (steps_of p) (saved_in saved) log) m) found e).over accepted)
      by (ends.Partial f) e = absurd (subst IsSettled (is ∙ (told_on_is ∙ ap (by_end p) e)) settled)
      by ends.Unfinished e = absurd (subst IsSettled (is ∙ (told_on_is ∙ ap (by_end p) e)) settled)

  pub unfinished_used_up : told (moved (restored_at p saved log) m) ≡ answers.Unfinished → IsUsedUpOn p saved.tries m (moved (restored_at p saved log) m)
  unfinished_used_up is =
      by (end_at p (further p (stand_of p.request.seed (steps_of p) (saved_in saved) log) m)) refl
    where
      by : (d : End) → end_at p (further p (stand_of p.request.seed (steps_of p) (saved_in saved) log) m) ≡ d → IsUsedUpOn p saved.tries m (moved (restored_at p saved log) m)
      by (ends.Ended None) e = absurd (never_open p (sym (ended_none p) ∙ (sym (told_on_is ∙ ap (by_end p) e) ∙ is)))
      by (ends.Ended (Some f)) e = let x = sym (told_on_is ∙ ap (by_end p) e) ∙ is in absurd (cc)
      by (ends.Partial f) e = let x = sym (told_on_is ∙ ap (by_end p) e) ∙ is in absurd (cc)
      by ends.Unfinished e =
          let from = stand_of p.request.seed (steps_of p) (saved_in saved) log in
          let k = open_so p (further p from m) e in
          let tried = all_tries p.request.seed from (min m (most_tries - saved.tries)) k.step k.rest k.left in
          record {
            used_up = record { made = tried.tries; step = k.step; rest = k.rest; left = k.left; going = tried.going };
            nothing = untaken p (further p from m) e;
          }

-- What a payment claims to which a plan came that went on from a kept job, and what is claimed where there is none.
use Rattle.std.specs.Prelude.{ℕ, ◌≡◌, ◌-◌, min, Bool, true, false, cond, List, [], ◌∷◌, Option, Some, None, IfSome, IsSome}
use Rattle.std.specs.List.{AllByRecursion}
use Rattle.std.proofs.Common.{refl, sym, ap, subst, ◌∙◌}
use Rattle.closing_log.specs.Log.{PlainLog, PlainOpen, PlainSection}
use Rattle.closing_log.specs.declared.mark.Mark.TheVariants as mark
use Rattle.fund_plan.proofs.ClaimLaws.{ended_so}
use Rattle.fund_plan.proofs.EndLaws.{end_back}
use Rattle.fund_plan.proofs.FoundLaws.{named}
use Rattle.fund_plan.proofs.GivenLaws.{alone_means, given_brings, same_funded}
use Rattle.fund_plan.proofs.GoingLaws.{further, state_at}
use Rattle.fund_plan.proofs.MeasureLaws.{waste_measured}
use Rattle.fund_plan.proofs.SourceLaws.{best_of, drawn_of, own_result}
use Rattle.fund_plan.specs.Chosen.{funded_at, mark_of}
use Rattle.fund_plan.specs.Claims.{BringAll, IsProvedBest, IsProvedDrawn, IsProvedNone, IsWhole}
use Rattle.fund_plan.specs.Outcome.{IsAnswerOf, by_end, end_at, given_of, is_partial, most_tries}
use Rattle.fund_plan.specs.Resumed.{AreAccepted, CanRestore, log_in, restored_at}
use Rattle.fund_plan.specs.Selection.{PlainFunded}
use Rattle.fund_plan.specs.State.{moved, told}
use Rattle.fund_plan.specs.Steps.{is_given, steps_of}
use Rattle.fund_plan.specs.declared.outcome.Outcome.TheVariants as answers
use Rattle.fund_steps.proofs.ReachLaws.{none_where}
use Rattle.fund_steps.proofs.WholeLaws.{given_none, steps_whole}
use Rattle.fund_steps.specs.Basis.{basis_of}
use Rattle.fund_steps.specs.Plan.{IsPlan, PlainPlan}
use Rattle.search_keep.specs.SavedText.{PlainSaved}
use Rattle.search_run.proofs.ChoiceLaws.{is_taken}
use Rattle.search_run.proofs.MadeLaws.{accepted_best_along, kept_stands_on, stand_answers}
use Rattle.search_run.proofs.ResultLaws.{ends_of, kept_stands}
use Rattle.search_run.proofs.RunLaws.{all_tries}
use Rattle.search_run.proofs.SearchedLaws.{over_all, over_answered}
use Rattle.search_run.specs.Answer.{HasNone, IsAnswer, IsFirstTaken}
use Rattle.search_run.specs.Found.{IsResultOf, PlainFound, taken}
use Rattle.search_run.specs.Judged.{saved_in}
use Rattle.search_run.specs.Kept.{Along, At, CanGoOn, IsAcceptedAt, IsBestAt, IsOpenAt, answered, at_end, comes_to, first_search, is_over, log_of, stand_of, tail_of, to_search}
use Rattle.search_run.specs.Kept as run
use Rattle.search_run.specs.Run.{Stand, results_in_column, end_by, or_unfinished}
use Rattle.search_run.specs.Stands.{IsEndOf, IsKeptAt, IsMadeAt, IsStand}
use Rattle.search_run.specs.Step.{AreSteps, PlainStep, is_drawn}
use Rattle.search_run.specs.declared.ending.End.{End}
use Rattle.search_run.specs.declared.ending.End.TheVariants as ends
use Rattle.kept_job.specs.Continued.{ClaimsNoneOn, ClaimsOn, IsSettled, IsTakenOn}

-- ---- the sections of a log that is accepted

made_along : (seed : List ℕ) (at : At) (ss : List PlainSection) → Along IsKeptAt seed at ss → Along IsAcceptedAt seed at ss → Along IsBestAt seed at ss → Along IsMadeAt seed at ss
made_along seed at [] h k b = tt
made_along seed at (s ∷ ss) h k b = ((h.0.0, k.0, b.0), made_along seed (answered seed at s.answer) ss h.1 k.1 b.1)

whole_log : (s : Stand) → s.left ≡ [] → IsWhole (log_of false s)
whole_log s over = (ap (tail_of s) over, ap is_over over)

-- ---- a run that is over

module _ (p : PlainPlan) (x : Stand) (rules : IsPlan p) (are : AreSteps (steps_of p)) (stands : IsStand p.request.seed (steps_of p) x) (accepted : AreAccepted p x.past.closed) (over : x.left ≡ []) where
  made : Along IsMadeAt p.request.seed (first_search p.request.seed (steps_of p)) x.past.closed
  made = made_along p.request.seed (first_search p.request.seed (steps_of p)) x.past.closed stands.closed accepted (accepted_best_along p.request.seed (steps_of p) x.past.closed are accepted)

  end_is : comes_to p.request.seed (first_search p.request.seed (steps_of p)) x.past.closed ≡ at_end x.past.found
  end_is = stands.here ∙ ap (λ (left : List PlainStep). to_search p.request.seed left x.past.found) over

  answer_there : (o : Option PlainFound) → taken x.past.found ≡ o → IsAnswer p.request.seed (steps_of p) o
  answer_there o e =
      subst (λ (r : Option PlainFound). IsAnswer p.request.seed (steps_of p) r) e
      (stand_answers p.request.seed (steps_of p) x (steps_whole (basis_of p)) stands (accepted_best_along p.request.seed (steps_of p) x.past.closed are accepted) over)

  result_there : (e : End) → end_at p x ≡ e → IsEndOf (steps_of p) e
  result_there e is = subst (IsEndOf (steps_of p)) is (ends_of p.request.seed (steps_of p) are p.request.take x stands)

  pub best_there : (f : PlainFound) → end_at p x ≡ ends.Ended (Some f) → is_drawn f.stage ≡ false → IsProvedBest p (funded_at p mark.Exhausted f) (log_of false x)
  best_there f e searched =
      let first : IsFirstTaken p.request.seed (steps_of p) f = answer_there (Some f) (ended_so p x (Some f) e).taken_is in
      record {
        found = f;
        row_is = refl;
        stage_is = refl;
        best = best_of p f searched (own_result p f first);
        coins = refl;
        change = refl;
        measure = waste_measured p mark.Exhausted f rules (result_there (ends.Ended (Some f)) e);
        first = first;
        sections = over_answered p.request.seed (steps_of p) x.past.closed x.past.found f made end_is first;
        whole = whole_log x over;
      }

  pub drawn_there : (f : PlainFound) → end_at p x ≡ ends.Ended (Some f) → is_drawn f.stage ≡ true → IsProvedDrawn p (funded_at p mark.Drawn f) (log_of false x)
  drawn_there f e drawn =
      let first : IsFirstTaken p.request.seed (steps_of p) f = answer_there (Some f) (ended_so p x (Some f) e).taken_is in
      record {
        found = f;
        row_is = refl;
        stage_is = refl;
        drawn = drawn_of p f drawn (own_result p f first);
        coins = refl;
        change = refl;
        measure = waste_measured p mark.Drawn f rules (result_there (ends.Ended (Some f)) e);
        first = first;
        sections = over_answered p.request.seed (steps_of p) x.past.closed x.past.found f made end_is first;
        whole = whole_log x over;
      }

  ungiven : (BringAll p → ⊥) → is_given p ≡ false
  ungiven short = by (is_given p) refl
    where
      by : (b : Bool) → is_given p ≡ b → b ≡ false
      by true is = absurd (short (given_brings p is))
      by false is = refl

  pub none_there : end_at p x ≡ ends.Ended None → by_end p (ends.Ended None) ≡ answers.NoSelection → IsProvedNone p (log_of false x)
  none_there e is =
      let none : AllByRecursion (HasNone p.request.seed) (steps_of p) = answer_there None (ended_so p x None e).taken_is in
      record {
        none = none;
        sections = over_all p.request.seed (steps_of p) x.past.closed x.past.found made end_is none;
        whole = whole_log x over;
        alone = alone_means p answers.NoSelection rules is;
        nothing = λ some short. (none_where (basis_of p) p.request.seed some (ungiven short) are).0 none;
      }

-- ---- there is no job of a plan without steps

no_steps : (seed : List ℕ) (saved : run.PlainSaved) (log : PlainLog) → CanGoOn seed [] saved log → ⊥
no_steps seed saved log h = by log.closed log.tail refl refl
  where
    by : (ss : List PlainSection) (o : Option PlainOpen) → log.closed ≡ ss → log.tail ≡ o → ⊥
    by (s ∷ ss) o c t = (subst (Along run.IsDueAt seed (first_search seed [])) c h.closed).0
    by [] None c t = let some = subst (λ (x : Option PlainOpen). IsSome x) t h.unfinished in absurd (cc)
    by [] (Some o) c t = open_not
      where
        open_not : ⊥
        open_not =
            let k = subst (λ (x : Option PlainOpen). IfSome x (IsOpenAt (comes_to seed (first_search seed []) log.closed) saved)) t h.tail in
            (subst (λ (ss : List PlainSection). IsOpenAt (comes_to seed (first_search seed []) ss) saved o) c k).0

-- ---- a plan that went on

module _ (p : PlainPlan) (now : List ℕ) (saved : PlainSaved) (log : PlainLog) (m : ℕ) (rules : IsPlan p) (are : AreSteps (steps_of p)) (can : CanRestore p now saved log) where
  stands_on : IsStand p.request.seed (steps_of p) (further p (stand_of p.request.seed (steps_of p) (saved_in saved) log) m)
  stands_on =
      kept_stands_on p.request.seed (steps_of p) are (stand_of p.request.seed (steps_of p) (saved_in saved) log) (min m (most_tries - saved.tries))
      (kept_stands p.request.seed (steps_of p) are (saved_in saved) log can.can)

  told_is : told (moved (restored_at p saved log) m) ≡ by_end p (end_at p (further p (stand_of p.request.seed (steps_of p) (saved_in saved) log) m))
  told_is =
      let x = further p (stand_of p.request.seed (steps_of p) (saved_in saved) log) m in
      ap (by_end p) (end_back (state_at p x) (end_at p x) refl)

  log_is : (d : End) → end_at p (further p (stand_of p.request.seed (steps_of p) (saved_in saved) log) m) ≡ d → log_in (moved (restored_at p saved log) m) ≡ log_of (is_partial d) (further p (stand_of p.request.seed (steps_of p) (saved_in saved) log) m)
  log_is d e =
      let x = further p (stand_of p.request.seed (steps_of p) (saved_in saved) log) m in
      ap (λ (end : End). log_of (is_partial end) x) (end_back (state_at p x) (end_at p x) refl ∙ e)

  ungiven_on : is_given p ≡ true → ⊥
  ungiven_on given = no_steps p.request.seed (saved_in saved) log (subst (λ (steps : List PlainStep). CanGoOn p.request.seed steps (saved_in saved) log) (given_none (basis_of p) given) can.can)

  pub none_claims_on : told (moved (restored_at p saved log) m) ≡ answers.NoSelection → AreAccepted p (moved (restored_at p saved log) m).stand.past.closed → IsAnswerOf p answers.NoSelection → ClaimsNoneOn p (moved (restored_at p saved log) m)
  none_claims_on is accepted answer = by (end_at p (further p (stand_of p.request.seed (steps_of p) (saved_in saved) log) m)) refl
    where
      by : (d : End) → end_at p (further p (stand_of p.request.seed (steps_of p) (saved_in saved) log) m) ≡ d → ClaimsNoneOn p (moved (restored_at p saved log) m)
      by (ends.Ended None) e =
          let x = further p (stand_of p.request.seed (steps_of p) (saved_in saved) log) m in (
            subst (IsProvedNone p) (sym (log_is (ends.Ended None) e)) (none_there p x rules are stands_on accepted (ended_so p x None e).over e (sym (told_is ∙ ap (by_end p) e) ∙ is)),
            answer,
          )
      by (ends.Ended (Some f)) e = let y = sym (told_is ∙ ap (by_end p) e) ∙ is in absurd (cc)
      by (ends.Partial f) e = let y = sym (told_is ∙ ap (by_end p) e) ∙ is in absurd (cc)
      by ends.Unfinished e = let y = sym (told_is ∙ ap (by_end p) e) ∙ is in absurd (cc)

-- ---- a payment

-- a run of which a result is taken for want of tries
record IsShort (p : PlainPlan) (s : Stand) (f : PlainFound) : Type 0 where
  asked : p.request.take ≡ true
  step : PlainStep
  rest : List PlainStep
  left : s.left ≡ step ∷ rest
  taken_is : taken (results_in_column p.request.seed s s.left) ≡ Some f

record IsAsked (b : Bool) (found : Option PlainFound) (f : PlainFound) : Type 0 where
  asked : b ≡ true
  found_is : found ≡ Some f

asked_by : (b : Bool) (found : Option PlainFound) (f : PlainFound) → cond b (or_unfinished found) ends.Unfinished ≡ ends.Partial f → IsAsked b found f
asked_by true None f e = absurd (cc)
asked_by true (Some g) f e = record { asked = refl; found_is = cc }
asked_by false found f e = absurd (cc)

short_so : (p : PlainPlan) (s : Stand) (f : PlainFound) → end_at p s ≡ ends.Partial f → IsShort p s f
short_so p s f e = by s.left refl e
  where
    by : (left : List PlainStep) → s.left ≡ left → end_by p.request.take p.request.seed s left ≡ ends.Partial f → IsShort p s f
    by [] is e = absurd (cc)
    by (x ∷ rest) is e =
        let k = asked_by p.request.take (taken (results_in_column p.request.seed s (x ∷ rest))) f e in
        record {
          asked = k.asked;
          step = x;
          rest = rest;
          left = is;
          taken_is = ap (λ (left : List PlainStep). taken (results_in_column p.request.seed s left)) is ∙ k.found_is;
        }

is_given_by : (p : PlainPlan) (f : PlainFunded) (b : Bool) → is_given p ≡ b → cond b (given_of p) answers.NoSelection ≡ answers.Funded f → is_given p ≡ true
is_given_by p f true is e = is
is_given_by p f false is e = absurd (cc)

module _ (p : PlainPlan) (now : List ℕ) (saved : PlainSaved) (log : PlainLog) (m : ℕ) (rules : IsPlan p) (are : AreSteps (steps_of p)) (can : CanRestore p now saved log) where
  marked : (b : Bool) (g : PlainFound) → is_drawn g.stage ≡ b → end_at p (further p (stand_of p.request.seed (steps_of p) (saved_in saved) log) m) ≡ ends.Ended (Some g)
      → AreAccepted p (moved (restored_at p saved log) m).stand.past.closed → IsAnswerOf p (answers.Funded (funded_at p (cond b mark.Drawn mark.Exhausted) g))
      → ClaimsOn p saved.tries m (moved (restored_at p saved log) m) (funded_at p (cond b mark.Drawn mark.Exhausted) g)
  marked true g d e accepted answer =
      let x = further p (stand_of p.request.seed (steps_of p) (saved_in saved) log) m in (
        subst (IsProvedDrawn p (funded_at p mark.Drawn g)) (sym (log_is p now saved log m rules are can (ends.Ended (Some g)) e)) (drawn_there p x rules are (stands_on p now saved log m rules are can) accepted (ended_so p x (Some g) e).over g e d),
        answer,
      )
  marked false g d e accepted answer =
      let x = further p (stand_of p.request.seed (steps_of p) (saved_in saved) log) m in (
        subst (IsProvedBest p (funded_at p mark.Exhausted g)) (sym (log_is p now saved log m rules are can (ends.Ended (Some g)) e)) (best_there p x rules are (stands_on p now saved log m rules are can) accepted (ended_so p x (Some g) e).over g e d),
        answer,
      )

  settled_by : (b : Bool) (g : PlainFound) → IsSettled (answers.Funded (funded_at p (cond b mark.Drawn mark.Exhausted) g))
  settled_by true g = tt
  settled_by false g = tt

  short_on : (g : PlainFound) → end_at p (further p (stand_of p.request.seed (steps_of p) (saved_in saved) log) m) ≡ ends.Partial g → IsTakenOn p saved.tries m (moved (restored_at p saved log) m) (funded_at p mark.Partial g)
  short_on g e =
      let from = stand_of p.request.seed (steps_of p) (saved_in saved) log in
      let x = further p from m in
      let k = short_so p x g e in
      let tried = all_tries p.request.seed from (min m (most_tries - saved.tries)) k.step k.rest k.left in
      let result : IsResultOf (steps_of p) g = subst (IsEndOf (steps_of p)) e (ends_of p.request.seed (steps_of p) are p.request.take x (stands_on p now saved log m rules are can)) in
      record {
        found = g;
        row_is = refl;
        stage_is = refl;
        admissible = (named p g result).admissible;
        coins = refl;
        change = refl;
        measure = waste_measured p mark.Partial g rules result;
        asked = k.asked;
        taken = is_taken (results_in_column p.request.seed x x.left) g k.taken_is;
        used_up = record { made = tried.tries; step = k.step; rest = k.rest; left = k.left; going = tried.going };
      }

  pub funded_claims_on : (f : PlainFunded) → told (moved (restored_at p saved log) m) ≡ answers.Funded f
      → (IsSettled (told (moved (restored_at p saved log) m)) → AreAccepted p (moved (restored_at p saved log) m).stand.past.closed)
      → (IsSettled (told (moved (restored_at p saved log) m)) → IsAnswerOf p (told (moved (restored_at p saved log) m)))
      → ClaimsOn p saved.tries m (moved (restored_at p saved log) m) f
  funded_claims_on f is accepted answer = by (end_at p (further p (stand_of p.request.seed (steps_of p) (saved_in saved) log) m)) refl
    where
      by : (d : End) → end_at p (further p (stand_of p.request.seed (steps_of p) (saved_in saved) log) m) ≡ d → ClaimsOn p saved.tries m (moved (restored_at p saved log) m) f
      by (ends.Ended None) e = absurd (ungiven_on p now saved log m rules are can (is_given_by p f (is_given p) refl (sym (told_is p now saved log m rules are can ∙ ap (by_end p) e) ∙ is)))
      by (ends.Ended (Some g)) e =
          let here : told (moved (restored_at p saved log) m) ≡ answers.Funded (funded_at p (mark_of g.stage) g) = told_is p now saved log m rules are can ∙ ap (by_end p) e in
          let settled : IsSettled (told (moved (restored_at p saved log) m)) = subst IsSettled (sym here) (settled_by (is_drawn g.stage) g) in
          subst (ClaimsOn p saved.tries m (moved (restored_at p saved log) m)) (same_funded (funded_at p (mark_of g.stage) g) f (sym here ∙ is))
          (marked (is_drawn g.stage) g refl e (accepted settled) (subst (IsAnswerOf p) here (answer settled)))
      by (ends.Partial g) e =
          let here : told (moved (restored_at p saved log) m) ≡ answers.Funded (funded_at p mark.Partial g) = told_is p now saved log m rules are can ∙ ap (by_end p) e in
          subst (ClaimsOn p saved.tries m (moved (restored_at p saved log) m)) (same_funded (funded_at p mark.Partial g) f (sym here ∙ is)) (short_on g e)
      by ends.Unfinished e = let y = sym (told_is p now saved log m rules are can ∙ ap (by_end p) e) ∙ is in absurd (cc)

  -- the log of a plan that came to an end says so
  pub log_ended_on : (told (moved (restored_at p saved log) m) ≡ answers.Unfinished → ⊥) → (log_in (moved (restored_at p saved log) m)).ended ≡ true
  log_ended_on goes = by (end_at p (further p (stand_of p.request.seed (steps_of p) (saved_in saved) log) m)) refl
    where
      by : (d : End) → end_at p (further p (stand_of p.request.seed (steps_of p) (saved_in saved) log) m) ≡ d → (log_in (moved (restored_at p saved log) m)).ended ≡ true
      by (ends.Ended o) e =
          let x = further p (stand_of p.request.seed (steps_of p) (saved_in saved) log) m in
          ap (λ (l : PlainLog). l.ended) (log_is p now saved log m rules are can (ends.Ended o) e) ∙ ap is_over (ended_so p x o e).over
      by (ends.Partial f) e = ap (λ (l : PlainLog). l.ended) (log_is p now saved log m rules are can (ends.Partial f) e)
      by ends.Unfinished e = absurd (goes (told_is p now saved log m rules are can ∙ ap (by_end p) e))

-- What an outcome claims follows from the run that came to it.
use Rattle.std.specs.Prelude.{ℕ, ◌≡◌, ◌⊎◌, min, Bool, true, false, cond, List, [], ◌∷◌, Option, Some, None}
use Rattle.std.specs.List.{AllByRecursion}
use Rattle.std.proofs.Common.{refl, sym, ap, subst, ◌∙◌, arith, inl, inr}
use Rattle.closing_log.specs.Log.{PlainLog}
use Rattle.closing_log.specs.declared.mark.Mark.{Mark}
use Rattle.closing_log.specs.declared.mark.Mark.TheVariants as mark
use Rattle.search_run.proofs.ChoiceLaws.{is_taken, none_taken}
use Rattle.search_run.proofs.MadeLaws.{kept_begins, kept_stands_on, run_answers}
use Rattle.search_run.proofs.ResultLaws.{ends_of}
use Rattle.search_run.proofs.RunLaws.{all_tries}
use Rattle.search_run.proofs.SearchedLaws.{all_sections, answered_sections}
use Rattle.search_run.specs.Answer.{HasNone, IsAnswer, IsFirstTaken}
use Rattle.search_run.specs.Found.{IsResultOf, PlainFound, taken}
use Rattle.search_run.specs.Kept.{is_over, log_of, tail_of}
use Rattle.search_run.specs.Run.{Stand, results_in_column, beginning, end_by, or_unfinished, run}
use Rattle.search_run.specs.Stands.{IsEndOf}
use Rattle.search_run.specs.Step.{AreSteps, PlainStep, is_drawn}
use Rattle.search_run.specs.declared.ending.End.{End}
use Rattle.search_run.specs.declared.ending.End.TheVariants as ends
use Rattle.fund_steps.proofs.ReachLaws.{none_where}
use Rattle.fund_steps.proofs.WholeLaws.{given_none, steps_whole}
use Rattle.fund_steps.specs.Basis.{basis_of}
use Rattle.fund_steps.specs.Plan.{IsPlan, PlainPlan}
use Rattle.fund_plan.specs.Chosen.{funded_at, mark_of}
use Rattle.fund_plan.specs.Claims.{BringAll, Claims, ClaimsBy, HasTried, IsProvedBest, IsProvedDrawn, IsProvedNone, IsTakenShort, IsUsedUp, IsWhole}
use Rattle.fund_plan.proofs.EndLaws.{ended_answers}
use Rattle.search_run.proofs.AnswerLaws.{one_answer_is}
use Rattle.fund_plan.specs.Outcome.{IsAnswerOf, by_end, end_at, given_of, is_partial, log_at, most_tries, outcome_at, stand_after, tries_at}
use Rattle.fund_plan.specs.Selection.{PlainFunded}
use Rattle.fund_plan.specs.Steps.{is_given, steps_of}
use Rattle.fund_plan.specs.declared.outcome.Outcome.{Outcome}
use Rattle.fund_plan.specs.declared.outcome.Outcome.TheVariants as answers
use Rattle.fund_plan.proofs.FoundLaws.{named}
use Rattle.fund_plan.proofs.MeasureLaws.{waste_measured}
use Rattle.fund_plan.proofs.GivenLaws.{alone_means, ended_none, given_brings, given_mark, never_open, same_funded}
use Rattle.fund_plan.proofs.SourceLaws.{best_of, drawn_of, own_result}

-- ---- ends

-- a run that came to its end
pub record EndsSo (p : PlainPlan) (s : Stand) (o : Option PlainFound) : Type 0 where
  pub over : s.left ≡ []
  pub taken_is : taken s.past.found ≡ o

never_ended : (o : Option PlainFound) (found : Option PlainFound) → or_unfinished found ≡ ends.Ended o → ⊥
never_ended o None e = cc
never_ended o (Some f) e = cc

pub ended_so : (p : PlainPlan) (s : Stand) (o : Option PlainFound) → end_at p s ≡ ends.Ended o → EndsSo p s o
ended_so p s o e = by s.left refl e
  where
    open_end : (b : Bool) (found : Option PlainFound) → cond b (or_unfinished found) ends.Unfinished ≡ ends.Ended o → ⊥
    open_end true found e = never_ended o found e
    open_end false found e = cc

    by : (left : List PlainStep) → s.left ≡ left → end_by p.request.take p.request.seed s left ≡ ends.Ended o → EndsSo p s o
    by [] is e = record { over = is; taken_is = let x = e in cc }
    by (x ∷ rest) is e = absurd (open_end p.request.take (taken (results_in_column p.request.seed s (x ∷ rest))) e)

-- a run that goes on
pub record GoesOn (s : Stand) : Type 0 where
  pub step : PlainStep
  pub rest : List PlainStep
  pub left : s.left ≡ step ∷ rest

pub open_so : (p : PlainPlan) (s : Stand) → end_at p s ≡ ends.Unfinished → GoesOn s
open_so p s e = by s.left refl e
  where
    by : (left : List PlainStep) → s.left ≡ left → end_by p.request.take p.request.seed s left ≡ ends.Unfinished → GoesOn s
    by [] is e = absurd (cc)
    by (x ∷ rest) is e = record { step = x; rest = rest; left = is }

-- a run of which a result is taken for want of tries
record IsShort (p : PlainPlan) (s : Stand) (f : PlainFound) : Type 0 where
  asked : p.request.take ≡ true
  going : GoesOn s
  taken_is : taken (results_in_column p.request.seed s s.left) ≡ Some f

-- a result is taken for want of tries where that is asked for and one is at hand
record IsAsked (b : Bool) (found : Option PlainFound) (f : PlainFound) : Type 0 where
  asked : b ≡ true
  found_is : found ≡ Some f

short_so : (p : PlainPlan) (s : Stand) (f : PlainFound) → end_at p s ≡ ends.Partial f → IsShort p s f
short_so p s f e = by s.left refl e
  where
    asked_by : (b : Bool) (found : Option PlainFound) → cond b (or_unfinished found) ends.Unfinished ≡ ends.Partial f → IsAsked b found f
    asked_by true None e = absurd (cc)
    asked_by true (Some g) e = record { asked = refl; found_is = cc }
    asked_by false found e = absurd (cc)

    by : (left : List PlainStep) → s.left ≡ left → end_by p.request.take p.request.seed s left ≡ ends.Partial f → IsShort p s f
    by [] is e = absurd (cc)
    by (x ∷ rest) is e =
        let k = asked_by p.request.take (taken (results_in_column p.request.seed s (x ∷ rest))) e in
        record {
          asked = k.asked;
          going = record { step = x; rest = rest; left = is };
          taken_is = ap (λ (left : List PlainStep). taken (results_in_column p.request.seed s left)) is ∙ k.found_is;
        }

-- nothing is taken where it isn't asked for, or nothing is at hand
untaken : (p : PlainPlan) (s : Stand) → end_at p s ≡ ends.Unfinished → (p.request.take ≡ false) ⊎ (results_in_column p.request.seed s s.left ≡ [])
untaken p s e = by s.left e
  where
    by_asked : (b : Bool) (found : List PlainFound) → cond b (or_unfinished (taken found)) ends.Unfinished ≡ ends.Unfinished → (b ≡ false) ⊎ (taken found ≡ None)
    by_asked false found e = inl refl
    by_asked true found e = inr (by_found (taken found) e)
      where
        by_found : (o : Option PlainFound) → or_unfinished o ≡ ends.Unfinished → o ≡ None
        by_found None e = refl
        by_found (Some g) e = absurd (cc)

    by : (left : List PlainStep) → end_by p.request.take p.request.seed s left ≡ ends.Unfinished → (p.request.take ≡ false) ⊎ (results_in_column p.request.seed s left ≡ [])
    by [] e = absurd (cc)
    by (x ∷ rest) e =
        elim (by_asked p.request.take (results_in_column p.request.seed s (x ∷ rest)) e) [
          | inl unasked ↦ inl unasked
          | inr none ↦ inr (none_taken (results_in_column p.request.seed s (x ∷ rest)) none)
        ]

-- the log of a run that came to its end
whole_log : (s : Stand) → s.left ≡ [] → IsWhole (log_of false s)
whole_log s over = (ap (tail_of s) over, ap is_over over)

-- ---- what is claimed where a run came to its end

answer_is : (p : PlainPlan) (n : ℕ) (o : Option PlainFound) → AreSteps (steps_of p) → end_at p (stand_after p n) ≡ ends.Ended o → IsAnswer p.request.seed (steps_of p) o
answer_is p n o steps e =
    let k = ended_so p (stand_after p n) o e in
    subst (λ (x : Option PlainFound). IsAnswer p.request.seed (steps_of p) x) k.taken_is (run_answers p.request.seed (steps_of p) (min n most_tries) steps (steps_whole (basis_of p)) k.over)

-- the result of an end is one of a step
result_in : (p : PlainPlan) (n : ℕ) (e : End) → AreSteps (steps_of p) → end_at p (stand_after p n) ≡ e → IsEndOf (steps_of p) e
result_in p n e steps is =
    let seed = p.request.seed in
    let stands = kept_stands_on seed (steps_of p) steps (beginning seed (steps_of p)) (min n most_tries) (kept_begins seed (steps_of p) steps) in
    subst (IsEndOf (steps_of p)) is (ends_of seed (steps_of p) steps p.request.take (stand_after p n) stands)

proved_best : (p : PlainPlan) (n : ℕ) (f : PlainFound) → IsPlan p → AreSteps (steps_of p) → end_at p (stand_after p n) ≡ ends.Ended (Some f) → is_drawn f.stage ≡ false → IsProvedBest p (funded_at p mark.Exhausted f) (log_of false (stand_after p n))
proved_best p n f h steps e searched =
    let first : IsFirstTaken p.request.seed (steps_of p) f = answer_is p n (Some f) steps e in
    record {
      found = f;
      row_is = refl;
      stage_is = refl;
      best = best_of p f searched (own_result p f first);
      coins = refl;
      change = refl;
      measure = waste_measured p mark.Exhausted f h (result_in p n (ends.Ended (Some f)) steps e);
      first = first;
      sections = answered_sections p.request.seed (steps_of p) (min n most_tries) f steps (ended_so p (stand_after p n) (Some f) e).over first;
      whole = whole_log (stand_after p n) (ended_so p (stand_after p n) (Some f) e).over;
    }

proved_drawn : (p : PlainPlan) (n : ℕ) (f : PlainFound) → IsPlan p → AreSteps (steps_of p) → end_at p (stand_after p n) ≡ ends.Ended (Some f) → is_drawn f.stage ≡ true → IsProvedDrawn p (funded_at p mark.Drawn f) (log_of false (stand_after p n))
proved_drawn p n f h steps e drawn =
    let first : IsFirstTaken p.request.seed (steps_of p) f = answer_is p n (Some f) steps e in
    record {
      found = f;
      row_is = refl;
      stage_is = refl;
      drawn = drawn_of p f drawn (own_result p f first);
      coins = refl;
      change = refl;
      measure = waste_measured p mark.Drawn f h (result_in p n (ends.Ended (Some f)) steps e);
      first = first;
      sections = answered_sections p.request.seed (steps_of p) (min n most_tries) f steps (ended_so p (stand_after p n) (Some f) e).over first;
      whole = whole_log (stand_after p n) (ended_so p (stand_after p n) (Some f) e).over;
    }

-- ---- where the tries are used up

has_tried : (p : PlainPlan) (n : ℕ) → GoesOn (stand_after p n) → HasTried p n
unfolding tries_at
has_tried p n k =
    let tried = all_tries p.request.seed (beginning p.request.seed (steps_of p)) (min n most_tries) k.step k.rest k.left in
    record { made = let m = tried.tries in omega arith; step = k.step; rest = k.rest; left = k.left; going = tried.going }

used_up : (p : PlainPlan) (n : ℕ) → end_at p (stand_after p n) ≡ ends.Unfinished → IsUsedUp p n
used_up p n e =
    let k = has_tried p n (open_so p (stand_after p n) e) in
    record { made = k.made; step = k.step; rest = k.rest; left = k.left; going = k.going; nothing = untaken p (stand_after p n) e }

taken_short : (p : PlainPlan) (n : ℕ) (f : PlainFound) → IsPlan p → AreSteps (steps_of p) → end_at p (stand_after p n) ≡ ends.Partial f → IsTakenShort p n (funded_at p mark.Partial f)
taken_short p n f h steps e =
    let k = short_so p (stand_after p n) f e in
    let result : IsResultOf (steps_of p) f = result_in p n (ends.Partial f) steps e in
    record {
      found = f;
      row_is = refl;
      stage_is = refl;
      admissible = (named p f result).admissible;
      coins = refl;
      change = refl;
      measure = waste_measured p mark.Partial f h result;
      asked = k.asked;
      taken = is_taken (results_in_column p.request.seed (stand_after p n) (stand_after p n).left) f k.taken_is;
      used_up = has_tried p n k.going;
    }

-- ---- what an outcome claims

marked : (p : PlainPlan) (n : ℕ) (f : PlainFunded) (m : Mark) → f.mark ≡ m → ClaimsBy m p n f → Claims p n f
marked p n f m e h = subst (λ (x : Mark). ClaimsBy x p n f) (sym e) h

log_ended : (p : PlainPlan) (n : ℕ) (o : Option PlainFound) → end_at p (stand_after p n) ≡ ends.Ended o → log_at p n ≡ log_of false (stand_after p n)
unfolding log_at
log_ended p n o is = ap (λ (e : End). log_of (is_partial e) (stand_after p n)) is

-- where the presets alone pay there is no step
empty_log : (p : PlainPlan) (n : ℕ) → is_given p ≡ true → end_at p (stand_after p n) ≡ ends.Ended None → log_at p n ≡ record { closed = []; tail = None; ended = true }
empty_log p n given is = log_ended p n None is ∙ ap (λ (xs : List PlainStep). log_of false (run p.request.seed xs (min n most_tries))) (given_none (basis_of p) given)

is_given_by : (p : PlainPlan) (f : PlainFunded) (b : Bool) → is_given p ≡ b → cond b (given_of p) answers.NoSelection ≡ answers.Funded f → is_given p ≡ true
is_given_by p f true is e = is
is_given_by p f false is e = absurd (cc)

given_claims : (p : PlainPlan) (n : ℕ) (f : PlainFunded) → IsPlan p → end_at p (stand_after p n) ≡ ends.Ended None → by_end p (ends.Ended None) ≡ answers.Funded f → Claims p n f
given_claims p n f h is e =
    marked p n f mark.Given (given_mark p f (sym (ended_none p) ∙ e))
    (record { alone = alone_means p (answers.Funded f) h e; none = empty_log p n (is_given_by p f (is_given p) refl e) is })

ended_claims : (p : PlainPlan) (n : ℕ) (g : PlainFound) (b : Bool) → IsPlan p → AreSteps (steps_of p) → is_drawn g.stage ≡ b → end_at p (stand_after p n) ≡ ends.Ended (Some g) → Claims p n (funded_at p (cond b mark.Drawn mark.Exhausted) g)
ended_claims p n g true h steps drawn is = subst (λ (log : PlainLog). IsProvedDrawn p (funded_at p mark.Drawn g) log) (sym (log_ended p n (Some g) is)) (proved_drawn p n g h steps is drawn)
ended_claims p n g false h steps drawn is = subst (λ (log : PlainLog). IsProvedBest p (funded_at p mark.Exhausted g) log) (sym (log_ended p n (Some g) is)) (proved_best p n g h steps is drawn)

pub funded_claims : (p : PlainPlan) (n : ℕ) (f : PlainFunded) → IsPlan p → AreSteps (steps_of p) → outcome_at p n ≡ answers.Funded f → Claims p n f
unfolding outcome_at
funded_claims p n f h steps e = by (end_at p (stand_after p n)) refl e
  where
    by : (d : End) → end_at p (stand_after p n) ≡ d → by_end p d ≡ answers.Funded f → Claims p n f
    by (ends.Ended None) is e = given_claims p n f h is e
    by (ends.Ended (Some g)) is e = subst (Claims p n) (same_funded (funded_at p (mark_of g.stage) g) f e) (ended_claims p n g (is_drawn g.stage) h steps refl is)
    by (ends.Partial g) is e = subst (Claims p n) (same_funded (funded_at p mark.Partial g) f e) (taken_short p n g h steps is)
    by ends.Unfinished is e = absurd (cc)

ungiven : (p : PlainPlan) → (BringAll p → ⊥) → is_given p ≡ false
ungiven p short = by (is_given p) refl
  where
    by : (b : Bool) → is_given p ≡ b → b ≡ false
    by true is = absurd (short (given_brings p is))
    by false is = refl

proved_none : (p : PlainPlan) (n : ℕ) → IsPlan p → AreSteps (steps_of p) → end_at p (stand_after p n) ≡ ends.Ended None → by_end p (ends.Ended None) ≡ answers.NoSelection → IsProvedNone p (log_of false (stand_after p n))
proved_none p n h steps is e =
    let none : AllByRecursion (HasNone p.request.seed) (steps_of p) = answer_is p n None steps is in
    record {
      none = none;
      sections = all_sections p.request.seed (steps_of p) (min n most_tries) steps (ended_so p (stand_after p n) None is).over none;
      whole = whole_log (stand_after p n) (ended_so p (stand_after p n) None is).over;
      alone = alone_means p answers.NoSelection h e;
      nothing = λ some short. (none_where (basis_of p) p.request.seed some (ungiven p short) steps).0 none;
    }

pub none_claims : (p : PlainPlan) (n : ℕ) → IsPlan p → AreSteps (steps_of p) → outcome_at p n ≡ answers.NoSelection → IsProvedNone p (log_at p n)
unfolding outcome_at
none_claims p n h steps e = by (end_at p (stand_after p n)) refl e
  where
    by : (d : End) → end_at p (stand_after p n) ≡ d → by_end p d ≡ answers.NoSelection → IsProvedNone p (log_at p n)
    by (ends.Ended None) is e = subst (λ (log : PlainLog). IsProvedNone p log) (sym (log_ended p n None is)) (proved_none p n h steps is e)
    by (ends.Ended (Some g)) is e = absurd (cc)
    by (ends.Partial g) is e = absurd (cc)
    by ends.Unfinished is e = absurd (cc)

pub open_claims : (p : PlainPlan) (n : ℕ) → outcome_at p n ≡ answers.Unfinished → IsUsedUp p n
unfolding outcome_at
open_claims p n e = by (end_at p (stand_after p n)) refl e
  where
    by : (d : End) → end_at p (stand_after p n) ≡ d → by_end p d ≡ answers.Unfinished → IsUsedUp p n
    by (ends.Ended None) is e = absurd (never_open p (sym (ended_none p) ∙ e))
    by (ends.Ended (Some g)) is e = absurd (cc)
    by (ends.Partial g) is e = absurd (cc)
    by ends.Unfinished is e = used_up p n is

-- ---- the answer

pub one_plan_answer : (p : PlainPlan) (a b : Outcome) → IsAnswerOf p a → IsAnswerOf p b → a ≡ b
one_plan_answer p a b x y = x.is ∙ ap (λ (o : Option PlainFound). by_end p (ends.Ended o)) (one_answer_is p.request.seed (steps_of p) x.found y.found x.answer y.answer) ∙ sym y.is

pub ended_is : (p : PlainPlan) (n : ℕ) (o : Outcome) → AreSteps (steps_of p) → (stand_after p n).left ≡ [] → IsAnswerOf p o → outcome_at p n ≡ o
ended_is p n o steps over answer = one_plan_answer p (outcome_at p n) o (ended_answers p n steps over) answer

pub answers_or_tries : (p : PlainPlan) (n : ℕ) → AreSteps (steps_of p) → IsAnswerOf p (outcome_at p n) ⊎ HasTried p n
answers_or_tries p n steps = by (stand_after p n).left refl
  where
    by : (left : List PlainStep) → (stand_after p n).left ≡ left → IsAnswerOf p (outcome_at p n) ⊎ HasTried p n
    by [] is = inl (ended_answers p n steps is)
    by (x ∷ rest) is = inr (has_tried p n (record { step = x; rest = rest; left = is }))

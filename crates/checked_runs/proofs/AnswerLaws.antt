-- A report of what a plan comes to is accepted with the log of the plan's run.
use Rattle.std.specs.Prelude.{ℕ, ◌≡◌, ◌++◌, min, cond, Bool, true, false, List, [], Option, Some, None}
use Rattle.std.proofs.Common.{refl, sym, ap, subst, inr, ◌∙◌}
use Rattle.closing_log.specs.Log.{PlainLog, PlainSection}
use Rattle.closing_log.specs.declared.mark.Mark.{Mark}
use Rattle.closing_log.specs.declared.mark.Mark.TheVariants as mark
use Rattle.fund_plan.specs.Answer.{IsPayment}
use Rattle.fund_plan.specs.Chosen.{funded_at, mark_of}
use Rattle.fund_plan.specs.Claims.{Claims, ClaimsBy, IsGivenAlone, IsTakenShort}
use Rattle.fund_plan.specs.Outcome.{by_end, end_at, given_of, is_partial, log_at, most_tries, outcome_at, stand_after, tries_at}
use Rattle.fund_plan.specs.Selection as plans
use Rattle.fund_plan.specs.Steps.{is_given, steps_of}
use Rattle.fund_plan.specs.declared.outcome.Outcome.TheVariants as outcomes
use Rattle.fund_plan.proofs.ClaimLaws.{ended_so, funded_claims, none_claims}
use Rattle.fund_plan.proofs.GivenLaws.{ended_none, given_mark, same_funded}
use Rattle.fund_plan.proofs.OutcomeLaws.{end_done}
use Rattle.fund_plan.proofs.RowLaws.{found_in}
use Rattle.fund_report.specs.PlainFunded.{PlainFunded}
use Rattle.fund_report.specs.declared.report.Report.TheVariants.{Funded, NoSelection}
use Rattle.fund_steps.specs.Plan.{IsPlan, PlainPlan}
use Rattle.search_run.specs.Answer.{IsAnswer, IsFirstTaken}
use Rattle.search_run.specs.Found.{IsResultOf, PlainFound}
use Rattle.search_run.specs.Kept.{log_of}
use Rattle.search_run.specs.Run.{Stand, beginning}
use Rattle.search_run.specs.Searched.{AreSectionsOf}
use Rattle.search_run.specs.Stands.{IsEndOf}
use Rattle.search_run.specs.Step.{AreSteps}
use Rattle.search_run.specs.declared.ending.End.{End}
use Rattle.search_run.specs.declared.ending.End.TheVariants as ends
use Rattle.search_run.proofs.MadeLaws.{kept_begins, kept_stands_on, run_answers}
use Rattle.search_run.proofs.ResultLaws.{ends_of}
use Rattle.search_run.proofs.SearchedLaws.{answered_sections}
use Rattle.report_check.specs.Answer.{IsAnsweredBy}
use Rattle.report_check.specs.DueSections.{AreRightBy}
use Rattle.report_check.specs.Proved.{HasTriesBy, IsEndedText, tries_in}
use Rattle.report_check.specs.Verdict.{IsAccepted, IsPaid}
use Rattle.report_check.specs.Vouched.{IsOfPayment}
use Rattle.report_check.proofs.FewLaws.{all_whole}
use Rattle.report_check.proofs.HonestLaws.{found_accepted, given_accepted, none_accepted, paid_of}
use Rattle.checked_runs.proofs.RunLaws.{run_front, run_tries}
use Rattle.checked_runs.proofs.ShortLaws.{AreShort, short_sections}

-- ---- the log of a plan

closed_by : (partial : Bool) (s : Stand) → (log_of partial s).closed ≡ s.past.closed
closed_by true s = refl
closed_by false s = refl

-- its sections are those that the run has closed
log_closed : (p : PlainPlan) (n : ℕ) → (log_at p n).closed ≡ (stand_after p n).past.closed
unfolding log_at
log_closed p n = closed_by (is_partial (end_at p (stand_after p n))) (stand_after p n)

-- at the end of its run a plan has made the tries of its log
over_tries : (p : PlainPlan) (n : ℕ) → AreSteps (steps_of p) → (stand_after p n).left ≡ [] → tries_at p n ≡ tries_in (log_at p n).closed
unfolding tries_at
over_tries p n are over =
    run_tries p.request.seed (steps_of p) (min n most_tries) are over
    ∙ ap (λ (ss : List PlainSection). tries_in ss) (sym (log_closed p n))

tries_by : (m : Mark) (tries : ℕ) (sections : List PlainSection) → tries ≡ tries_in sections → HasTriesBy m tries sections
tries_by mark.Exhausted tries sections h = h
tries_by mark.Partial tries sections h = tt
tries_by mark.Drawn tries sections h = h
tries_by mark.Given tries sections h = h

-- ---- the presets alone

is_given_by : (p : PlainPlan) (g : plans.PlainFunded) (b : Bool) → is_given p ≡ b → cond b (given_of p) outcomes.NoSelection ≡ outcomes.Funded g → is_given p ≡ true
is_given_by p g true is e = is
is_given_by p g false is e = absurd cc

given_log : (p : PlainPlan) (n : ℕ) (g : plans.PlainFunded) → g.mark ≡ mark.Given → Claims p n g → (log_at p n).closed ≡ []
given_log p n g marked claims =
    let given : IsGivenAlone p g (log_at p n) = subst (λ (m : Mark). ClaimsBy m p n g) marked claims in
    ap (λ (l : PlainLog). l.closed) given.none

given_in_order : (p : PlainPlan) (n : ℕ) (f : PlainFunded) (g : plans.PlainFunded) (bytes : List ℕ) → IsPlan p → AreSteps (steps_of p) → Claims p n g → end_at p (stand_after p n) ≡ ends.Ended None → by_end p (ends.Ended None) ≡ outcomes.Funded g
    → IsOfPayment p f g → f.tries ≡ tries_at p n → IsEndedText bytes (log_at p n) → IsAccepted p (Funded f) bytes
given_in_order p n f g bytes plan are claims is e whole tries text =
    let over = (ended_so p (stand_after p n) None is).over in
    given_accepted p f g bytes (log_at p n) plan (is_given_by p g (is_given p) refl e) e whole text
    (given_log p n g (given_mark p g (sym (ended_none p) ∙ e)) claims)
    (tries_by f.mark f.tries (log_at p n).closed (tries ∙ over_tries p n are over))

-- ---- a search or a draw

found_in_order : (p : PlainPlan) (n : ℕ) (f : PlainFunded) (found : PlainFound) (bytes : List ℕ) → IsPlan p → AreSteps (steps_of p) → end_at p (stand_after p n) ≡ ends.Ended (Some found)
    → IsOfPayment p f (funded_at p (mark_of found.stage) found) → f.tries ≡ tries_at p n → IsEndedText bytes (log_at p n) → IsAccepted p (Funded f) bytes
found_in_order p n f found bytes plan are is whole tries text =
    let seed = p.request.seed in
    let k = ended_so p (stand_after p n) (Some found) is in
    let first : IsFirstTaken seed (steps_of p) found =
    subst (λ (o : Option PlainFound). IsAnswer seed (steps_of p) o) k.taken_is (run_answers seed (steps_of p) (min n most_tries) are (all_whole p) k.over)
    in
    let sections : AreSectionsOf (first.front ++ first.column) (log_at p n).closed =
    subst (λ (ss : List PlainSection). AreSectionsOf (first.front ++ first.column) ss) (sym (log_closed p n)) (answered_sections seed (steps_of p) (min n most_tries) found are k.over first)
    in
    found_accepted p f found bytes (log_at p n) plan are first whole text sections
    (tries_by f.mark f.tries (log_at p n).closed (tries ∙ over_tries p n are k.over))

-- ---- for want of tries

-- the result of an end is one of a step
pub result_in : (p : PlainPlan) (n : ℕ) (e : End) → AreSteps (steps_of p) → end_at p (stand_after p n) ≡ e → IsEndOf (steps_of p) e
result_in p n e are is =
    let seed = p.request.seed in
    let stands = kept_stands_on seed (steps_of p) are (beginning seed (steps_of p)) (min n most_tries) (kept_begins seed (steps_of p) are) in
    subst (IsEndOf (steps_of p)) is (ends_of seed (steps_of p) are p.request.take (stand_after p n) stands)

-- a row of the ladder has found it, and the payment of it pays
short_paid : (p : PlainPlan) (f : PlainFunded) (found : PlainFound) → IsPlan p → IsResultOf (steps_of p) found → IsOfPayment p f (funded_at p mark.Partial found) → IsPaid p (Funded f)
short_paid p f found plan result whole =
    let source = found_in p found result in
    let number : source.row.number ≡ found.row = sym (ap (λ (x : PlainFound). x.row) source.is) in
    let payment : IsPayment p (funded_at p mark.Partial found) = (end_done p (ends.Partial found) plan result).payments in
    paid_of p f (funded_at p mark.Partial found) plan (inr (source.row, (source.in_ladder, number))) payment whole

short_log : (p : PlainPlan) (n : ℕ) (found : PlainFound) → AreSteps (steps_of p) → Claims p n (funded_at p mark.Partial found) → AreShort (steps_of p) (log_at p n).closed
short_log p n found are claims =
    let short : IsTakenShort p n (funded_at p mark.Partial found) = claims in
    let seed = p.request.seed in
    let front = run_front seed (steps_of p) (min n most_tries) short.used_up.step short.used_up.rest are short.used_up.left in
    subst (AreShort (steps_of p)) (sym (log_closed p n)) (short_sections seed (steps_of p) short.used_up.step short.used_up.rest (stand_after p n).past.closed front)

short_in_order : (p : PlainPlan) (n : ℕ) (f : PlainFunded) (found : PlainFound) (bytes : List ℕ) → IsPlan p → AreSteps (steps_of p) → Claims p n (funded_at p mark.Partial found) → end_at p (stand_after p n) ≡ ends.Partial found
    → IsOfPayment p f (funded_at p mark.Partial found) → IsEndedText bytes (log_at p n) → IsAccepted p (Funded f) bytes
short_in_order p n f found bytes plan are claims is whole text =
    let marked : f.mark ≡ mark.Partial = whole.names.mark in
    let log : List PlainSection = (log_at p n).closed in
    let s = short_log p n found are claims in (
      short_paid p f found plan (result_in p n (ends.Partial found) are is) whole,
      (
        log_at p n,
        text,
        record {
          sections = subst (λ (m : Mark). AreRightBy m (steps_of p) f.row f.stage log) (sym marked) (s.due, s.but_last, s.first);
          proved = s.proved;
          tries = subst (λ (m : Mark). HasTriesBy m f.tries log) (sym marked) tt;
          answer = subst (λ (m : Mark). IsAnsweredBy m p f log) (sym marked) tt;
        },
      ),
    )

-- ---- whatever it comes to

pub funded_in_order : (p : PlainPlan) (n : ℕ) (f : PlainFunded) (g : plans.PlainFunded) (bytes : List ℕ) → IsPlan p → AreSteps (steps_of p) → outcome_at p n ≡ outcomes.Funded g → IsOfPayment p f g → f.tries ≡ tries_at p n → IsEndedText bytes (log_at p n)
    → IsAccepted p (Funded f) bytes
unfolding outcome_at
funded_in_order p n f g bytes plan are e whole tries text = by (end_at p (stand_after p n)) refl e
  where
    claims : Claims p n g
    claims = funded_claims p n g plan are e

    by : (d : End) → end_at p (stand_after p n) ≡ d → by_end p d ≡ outcomes.Funded g → IsAccepted p (Funded f) bytes
    by (ends.Ended None) is same = given_in_order p n f g bytes plan are claims is same whole tries text
    by (ends.Ended (Some found)) is same =
        let own = sym (same_funded (funded_at p (mark_of found.stage) found) g same) in
        found_in_order p n f found bytes plan are is (subst (IsOfPayment p f) own whole) tries text
    by (ends.Partial found) is same =
        let own = sym (same_funded (funded_at p mark.Partial found) g same) in
        short_in_order p n f found bytes plan are (subst (Claims p n) own claims) is (subst (IsOfPayment p f) own whole) text
    by ends.Unfinished is same = absurd cc

pub none_in_order : (p : PlainPlan) (n : ℕ) (bytes : List ℕ) → IsPlan p → AreSteps (steps_of p) → outcome_at p n ≡ outcomes.NoSelection → IsEndedText bytes (log_at p n) → IsAccepted p (NoSelection (tries_at p n)) bytes
unfolding outcome_at
none_in_order p n bytes plan are e text = by (end_at p (stand_after p n)) refl e
  where
    by : (d : End) → end_at p (stand_after p n) ≡ d → by_end p d ≡ outcomes.NoSelection → IsAccepted p (NoSelection (tries_at p n)) bytes
    by (ends.Ended None) is same =
        let k = none_claims p n plan are e in
        none_accepted p (tries_at p n) bytes (log_at p n) are k.none same text k.sections (over_tries p n are (ended_so p (stand_after p n) None is).over)
    by (ends.Ended (Some found)) is same = absurd cc
    by (ends.Partial found) is same = absurd cc
    by ends.Unfinished is same = absurd cc

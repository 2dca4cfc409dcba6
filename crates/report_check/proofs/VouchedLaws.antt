-- What an accepted report vouches for.
use Rattle.std.specs.Prelude.{ℕ, ◌≡◌, ◌+ℤ◌, Bool, true, false, cond, List, map, Option, Some, None}
use Rattle.std.proofs.Common.{refl, sym, ap, subst, ◌∙◌}
use Rattle.closing_log.specs.Log.{PlainSection}
use Rattle.closing_log.specs.declared.log.Stage.{Stage}
use Rattle.closing_log.specs.declared.mark.Mark.{Mark}
use Rattle.closing_log.specs.declared.mark.Mark.TheVariants as mark
use Rattle.fund_plan.proofs.OutcomeLaws.{end_done}
use Rattle.fund_plan.proofs.GivenLaws.{alone_means, ended_none, given_brings, given_mark}
use Rattle.fund_plan.proofs.MeasureLaws.{waste_measured}
use Rattle.fund_plan.proofs.SourceLaws.{best_of, drawn_of, own_result}
use Rattle.fund_plan.specs.Answer.{ArePayments, IsPayment}
use Rattle.fund_plan.specs.Chosen.{coins_at, funded_at, mark_of, row_of}
use Rattle.fund_plan.specs.Outcome.{by_end}
use Rattle.fund_plan.specs.Selection as plans
use Rattle.fund_plan.specs.Claims.{BringAll}
use Rattle.fund_plan.specs.Figures.{cost_of}
use Rattle.fund_plan.specs.Steps.{is_given, problem_at, steps_of}
use Rattle.fund_plan.specs.declared.outcome.Outcome.{Outcome}
use Rattle.fund_plan.specs.declared.outcome.Outcome.TheVariants as outcomes
use Rattle.fund_report.specs.PlainFunded.{PlainFunded}
use Rattle.fund_report.specs.declared.report.Report.{Report}
use Rattle.fund_report.specs.declared.report.Report.TheVariants.{Funded, NoSelection, Unfinished}
use Rattle.fund_steps.proofs.ReachLaws.{none_where}
use Rattle.fund_steps.specs.Basis.{basis_of}
use Rattle.fund_steps.specs.Listed.{presets_in}
use Rattle.fund_steps.specs.Plan.{IsPlan, PlainPlan}
use Rattle.pick_problem.specs.Best.{IsBest}
use Rattle.random_draw.specs.Draw.{draw_of}
use Rattle.search_run.specs.Answer.{IsAnswer}
use Rattle.search_run.specs.Found.{PlainFound}
use Rattle.search_run.specs.Step.{AreSteps, is_drawn}
use Rattle.search_run.specs.declared.ending.End.TheVariants as ends
use Rattle.report_check.specs.Answer.{IsAnsweredBy, IsNamedAnswer, NamesOutcome, NamesPayment}
use Rattle.report_check.specs.Payment.{line_of}
use Rattle.report_check.specs.Verdict.{IsAccepted, IsPaid}
use Rattle.report_check.specs.Vouched.{IsDrawn, IsGiven, IsLeast, IsNone, IsTheAnswer, Vouches, VouchesBy}
use Rattle.report_check.proofs.PaymentLaws.{of_payment}
use Rattle.report_check.proofs.ResultLaws.{answer_ends}
use Rattle.report_check.proofs.BackedLaws.{AreSearched, funded_searched, none_searched, told_answer}

-- ---- what a report names

record IsOfOutcome (f : PlainFunded) (o : Outcome) : Type 0 where
  payment : plans.PlainFunded
  is : o ≡ outcomes.Funded payment
  names : NamesPayment f payment

named_payment : (f : PlainFunded) (o : Outcome) → NamesOutcome (Funded f) o → IsOfOutcome f o
named_payment f (outcomes.Funded g) h = record { payment = g; is = refl; names = h }
named_payment f outcomes.NoSelection h = absurd h
named_payment f outcomes.Unfinished h = absurd h

named_none : (tries : ℕ) (o : Outcome) → NamesOutcome (NoSelection tries) o → o ≡ outcomes.NoSelection
named_none tries (outcomes.Funded g) h = absurd h
named_none tries outcomes.NoSelection h = refl
named_none tries outcomes.Unfinished h = absurd h

-- ---- marks

not_drawn : (b : Bool) → cond b mark.Drawn mark.Exhausted ≡ mark.Exhausted → b ≡ false
not_drawn true e = absurd (cc)
not_drawn false e = refl

is_draw : (b : Bool) → cond b mark.Drawn mark.Exhausted ≡ mark.Drawn → b ≡ true
is_draw true e = refl
is_draw false e = absurd (cc)

never_given : (b : Bool) → cond b mark.Drawn mark.Exhausted ≡ mark.Given → ⊥
never_given true e = cc
never_given false e = cc

-- what is answered by the presets alone is marked as given
marked_given : (p : PlainPlan) (f : PlainFunded) (h : IsOfOutcome f (by_end p (ends.Ended None))) → f.mark ≡ mark.Given
marked_given p f h = h.names.mark ∙ given_mark p h.payment (sym (ended_none p) ∙ h.is)

-- ---- by the mark

the_answer : (p : PlainPlan) (f : PlainFunded) (o : Option PlainFound) → IsPlan p → AreSteps (steps_of p) → IsPaid p (Funded f) → IsAnswer p.request.seed (steps_of p) o → (h : IsOfOutcome f (by_end p (ends.Ended o))) → IsTheAnswer p f
the_answer p f o plan steps paid answer h =
    let done : ArePayments p (by_end p (ends.Ended o)) = (end_done p (ends.Ended o) plan (answer_ends p.request.seed (steps_of p) o steps answer)).payments in
    let payment : IsPayment p h.payment = subst (ArePayments p) h.is done in
    record {
      payment = h.payment;
      answer = record { found = o; answer = answer; is = sym h.is };
      is_payment = payment;
      whole = of_payment p f h.payment paid.0 plan payment h.names paid.1 paid.2;
    }

-- the waste of a result's payment is its own and the cost of the presets
measured : (p : PlainPlan) (f : PlainFunded) (g : PlainFound) → IsPlan p → AreSteps (steps_of p) → IsAnswer p.request.seed (steps_of p) (Some g) → (h : IsTheAnswer p f) → h.payment ≡ funded_at p (mark_of g.stage) g → f.waste ≡ g.waste +ℤ cost_of p.request (presets_in p)
measured p f g plan steps answer h is =
    h.whole.waste ∙ (ap (λ (x : plans.PlainFunded). x.waste) is ∙ waste_measured p (mark_of g.stage) g plan (answer_ends p.request.seed (steps_of p) (Some g) steps answer))

-- the coins at places of the row that a report names
coins_named : (p : PlainPlan) (f : PlainFunded) (g : PlainFound) → NamesPayment f (funded_at p (mark_of g.stage) g) → f.coins ≡ map line_of (coins_at p (row_of p f.row) g.places)
coins_named p f g h = h.coins ∙ ap (λ (n : ℕ). map line_of (coins_at p (row_of p n) g.places)) (sym h.row)

least_by : (p : PlainPlan) (f : PlainFunded) (o : Option PlainFound) → f.mark ≡ mark.Exhausted → IsPlan p → AreSteps (steps_of p) → IsPaid p (Funded f) → IsAnswer p.request.seed (steps_of p) o → NamesOutcome (Funded f) (by_end p (ends.Ended o)) → IsLeast p f
unfolding the_answer
least_by p f None e h steps paid answer names =
    let given = marked_given p f (named_payment f (by_end p (ends.Ended None)) names) in
    absurd (let x = sym e ∙ given in cc)
least_by p f (Some g) e h steps paid answer names =
    let searched = not_drawn (is_drawn g.stage) (sym names.mark ∙ e) in
    let best = best_of p g searched (own_result p g answer) in
    let whole = the_answer p f (Some g) h steps paid answer (record { payment = funded_at p (mark_of g.stage) g; is = refl; names = names }) in
    record {
      answer = whole;
      found = g;
      first = answer;
      best = subst (λ (n : ℕ). IsBest (problem_at p (row_of p n) f.stage) (Some g.places)) (sym names.row)
          (subst (λ (s : Stage). IsBest (problem_at p (row_of p g.row) s) (Some g.places)) (sym names.stage) best);
      coins = coins_named p f g names;
      measure = measured p f g h steps answer whole refl;
    }

drawn_by : (p : PlainPlan) (f : PlainFunded) (o : Option PlainFound) → f.mark ≡ mark.Drawn → IsPlan p → AreSteps (steps_of p) → IsPaid p (Funded f) → IsAnswer p.request.seed (steps_of p) o → NamesOutcome (Funded f) (by_end p (ends.Ended o)) → IsDrawn p f
unfolding the_answer
drawn_by p f None e h steps paid answer names =
    let given = marked_given p f (named_payment f (by_end p (ends.Ended None)) names) in
    absurd (let x = sym e ∙ given in cc)
drawn_by p f (Some g) e h steps paid answer names =
    let drawn = is_draw (is_drawn g.stage) (sym names.mark ∙ e) in
    let is = drawn_of p g drawn (own_result p g answer) in
    let whole = the_answer p f (Some g) h steps paid answer (record { payment = funded_at p (mark_of g.stage) g; is = refl; names = names }) in
    record {
      answer = whole;
      found = g;
      first = answer;
      drawn = subst (λ (n : ℕ). draw_of (problem_at p (row_of p n) f.stage) p.request.seed ≡ Some g.places) (sym names.row)
          (subst (λ (s : Stage). draw_of (problem_at p (row_of p g.row) s) p.request.seed ≡ Some g.places) (sym names.stage) is);
      coins = coins_named p f g names;
      measure = measured p f g h steps answer whole refl;
    }

given_by : (p : PlainPlan) (f : PlainFunded) (o : Option PlainFound) → f.mark ≡ mark.Given → IsPlan p → AreSteps (steps_of p) → IsPaid p (Funded f) → IsAnswer p.request.seed (steps_of p) o → NamesOutcome (Funded f) (by_end p (ends.Ended o)) → IsGiven p f
unfolding the_answer
given_by p f None e h steps paid answer names =
    let of = named_payment f (by_end p (ends.Ended None)) names in
    record { answer = the_answer p f None h steps paid answer of; alone = alone_means p (outcomes.Funded of.payment) h of.is }
given_by p f (Some g) e h steps paid answer names = absurd (never_given (is_drawn g.stage) (sym names.mark ∙ e))

-- ---- reports

funded_by : (m : Mark) (p : PlainPlan) (f : PlainFunded) (sections : List PlainSection) → f.mark ≡ m → IsPlan p → AreSteps (steps_of p) → IsPaid p (Funded f) → AreSearched (steps_of p) sections → IsAnsweredBy m p f sections → VouchesBy m p f
funded_by mark.Exhausted p f sections e h steps paid searched (o, told, names) = least_by p f o e h steps paid (told_answer p sections o steps searched told) names
funded_by mark.Drawn p f sections e h steps paid searched (o, told, names) = drawn_by p f o e h steps paid (told_answer p sections o steps searched told) names
funded_by mark.Given p f sections e h steps paid searched (o, told, names) = given_by p f o e h steps paid (told_answer p sections o steps searched told) names
funded_by mark.Partial p f sections e h steps paid searched answer = paid

-- the presets don't bring all that is due, and something is searched for
ungiven : (p : PlainPlan) → (BringAll p → ⊥) → is_given p ≡ false
ungiven p short = by (is_given p) refl
  where
    by : (b : Bool) → is_given p ≡ b → b ≡ false
    by true is = absurd (short (given_brings p is))
    by false is = refl

none_by : (p : PlainPlan) (tries : ℕ) (o : Option PlainFound) → IsPlan p → AreSteps (steps_of p) → IsAnswer p.request.seed (steps_of p) o → NamesOutcome (NoSelection tries) (by_end p (ends.Ended o)) → IsNone p
none_by p tries None h steps answer names =
    let is = named_none tries (by_end p (ends.Ended None)) names in
    record {
      answer = record { found = None; answer = answer; is = sym is };
      none = answer;
      alone = alone_means p outcomes.NoSelection h is;
      nothing = λ some short. (none_where (basis_of p) p.request.seed some (ungiven p short) steps).0 answer;
    }
none_by p tries (Some g) h steps answer names = absurd names

pub accepted_vouches : (p : PlainPlan) (r : Report) (bytes : List ℕ) → IsPlan p → AreSteps (steps_of p) → IsAccepted p r bytes → Vouches p r
accepted_vouches p (Funded f) bytes h steps (paid, (log, text, backed)) =
    funded_by f.mark p f log.closed refl h steps paid (funded_searched f.mark (steps_of p) f.row f.stage log.closed backed.sections backed.proved) backed.answer
accepted_vouches p (NoSelection tries) bytes h steps (log, text, backed) =
    let named : IsNamedAnswer p (NoSelection tries) log.closed = backed.answer in
    none_by p tries named.0 h steps (told_answer p log.closed named.0 steps (none_searched (steps_of p) log.closed backed.sections backed.proved) named.1) named.2
accepted_vouches p (Unfinished tries row stage) bytes h steps a = tt

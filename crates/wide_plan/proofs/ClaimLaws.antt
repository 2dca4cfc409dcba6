-- What the wide search of a plan comes to, and what it claims.
use Rattle.std.specs.Prelude.{ℕ, ◌≡◌, ◌≢◌, ◌-◌, ◌++◌, Bool, true, false, List, [], ◌∷◌, Contains, Option, Some, None, IfSome, cond}
use Rattle.std.specs.List.{AllByRecursion}
use Rattle.std.proofs.Common.{refl, sym, ap, subst, ◌∙◌, inl, inr}
use Rattle.std.proofs.lemmas.List.Elements.{All-contains, All-from_recursion, Contains-append_right}
use Rattle.closing_log.specs.declared.log.Stage.TheVariants as stage
use Rattle.closing_log.specs.declared.mark.Mark.TheVariants as mark
use Rattle.output_groups.proofs.Members.{head_in}
use Rattle.pick_problem.specs.Admissible.{Fits, IsAdmissible}
use Rattle.pick_problem.specs.Problem.{PlainProblem}
use Rattle.pick_problem.specs.declared.item.Kind.{Kind}
use Rattle.pick_problem.specs.declared.item.Kind.TheVariants as kind
use Rattle.request_text.specs.declared.request.Method.TheVariants.{Manual}
use Rattle.search_run.specs.Answer.{HasNone, IsResultBy}
use Rattle.search_run.specs.Step.{AreSteps, PlainStep, is_drawn}
use Rattle.fund_steps.proofs.ReachLaws.{none_where}
use Rattle.fund_steps.specs.Basis.{basis_of}
use Rattle.fund_steps.specs.Plan.{IsPlan, PlainPlan, ladder_in}
use Rattle.fund_plan.specs.Answer.{IsPayment}
use Rattle.fund_plan.specs.Chosen.{row_among, row_of}
use Rattle.fund_plan.specs.Selection.{PlainFunded}
use Rattle.fund_plan.specs.Steps.{problem_at, steps_of}
use Rattle.fund_plan.proofs.RowLaws.{numbered, step_of}
use Rattle.fund_plan.proofs.SourceLaws.{own_problem}
use Rattle.wide_check.specs.Wide.{IsWide, IsWideBest, IsWideFit, IsWideProblem}
use Rattle.wide_search.proofs.KeptLaws.{walk_fit}
use Rattle.wide_plan.specs.Asked.{IsForWide}
use Rattle.wide_plan.specs.Claims.{AreEmpty, Claims, IsLeftOpen, IsProvedNone, IsUsedUp, open_walk, spent_on}
use Rattle.wide_plan.specs.Payments.{CanEnd, CanPay}
use Rattle.wide_plan.specs.Rows.{PlainWideSection}
use Rattle.wide_plan.specs.Run.{by_best, by_end, paid_at, rows_of, run_of}
use Rattle.wide_plan.specs.declared.outcome.WideOutcome.TheVariants.{Funded, NoSelection, Unfinished}
use Rattle.wide_plan.specs.declared.rows.RowsEnd.{RowsEnd}
use Rattle.wide_plan.specs.declared.rows.RowsEnd.TheVariants as ends
use Rattle.wide_plan.proofs.EndLaws.{Ended, IsFoundAt, IsOpenAt, rows_end}
use Rattle.wide_plan.proofs.PayLaws.{paid_pays}
use Rattle.wide_plan.proofs.StepLaws.{IsPlain, not_given, steps_plain}
use Rattle.wide_plan.proofs.UsedUpLaws.{used_up_ends}

-- ---- the rows are problems without change

wide_problems : (steps : List PlainStep) → AreSteps steps → AllByRecursion IsPlain steps → AllByRecursion (λ (x : PlainStep). IsWideProblem x.problem) steps
wide_problems [] are plain = tt
wide_problems (x ∷ steps) are plain = (record { problem = are.0.problem; kind = plain.0.kind }, wide_problems steps are.1 plain.1)

there_in : (p : PlainPlan) (front rest : List PlainStep) (x : PlainStep) → steps_of p ≡ front ++ x ∷ rest → Contains (steps_of p) x
there_in p front rest x parts = subst (λ (xs : List PlainStep). Contains xs x) (sym parts) (Contains-append_right front (x ∷ rest) x (head_in x rest))

module _ (p : PlainPlan) (asked : IsForWide p.request) where
  pub plain_steps : AllByRecursion IsPlain (steps_of p)
  plain_steps = steps_plain (basis_of p) asked.method

  -- a step's problem is that of its row
  row_problem : (x : PlainStep) (number : ℕ) → Contains (steps_of p) x → x.row ≡ number → x.problem ≡ problem_at p (row_of p number) stage.Changeless
  row_problem x number there named =
      let plain : IsPlain x = All-contains IsPlain (steps_of p) x (All-from_recursion IsPlain (steps_of p) plain_steps) there in
      own_problem p x there ∙ (ap (problem_at p (row_of p x.row)) plain.stage ∙ ap (λ (n : ℕ). problem_at p (row_of p n) stage.Changeless) named)

  can_pay : (x : PlainStep) (number : ℕ) (q : List ℕ) → p.bump ≡ None → Contains (steps_of p) x → x.row ≡ number → IsWide x.problem q → CanPay p number q
  can_pay x number q plain there named wide =
      let at = step_of p x there in
      let known = numbered p at.row at.in_ladder in
      let is : number ≡ at.row.number = sym named ∙ ap (λ (y : PlainStep). y.row) at.is in
      let row : row_of p number ≡ at.row = ap (row_among (ladder_in p)) is ∙ known.0 in
      record {
        asked = asked;
        plain = plain;
        row = subst (Contains (ladder_in p)) (sym row) at.in_ladder;
        named = λ e. known.1 (sym is ∙ e);
        wide = subst (λ (x' : PlainProblem). IsWide x' q) (row_problem x number there named) wide;
      }

module _ (p : PlainPlan) (are : AreSteps (steps_of p)) (asked : IsForWide p.request) where
  pub search_ends : Ended (steps_of p) p.request.tries (rows_of p).closed (rows_of p).tries (rows_of p).end
  unfolding rows_of
  search_ends = rows_end (steps_of p) p.request.tries (wide_problems (steps_of p) are (plain_steps p asked))

  open_in : (n : ℕ) (closed : List PlainWideSection) (tries : ℕ) (u : IsUsedUp (steps_of p) n closed tries) → Contains (steps_of p) u.step
  open_in n closed tries u = there_in p u.front u.rest u.step u.parts

  met_wide : (n : ℕ) (closed : List PlainWideSection) (tries : ℕ) (u : IsUsedUp (steps_of p) n closed tries) (q : List ℕ) → (open_walk (steps_of p) n closed tries u).best ≡ Some q → IsWide u.step.problem q
  met_wide n closed tries u q met =
      let each = All-from_recursion (λ (x : PlainStep). IsWideProblem x.problem) (steps_of p) (wide_problems (steps_of p) are (plain_steps p asked)) in
      let is : IsWideProblem u.step.problem = All-contains (λ (x : PlainStep). IsWideProblem x.problem) (steps_of p) u.step each (open_in n closed tries u) in
      subst (IsWideFit u.step.problem) met (walk_fit u.step.problem is (n - spent_on n u.front))

  -- ---- what can be paid

  can_by : p.bump ≡ None → (n : ℕ) (closed : List PlainWideSection) (tries : ℕ) (end : RowsEnd) → Ended (steps_of p) n closed tries end → CanEnd p end
  can_by plain n closed tries (ends.Found number q) h = can_pay p asked h.step number q plain (there_in p h.front h.rest h.step h.parts) h.row h.best.0
  can_by plain n closed tries ends.Nothing h = tt
  can_by plain n closed tries (ends.Open number None) h = tt
  can_by plain n closed tries (ends.Open number (Some q)) h = can_pay p asked h.used_up.step number q plain (open_in n closed tries h.used_up) h.row (met_wide n closed tries h.used_up q h.met)

  pub can_end : p.bump ≡ None → CanEnd p (rows_of p).end
  can_end plain = can_by plain p.request.tries (rows_of p).closed (rows_of p).tries (rows_of p).end search_ends

same_funded : (f g : PlainFunded) → Funded f ≡ Funded g → f ≡ g
same_funded f g e = cc

-- ---- what is paid

pays_by : (p : PlainPlan) (f : PlainFunded) (end : RowsEnd) → IsPlan p → CanEnd p end → by_end p end ≡ Funded f → IsPayment p f
pays_by p f (ends.Found number q) h can e = subst (IsPayment p) (same_funded (paid_at p mark.Exhausted number q) f e) (paid_pays p mark.Exhausted number q h can)
pays_by p f ends.Nothing h can e = absurd (let z = e in cc)
pays_by p f (ends.Open number best) h can e = by p.request.take best can e
  where
    by : (take : Bool) (best : Option (List ℕ)) → IfSome best (CanPay p number) → cond take (by_best p number best) (Unfinished number) ≡ Funded f → IsPayment p f
    by false best can e = absurd (let z = e in cc)
    by true None can e = absurd (let z = e in cc)
    by true (Some q) can e = subst (IsPayment p) (same_funded (paid_at p mark.Partial number q) f e) (paid_pays p mark.Partial number q h can)

pub run_pays : (p : PlainPlan) (f : PlainFunded) → IsPlan p → AreSteps (steps_of p) → IsForWide p.request → p.bump ≡ None → (run_of p).outcome ≡ Funded f → IsPayment p f
run_pays p f h are asked plain e = pays_by p f (rows_of p).end h (can_end p are asked plain) e

-- ---- claims

module _ (p : PlainPlan) (are : AreSteps (steps_of p)) (asked : IsForWide p.request) (closed : List PlainWideSection) (tries : ℕ) where
  claim_found : (number : ℕ) (q : List ℕ) → IsFoundAt (steps_of p) closed number q → Claims p (paid_at p mark.Exhausted number q) closed tries
  claim_found number q h = record {
    stage = refl;
    change = refl;
    claim = record {
      places = q;
      best = subst (λ (x : PlainProblem). IsWideBest x (Some q)) (row_problem p asked h.step number (there_in p h.front h.rest h.step h.parts) h.row) h.best;
      coins = refl;
      front = h.front;
      step = h.step;
      rest = h.rest;
      parts = h.parts;
      row = h.row;
      problem = row_problem p asked h.step number (there_in p h.front h.rest h.step h.parts) h.row;
      empty = h.empty;
      sections = h.sections;
    };
  }

  claim_taken : (number : ℕ) (q : List ℕ) → p.request.take ≡ true → IsOpenAt (steps_of p) p.request.tries closed tries number (Some q) → Claims p (paid_at p mark.Partial number q) closed tries
  claim_taken number q take h = record {
    stage = refl;
    change = refl;
    claim = record {
      asked = take;
      used_up = h.used_up;
      row = h.row;
      problem = row_problem p asked h.used_up.step number (open_in p are asked p.request.tries closed tries h.used_up) h.row;
      places = q;
      met = h.met;
      selection =
          subst (λ (x : PlainProblem). IsWide x q) (row_problem p asked h.used_up.step number (open_in p are asked p.request.tries closed tries h.used_up) h.row) (met_wide p are asked p.request.tries closed tries h.used_up q h.met);
      coins = refl;
    };
  }

  claims_by : (f : PlainFunded) (end : RowsEnd) → Ended (steps_of p) p.request.tries closed tries end → by_end p end ≡ Funded f → Claims p f closed tries
  claims_by f (ends.Found number q) h e = subst (λ (g : PlainFunded). Claims p g closed tries) (same_funded (paid_at p mark.Exhausted number q) f e) (claim_found number q h)
  claims_by f ends.Nothing h e = absurd (let z = e in cc)
  claims_by f (ends.Open number best) h e = by p.request.take best refl h e
    where
      by : (take : Bool) (best : Option (List ℕ)) → p.request.take ≡ take → IsOpenAt (steps_of p) p.request.tries closed tries number best → cond take (by_best p number best) (Unfinished number) ≡ Funded f → Claims p f closed tries
      by false best is h e = absurd (let z = e in cc)
      by true None is h e = absurd (let z = e in cc)
      by true (Some q) is h e = subst (λ (g : PlainFunded). Claims p g closed tries) (same_funded (paid_at p mark.Partial number q) f e) (claim_taken number q is h)

  same_number : (m n : ℕ) → Unfinished m ≡ Unfinished n → m ≡ n
  same_number m n e = cc

  left_by : (number : ℕ) (end : RowsEnd) → Ended (steps_of p) p.request.tries closed tries end → by_end p end ≡ Unfinished number → IsLeftOpen p number closed tries
  left_by number (ends.Found m q) h e = absurd (let z = e in cc)
  left_by number ends.Nothing h e = absurd (let z = e in cc)
  left_by number (ends.Open m best) h e = by p.request.take best refl h e
    where
      by : (take : Bool) (best : Option (List ℕ)) → p.request.take ≡ take → IsOpenAt (steps_of p) p.request.tries closed tries m best → cond take (by_best p m best) (Unfinished m) ≡ Unfinished number → IsLeftOpen p number closed tries
      by false best is h e = record { used_up = h.used_up; row = h.row ∙ same_number m number e; untaken = inl is }
      by true None is h e = record { used_up = h.used_up; row = h.row ∙ same_number m number e; untaken = inr h.met }
      by true (Some q) is h e = absurd (let z = e in cc)

pub run_claims : (p : PlainPlan) (f : PlainFunded) → AreSteps (steps_of p) → IsForWide p.request → (run_of p).outcome ≡ Funded f → Claims p f (run_of p).sections (run_of p).tries
run_claims p f are asked e = claims_by p are asked (rows_of p).closed (rows_of p).tries f (rows_of p).end (search_ends p are asked) e

pub run_left : (p : PlainPlan) (number : ℕ) → AreSteps (steps_of p) → IsForWide p.request → (run_of p).outcome ≡ Unfinished number → IsLeftOpen p number (run_of p).sections (run_of p).tries
run_left p number are asked e = left_by p are asked (rows_of p).closed (rows_of p).tries number (rows_of p).end (search_ends p are asked) e

-- where the tries are used up, that is the end
pub run_used_up : (p : PlainPlan) (closed : List PlainWideSection) (tries : ℕ) → AreSteps (steps_of p) → IsForWide p.request → (u : IsUsedUp (steps_of p) p.request.tries closed tries) → (rows_of p).end ≡ ends.Open u.step.row (open_walk (steps_of p) p.request.tries closed tries u).best
unfolding rows_of
run_used_up p closed tries are asked u = used_up_ends (steps_of p) p.request.tries closed tries (wide_problems (steps_of p) are (plain_steps p asked)) u

-- ---- no selection

-- an admissible selection is a wide one
wide_of : (x : PlainProblem) (q : List ℕ) → x.kind ≡ kind.Changeless → IsAdmissible x q → IsWide x q
wide_of x q is h =
    let fits : Fits kind.Changeless x q = subst (λ (k : Kind). Fits k x q) is h.fits in
    record { some = h.some; rising = h.rising; reaches = h.reaches; under = fits.0; light = h.light }

none_has : (seed : List ℕ) (steps : List PlainStep) → AllByRecursion IsPlain steps → AreEmpty steps → AllByRecursion (HasNone seed) steps
none_has seed [] plain empty = tt
none_has seed (x ∷ steps) plain empty =
    let searched : is_drawn x.stage ≡ false = ap is_drawn plain.0.stage in
    (subst (λ (b : Bool). IsResultBy b seed x None) (sym searched) (λ q h. empty.0 q (wide_of x.problem q plain.0.kind h)), none_has seed steps plain.1 empty.1)

not_manual : (p : PlainPlan) → IsForWide p.request → p.request.method ≢ Manual
not_manual p asked e = let z = sym asked.method ∙ e in cc

none_by : (p : PlainPlan) (closed : List PlainWideSection) (tries : ℕ) (end : RowsEnd) → AreSteps (steps_of p) → IsForWide p.request → p.bump ≡ None → Ended (steps_of p) p.request.tries closed tries end → by_end p end ≡ NoSelection → IsProvedNone p closed
none_by p closed tries (ends.Found number q) are asked plain h e = absurd (let z = e in cc)
none_by p closed tries ends.Nothing are asked plain h e = record {
  empty = h.0;
  sections = h.1;
  nothing = (none_where (basis_of p) p.request.seed (not_manual p asked) (not_given p plain asked) are).0 (none_has p.request.seed (steps_of p) (plain_steps p asked) h.0);
}
none_by p closed tries (ends.Open number best) are asked plain h e = absurd (by p.request.take best e)
  where
    by : (take : Bool) (best : Option (List ℕ)) → cond take (by_best p number best) (Unfinished number) ≡ NoSelection → ⊥
    by false best e = cc
    by true None e = cc
    by true (Some q) e = cc

pub run_none : (p : PlainPlan) → AreSteps (steps_of p) → IsForWide p.request → p.bump ≡ None → (run_of p).outcome ≡ NoSelection → IsProvedNone p (run_of p).sections
run_none p are asked plain e = none_by p (rows_of p).closed (rows_of p).tries (rows_of p).end are asked plain (search_ends p are asked) e

-- How the search of rows ends, and what that means.
use Rattle.std.specs.Prelude.{ℕ, ◌≡◌, ◌≤◌, ◌+◌, ◌-◌, Bool, true, false, List, [], ◌∷◌, ◌++◌, nat_lt, Option, Some, None, cond}
use Rattle.std.specs.List.{AllByRecursion}
use Rattle.std.proofs.Common.{refl, sym, ap, subst, ◌∙◌, arith}
use Rattle.std.proofs.lemmas.Bool.{cond_both}
use Rattle.std.proofs.lemmas.List.Sums.{sum_by-cons}
use Rattle.pick_problem.specs.Later.{total_value}
use Rattle.pick_problem.specs.Problem.{PlainProblem}
use Rattle.search_run.specs.Step.{PlainStep}
use Rattle.wide_check.specs.Wide.{IsWideBest, IsWideProblem}
use Rattle.wide_search.specs.WideWalk.{Walk, start, walk}
use Rattle.wide_search.proofs.KeptLaws.{walk_accepted, walk_best}
use Rattle.wide_search.proofs.TryStepLaws.{after_done, all_made, tries_within, walk_pieces}
use Rattle.wide_plan.specs.Claims.{AreEmpty, AreSectionsOf, IsSectionOf, IsUsedUp, open_walk, spent_on}
use Rattle.wide_plan.specs.Rows.{PlainRows, PlainWideSection, done_at, rows_after, section_at}
use Rattle.wide_plan.specs.declared.rows.RowsEnd.{RowsEnd}
use Rattle.wide_plan.specs.declared.rows.RowsEnd.TheVariants.{Found, Nothing, Open}

-- ---- walks from the start

pub start_tries : (p : PlainProblem) → (start p).tries ≡ 0
start_tries p = cond_both (nat_lt (total_value p.items) p.lo) _ _ (λ (w : Walk). w.tries ≡ 0) (λ _. refl) (λ _. refl)

pub tries_most : (p : PlainProblem) (n : ℕ) → (walk p n).tries ≤ n
tries_most p n = omega (arith, (tries_within p (start p) n).1, start_tries p)

pub all_tried : (p : PlainProblem) (n : ℕ) → (walk p n).done ≡ false → (walk p n).tries ≡ n
all_tried p n open' = omega (arith, all_made p (start p) n open', start_tries p)

-- a walk that is done stays as it is
pub settled : (p : PlainProblem) (k n : ℕ) → k ≤ n → (walk p k).done ≡ true → walk p n ≡ walk p k
settled p k n le over =
    let e : n ≡ k + (n - k) = omega (arith, le) in
    ap (walk p) e ∙ (sym (walk_pieces p k (n - k)) ∙ after_done p (walk p k) (n - k) over)

-- ---- finished rows

pub section_means : (x : PlainStep) (n : ℕ) → IsWideProblem x.problem → (walk x.problem n).done ≡ true → IsSectionOf x (section_at x (walk x.problem n))
section_means x n is over = record {
  row = refl;
  digest = refl;
  best = walk_best x.problem is n over;
  accepted = ((walk x.problem n).tokens, refl, walk_accepted x.problem is n over);
}

abbrev pub IsOver : ℕ → PlainStep → Type 0
IsOver n x = (walk x.problem n).done ≡ true

over_later : (k n : ℕ) (steps : List PlainStep) → k ≤ n → AllByRecursion (IsOver k) steps → AllByRecursion (IsOver n) steps
over_later k n [] le over = tt
over_later k n (x ∷ steps) le over = (ap (λ (w : Walk). w.done) (settled x.problem k n le over.0) ∙ over.0, over_later k n steps le over.1)

spent_later : (k n : ℕ) (steps : List PlainStep) → k ≤ n → AllByRecursion (IsOver k) steps → spent_on n steps ≡ spent_on k steps
spent_later k n [] le over = refl
spent_later k n (x ∷ steps) le over =
    omega (
      arith,
      sum_by-cons (λ (y : PlainStep). (walk y.problem n).tries) x steps,
      sum_by-cons (λ (y : PlainStep). (walk y.problem k).tries) x steps,
      ap (λ (w : Walk). w.tries) (settled x.problem k n le over.0),
      spent_later k n steps le over.1,
    )

-- ---- the end

-- The first row that has a selection, with the best of these: those before it have none, and all are finished.
pub record IsFoundAt (steps : List PlainStep) (closed : List PlainWideSection) (number : ℕ) (q : List ℕ) : Type 0 where
  pub front : List PlainStep
  pub step : PlainStep
  pub rest : List PlainStep
  pub parts : steps ≡ front ++ step ∷ rest
  pub row : step.row ≡ number
  pub empty : AreEmpty front
  pub best : IsWideBest step.problem (Some q)
  pub sections : AreSectionsOf (front ++ step ∷ []) closed

-- The tries are used up in the row of this number, whose best so far is this.
pub record IsOpenAt (steps : List PlainStep) (n : ℕ) (closed : List PlainWideSection) (tries number : ℕ) (best : Option (List ℕ)) : Type 0 where
  pub used_up : IsUsedUp steps n closed tries
  pub row : used_up.step.row ≡ number
  pub met : (open_walk steps n closed tries used_up).best ≡ best

abbrev pub Ended : List PlainStep → ℕ → List PlainWideSection → ℕ → RowsEnd → Type 0
Ended steps n closed tries (Found number q) = IsFoundAt steps closed number q
Ended steps n closed tries Nothing = AreEmpty steps × AreSectionsOf steps closed
Ended steps n closed tries (Open number best) = IsOpenAt steps n closed tries number best

abbrev pub EndedAs : List PlainStep → ℕ → PlainRows → Type 0
EndedAs steps n r = Ended steps n r.closed r.tries r.end

-- the first row is open
open_first : (x : PlainStep) (rest : List PlainStep) (n : ℕ) (best : Option (List ℕ)) → (walk x.problem n).done ≡ false → (walk x.problem n).best ≡ best → IsOpenAt (x ∷ rest) n [] (walk x.problem n).tries x.row best
open_first x rest n best going is =
    let none : n - spent_on n [] ≡ n = omega arith in
    let made : (walk x.problem n).tries ≡ n = all_tried x.problem n going in
    let same : (walk x.problem (n - spent_on n [])).tries ≡ (walk x.problem n).tries = ap (λ (m : ℕ). (walk x.problem m).tries) none in
    record {
      used_up = record {
        front = [];
        step = x;
        rest = rest;
        parts = refl;
        empty = tt;
        over = tt;
        sections = tt;
        made = made;
        spent = omega (arith, same, made);
        going = ap (λ (m : ℕ). (walk x.problem m).done) none ∙ going;
      };
      row = refl;
      met = ap (λ (m : ℕ). (walk x.problem m).best) none ∙ is;
    }

-- behind a first row that is finished and has none
open_behind : (x : PlainStep) (rest : List PlainStep) (n : ℕ) (closed : List PlainWideSection) (tries number : ℕ) (best : Option (List ℕ)) → (walk x.problem n).done ≡ true → IsWideBest x.problem None → IsSectionOf x (section_at x (walk x.problem n))
    → IsOpenAt rest (n - (walk x.problem n).tries) closed tries number best → IsOpenAt (x ∷ rest) n (section_at x (walk x.problem n) ∷ closed) ((walk x.problem n).tries + tries) number best
open_behind x rest n closed tries number best over none section h =
    let w = walk x.problem n in
    let u = h.used_up in
    let k = n - w.tries in
    let most : w.tries ≤ n = tries_most x.problem n in
    let le : k ≤ n = omega arith in
    let cons = sum_by-cons (λ (y : PlainStep). (walk y.problem n).tries) x u.front in
    let later = spent_later k n u.front le u.over in
    let left : n - spent_on n (x ∷ u.front) ≡ k - spent_on k u.front = omega (arith, cons, later) in
    let same : (walk u.step.problem (n - spent_on n (x ∷ u.front))).tries ≡ (walk u.step.problem (k - spent_on k u.front)).tries = ap (λ (m : ℕ). (walk u.step.problem m).tries) left in
    record {
      used_up = record {
        front = x ∷ u.front;
        step = u.step;
        rest = u.rest;
        parts = ap (λ (xs : List PlainStep). x ∷ xs) u.parts;
        empty = (none, u.empty);
        over = (over, over_later k n u.front le u.over);
        sections = (section, u.sections);
        made = omega (arith, u.made, most);
        spent = omega (arith, cons, later, same, u.spent, most);
        going = ap (λ (m : ℕ). (walk u.step.problem m).done) left ∙ u.going;
      };
      row = h.row;
      met = ap (λ (m : ℕ). (walk u.step.problem m).best) left ∙ h.met;
    }

ended_behind : (x : PlainStep) (rest : List PlainStep) (n : ℕ) (closed : List PlainWideSection) (tries : ℕ) (end : RowsEnd) → (walk x.problem n).done ≡ true → IsWideBest x.problem None → IsSectionOf x (section_at x (walk x.problem n))
    → Ended rest (n - (walk x.problem n).tries) closed tries end → Ended (x ∷ rest) n (section_at x (walk x.problem n) ∷ closed) ((walk x.problem n).tries + tries) end
ended_behind x rest n closed tries (Found number q) over none section h = record {
  front = x ∷ h.front;
  step = h.step;
  rest = h.rest;
  parts = ap (λ (xs : List PlainStep). x ∷ xs) h.parts;
  row = h.row;
  empty = (none, h.empty);
  best = h.best;
  sections = (section, h.sections);
}
ended_behind x rest n closed tries Nothing over none section h = ((none, h.0), (section, h.1))
ended_behind x rest n closed tries (Open number best) over none section h = open_behind x rest n closed tries number best over none section h

by_walk : (x : PlainStep) (rest : List PlainStep) (n : ℕ) (r : PlainRows) → IsWideProblem x.problem → EndedAs rest (n - (walk x.problem n).tries) r → (done : Bool) (best : Option (List ℕ)) → (walk x.problem n).done ≡ done → (walk x.problem n).best ≡ best
    → EndedAs (x ∷ rest) n (cond done (done_at x (walk x.problem n) r best) (record { closed = []; end = Open x.row best; tries = (walk x.problem n).tries }))
by_walk x rest n r is again false best going met = open_first x rest n best going met
by_walk x rest n r is again true None over met =
    let none : IsWideBest x.problem None = subst (IsWideBest x.problem) met (walk_best x.problem is n over) in
    ended_behind x rest n r.closed r.tries r.end over none (section_means x n is over) again
by_walk x rest n r is again true (Some q) over met = record {
  front = [];
  step = x;
  rest = rest;
  parts = refl;
  row = refl;
  empty = tt;
  best = subst (IsWideBest x.problem) met (walk_best x.problem is n over);
  sections = (section_means x n is over, tt);
}

pub rows_end : (steps : List PlainStep) (n : ℕ) → AllByRecursion (λ (x : PlainStep). IsWideProblem x.problem) steps → EndedAs steps n (rows_after steps n)
rows_end [] n are = (tt, tt)
rows_end (x ∷ rest) n are =
    let w = walk x.problem n in
    by_walk x rest n (rows_after rest (n - w.tries)) are.0 (rows_end rest (n - w.tries) are.1) w.done w.best refl refl

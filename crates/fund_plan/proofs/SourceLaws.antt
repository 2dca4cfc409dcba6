-- Where the result that is taken comes from.
use Rattle.std.specs.Prelude.{ℕ, ◌≡◌, ◌++◌, Bool, true, false, List, [], ◌∷◌, Contains, Some, None}
use Rattle.std.proofs.Common.{sym, ap, subst, ◌∙◌}
use Rattle.std.proofs.lemmas.List.Elements.{Contains-append_left, Contains-append_right}
use Rattle.fund_base.proofs.Lists.{in_tail}
use Rattle.output_groups.proofs.Members.{head_in}
use Rattle.output_groups.specs.declared.rows.Row.{Row}
use Rattle.closing_log.specs.declared.log.Stage.{Stage}
use Rattle.pick_problem.specs.Best.{IsBest}
use Rattle.pick_problem.specs.Problem.{PlainProblem}
use Rattle.random_draw.specs.Draw.{draw_of}
use Rattle.search_run.specs.Answer.{AreResults, IsFirstTaken, IsResult, IsResultBy}
use Rattle.search_run.specs.Found.{PlainFound, found_at}
use Rattle.search_run.specs.Step.{PlainStep, is_drawn}
use Rattle.fund_steps.specs.Plan.{PlainPlan, ladder_in}
use Rattle.fund_plan.specs.Chosen.{row_among, row_of}
use Rattle.fund_plan.specs.Steps.{problem_at, steps_of}
use Rattle.fund_plan.proofs.RowLaws.{numbered, step_of}

-- ---- the problem of a step is that of its row and stage

pub own_problem : (p : PlainPlan) (x : PlainStep) → Contains (steps_of p) x → x.problem ≡ problem_at p (row_of p x.row) x.stage
own_problem p x h =
    let at = step_of p x h in
    let problem : x.problem ≡ problem_at p at.row at.turn.stage = ap (λ (y : PlainStep). y.problem) at.is in
    let stage : x.stage ≡ at.turn.stage = ap (λ (y : PlainStep). y.stage) at.is in
    let number : x.row ≡ at.row.number = ap (λ (y : PlainStep). y.row) at.is in
    let row : row_of p x.row ≡ at.row = ap (row_among (ladder_in p)) number ∙ (numbered p at.row at.in_ladder).0 in
    problem ∙ ap (λ (r : Row). problem_at p r at.turn.stage) (sym row) ∙ ap (λ (s : Stage). problem_at p (row_of p x.row) s) (sym stage)

-- ---- a result that is taken is that of a step

record HasSource (seed : List ℕ) (steps : List PlainStep) (f : PlainFound) : Type 0 where
  step : PlainStep
  there : Contains steps step
  is : f ≡ found_at step f.places
  result : IsResult seed step (Some f.places)

source_later : (seed : List ℕ) (x : PlainStep) (xs : List PlainStep) (f : PlainFound) → HasSource seed xs f → HasSource seed (x ∷ xs) f
source_later seed x xs f h = record { step = h.step; there = in_tail x xs h.step h.there; is = h.is; result = h.result }

-- each of the results of steps is that of one of them
sources : (seed : List ℕ) (steps : List PlainStep) (fs front rest : List PlainFound) (f : PlainFound) → AreResults seed steps fs → fs ≡ front ++ f ∷ rest → HasSource seed steps f
sources seed [] fs [] rest f h e = absurd (let x = sym h ∙ e in cc)
sources seed [] fs (g ∷ front) rest f h e = absurd (let x = sym h ∙ e in cc)
sources seed (x ∷ xs) fs front rest f (None, rr, (gs, parts, more)) e = source_later seed x xs f (sources seed xs gs front rest f more (sym parts ∙ e))
sources seed (x ∷ xs) fs [] rest f (Some q, rr, (gs, parts, more)) e =
    let same : found_at x q ≡ f = let y = sym parts ∙ e in cc in
    record {
      step = x;
      there = head_in x xs;
      is = sym same ∙ ap (λ (g : PlainFound). found_at x g.places) same;
      result = subst (λ (g : PlainFound). IsResult seed x (Some g.places)) same rr;
    }
sources seed (x ∷ xs) fs (g ∷ front) rest f (Some q, rr, (gs, parts, more)) e =
    source_later seed x xs f (sources seed xs gs front rest f more (let y = sym parts ∙ e in cc))

-- what the result that is taken first says of the problem of its row and stage
pub record IsOwn (p : PlainPlan) (f : PlainFound) : Type 0 where
  pub step : PlainStep
  pub drawn : is_drawn f.stage ≡ is_drawn step.stage
  pub problem : step.problem ≡ problem_at p (row_of p f.row) f.stage
  pub result : IsResult p.request.seed step (Some f.places)

pub own_result : (p : PlainPlan) (f : PlainFound) → IsFirstTaken p.request.seed (steps_of p) f → IsOwn p f
own_result p f first =
    let source = sources p.request.seed first.column first.found first.taken.front first.taken.rest f first.results first.taken.parts in
    let x = source.step in
    let there : Contains (steps_of p) x = subst (λ (xs : List PlainStep). Contains xs x) (sym first.parts)
    (Contains-append_right first.front (first.column ++ first.rest) x (Contains-append_left first.column first.rest x source.there)) in
    let row : f.row ≡ x.row = ap (λ (g : PlainFound). g.row) source.is in
    let stage : f.stage ≡ x.stage = ap (λ (g : PlainFound). g.stage) source.is in
    record {
      step = x;
      drawn = ap is_drawn stage;
      problem = own_problem p x there ∙ ap (λ (m : ℕ). problem_at p (row_of p m) x.stage) (sym row) ∙ ap (λ (s : Stage). problem_at p (row_of p f.row) s) (sym stage);
      result = source.result;
    }

pub best_of : (p : PlainPlan) (f : PlainFound) → is_drawn f.stage ≡ false → IsOwn p f → IsBest (problem_at p (row_of p f.row) f.stage) (Some f.places)
best_of p f searched own =
    subst (λ (q : PlainProblem). IsBest q (Some f.places)) own.problem
    (subst (λ (b : Bool). IsResultBy b p.request.seed own.step (Some f.places)) (sym own.drawn ∙ searched) own.result)

pub drawn_of : (p : PlainPlan) (f : PlainFound) → is_drawn f.stage ≡ true → IsOwn p f → draw_of (problem_at p (row_of p f.row) f.stage) p.request.seed ≡ Some f.places
drawn_of p f drawn own =
    let is : Some f.places ≡ draw_of own.step.problem p.request.seed = subst (λ (b : Bool). IsResultBy b p.request.seed own.step (Some f.places)) (sym own.drawn ∙ drawn) own.result in
    sym (is ∙ ap (λ (q : PlainProblem). draw_of q p.request.seed) own.problem)

-- The answer of a plan is a result of one of its steps.
use Rattle.std.specs.Prelude.{ℕ, ◌≡◌, Bool, true, false, List, [], ◌∷◌, ◌++◌, Option, Some, None}
use Rattle.std.specs.List.{AllByRecursion}
use Rattle.std.proofs.Common.{refl, sym, subst, ◌∙◌, append_assoc}
use Rattle.pick_problem.specs.Admissible.{IsFit}
use Rattle.pick_problem.specs.Best.{IsBest}
use Rattle.search_run.proofs.StandLaws.{draw_fits, results-append, results_of, step_here}
use Rattle.search_run.specs.Answer.{AreResults, IsAnswer, IsResult, IsResultBy}
use Rattle.search_run.specs.Found.{IsResultOf, PlainFound, found_of}
use Rattle.search_run.specs.Stands.{IsEndOf}
use Rattle.search_run.specs.Step.{AreSteps, IsStep, PlainStep, is_drawn}
use Rattle.search_run.specs.declared.ending.End.TheVariants as ends

pub best_fits : (x : PlainStep) (r : Option (List ℕ)) → IsBest x.problem r → IsFit x.problem r
best_fits x None h = tt
best_fits x (Some q) h = h.0

result_fits : (seed : List ℕ) (x : PlainStep) (r : Option (List ℕ)) → IsStep x → IsResult seed x r → IsFit x.problem r
result_fits seed x r is h = by (is_drawn x.stage) refl h
  where
    by : (b : Bool) → is_drawn x.stage ≡ b → IsResultBy b seed x r → IsFit x.problem r
    by true d e = subst (IsFit x.problem) (sym e) (draw_fits seed x is d)
    by false d best = best_fits x r best

all_results : (seed : List ℕ) (steps front column rest : List PlainStep) (fs : List PlainFound) → AreSteps steps → steps ≡ front ++ (column ++ rest) → AreResults seed column fs → AllByRecursion (IsResultOf steps) fs
all_results seed steps front [] rest fs are e h = subst (AllByRecursion (IsResultOf steps)) (sym h) tt
all_results seed steps front (x ∷ xs) rest fs are e (r, rr, (gs, parts, more)) =
    let fine : IsStep x = step_here front (xs ++ rest) x (subst AreSteps e are) in
    let mine : AllByRecursion (IsResultOf steps) (found_of x r) = results_of steps front (xs ++ rest) x r e (result_fits seed x r fine rr) in
    let later : AllByRecursion (IsResultOf steps) gs = all_results seed steps (front ++ x ∷ []) xs rest gs are (e ∙ sym (append_assoc front (x ∷ []) (xs ++ rest))) more in
    subst (AllByRecursion (IsResultOf steps)) (sym parts) (results-append steps (found_of x r) gs mine later)

among : (steps : List PlainStep) (front rest : List PlainFound) (f : PlainFound) → AllByRecursion (IsResultOf steps) (front ++ f ∷ rest) → IsResultOf steps f
among steps [] rest f h = h.0
among steps (g ∷ front) rest f h = among steps front rest f h.1

pub answer_ends : (seed : List ℕ) (steps : List PlainStep) (o : Option PlainFound) → AreSteps steps → IsAnswer seed steps o → IsEndOf steps (ends.Ended o)
answer_ends seed steps None are h = tt
answer_ends seed steps (Some f) are h =
    let all : AllByRecursion (IsResultOf steps) h.found = all_results seed steps h.front h.column h.rest h.found are h.parts h.results in
    among steps h.taken.front h.taken.rest f (subst (AllByRecursion (IsResultOf steps)) h.taken.parts all)

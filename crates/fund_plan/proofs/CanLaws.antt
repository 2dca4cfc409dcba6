-- What is saved of a plan can be written.
use Rattle.std.specs.Prelude.{ℕ, ◌≡◌, Bool, true, false, List, [], ◌∷◌, ◌++◌, Option, Some, None}
use Rattle.std.proofs.Common.{refl, sym, ap, subst, ◌∙◌}
use Rattle.closing_log.specs.LogText.{IsAnswer, IsSearched}
use Rattle.closing_log.specs.declared.log.Stage.{Stage}
use Rattle.closing_log.specs.declared.log.Stage.TheVariants.{Presets, Changeless, LeanBig, Draw, LeanSmall, Wide}
use Rattle.pick_problem.specs.Admissible.{IsFit}
use Rattle.pick_problem.specs.Problem.{PlainProblem}
use Rattle.pick_problem.specs.Walk.{IsPosition, Walk, upward}
use Rattle.search_run.proofs.StandLaws.{step_here, walk_was}
use Rattle.search_run.specs.Kept.{PlainSaved, saved_by, saved_of}
use Rattle.search_run.specs.Run.{Stand, drawn}
use Rattle.search_run.specs.Stands.{IsKeptWalk, IsStand, IsWalkAt, IsWalkBy}
use Rattle.search_run.specs.Step.{AreSteps, FitsStage, IsStep, PlainStep, is_drawn}

searched_stage : (stage : Stage) (p : PlainProblem) → FitsStage stage p → is_drawn stage ≡ false → IsSearched stage
searched_stage Presets p h e = absurd h
searched_stage Changeless p h e = tt
searched_stage LeanBig p h e = tt
searched_stage Draw p h e = absurd (cc)
searched_stage LeanSmall p h e = tt
searched_stage Wide p h e = absurd h

best_some : (p : PlainProblem) (best : Option (List ℕ)) → IsFit p best → IsAnswer best
best_some p None h = tt
best_some p (Some q) h = h.some

-- a walk that goes on is that of a search, and its best is none or admissible
record IsSearchAt (x : PlainStep) (w : Walk) : Type 0 where
  searched : is_drawn x.stage ≡ false
  fit : IsFit x.problem w.best

search_at : (seed : List ℕ) (steps : List PlainStep) (s : Stand) (x : PlainStep) (rest : List PlainStep) → IsStand seed steps s → s.left ≡ x ∷ rest → s.walk.done ≡ false → IsSearchAt x s.walk
search_at seed steps s x rest h left going = by (is_drawn x.stage) refl (subst (λ (l : List PlainStep). IsWalkAt IsKeptWalk seed l s.before s.walk) left h.walk)
  where
    by : (b : Bool) → is_drawn x.stage ≡ b → IsWalkBy (is_drawn x.stage) IsKeptWalk seed x s.before s.walk → IsSearchAt x s.walk
    by true is walk =
        let is_one : s.walk ≡ drawn x.problem seed = walk_was IsKeptWalk true seed x s.before s.walk is walk in
        let both : false ≡ true = sym going ∙ ap (λ (v : Walk). v.done) is_one in
        absurd (cc)
    by false is walk =
        let position : IsPosition x.problem s.walk = walk_was IsKeptWalk false seed x s.before s.walk is walk in
        record { searched = is; fit = position.fit }

-- what is saved of a stand names a search, and its best isn't empty
pub record IsWritable (k : PlainSaved) : Type 0 where
  pub stage : IsSearched k.stage
  pub best : IsAnswer k.best

pub writable : (seed : List ℕ) (steps : List PlainStep) (s : Stand) (k : PlainSaved) → AreSteps steps → IsStand seed steps s → s.walk.done ≡ false → saved_of s ≡ Some k → IsWritable k
writable seed steps s k are h going e = by s.left refl e
  where
    by : (left : List PlainStep) → s.left ≡ left → saved_by s left ≡ Some k → IsWritable k
    by [] is e = absurd (cc)
    by (x ∷ rest) is e =
        let same : record { tries = s.past.tries; row = x.row; stage = x.stage; chosen = upward s.walk.stack; next = s.walk.next; best = s.walk.best } ≡ k = cc in
        let at = search_at seed steps s x rest h is going in
        let step : IsStep x = step_here h.left.0 rest x (subst AreSteps (h.left.1 ∙ ap (λ (l : List PlainStep). h.left.0 ++ l) is) are) in
        record {
          stage = subst (λ (t : PlainSaved). IsSearched t.stage) same (searched_stage x.stage x.problem step.stage at.searched);
          best = subst (λ (t : PlainSaved). IsAnswer t.best) same (best_some x.problem s.walk.best at.fit);
        }

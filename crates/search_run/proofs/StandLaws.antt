-- Where a run may stand, it stands whatever tries it makes.
use Rattle.std.specs.Prelude.{ℕ, ◌≡◌, Bool, true, false, List, [], ◌∷◌, ◌++◌, length, Option, Some, None}
use Rattle.std.specs.List.{AllByRecursion}
use Rattle.std.proofs.Common.{refl, sym, ap, subst, ◌∙◌, append_assoc}
use Rattle.std.proofs.lemmas.List.{append-nil}
use Rattle.closing_log.specs.Log.{PlainSection}
use Rattle.closing_log.specs.declared.log.Stage.{Stage}
use Rattle.closing_log.specs.declared.log.Stage.TheVariants.{Presets, Changeless, LeanBig, Draw, LeanSmall, Wide}
use Rattle.pick_problem.specs.declared.item.Kind.TheVariants.{Lean}
use Rattle.pick_problem.specs.Admissible.{IsFit}
use Rattle.pick_problem.specs.Problem.{PlainProblem}
use Rattle.pick_problem.specs.Walk.{Walk, after_tries, start}
use Rattle.pick_problem.proofs.Deciding.{by_test, if_cases, if_true, if_false}
use Rattle.pick_problem.proofs.TryStepLaws.{after_done}
use Rattle.random_draw.specs.Draw.{draw_of}
use Rattle.random_draw.specs.Order.{order_of}
use Rattle.random_draw.proofs.Fresh.{found_fits}
use Rattle.random_draw.proofs.OrderLaws.{order_fresh}
use Rattle.search_run.specs.Found.{PlainFound, IsResultOf, found_of}
use Rattle.search_run.specs.Kept.{Along, At, answered, comes_to, first_search, to_search}
use Rattle.search_run.specs.Leads.{at_walk, behind}
use Rattle.search_run.specs.Run.{Past, beginning, begun, begun_first, drawn, ends, onward, passed, section_at, sections_of, tried}
use Rattle.search_run.specs.Stands.{IsStandBy, IsWalkAt, IsWalkBy}
use Rattle.search_run.specs.Step.{AreSteps, FitsStage, IsStep, PlainStep, is_drawn}
use Rattle.search_run.proofs.ComeLaws.{along-append, at_step, behind_step, comes-append, draw_first, search_first}
use Rattle.search_run.proofs.RunLaws.{onward_by}

-- ---- draws

pub lean_of : (s : Stage) (p : PlainProblem) → is_drawn s ≡ true → FitsStage s p → p.kind ≡ Lean
lean_of Presets p e h = absurd h
lean_of Changeless p e h = absurd (cc)
lean_of LeanBig p e h = h
lean_of Draw p e h = h
lean_of LeanSmall p e h = h
lean_of Wide p e h = absurd h

-- what is drawn is admissible
pub draw_fits : (seed : List ℕ) (x : PlainStep) → IsStep x → is_drawn x.stage ≡ true → IsFit x.problem (draw_of x.problem seed)
unfolding draw_of
draw_fits seed x is d = found_fits x.problem is.problem (lean_of x.stage x.problem d is.stage) [] (order_of seed (length x.problem.items)) tt (order_fresh x.problem seed)

-- ---- results

pub step_here : (front rest : List PlainStep) (x : PlainStep) → AreSteps (front ++ x ∷ rest) → IsStep x
step_here [] rest x h = h.0
step_here (y ∷ ys) rest x h = step_here ys rest x h.1

pub results_of : (steps front rest : List PlainStep) (x : PlainStep) (r : Option (List ℕ)) → steps ≡ front ++ x ∷ rest → IsFit x.problem r → AllByRecursion (IsResultOf steps) (found_of x r)
results_of steps front rest x None e h = tt
results_of steps front rest x (Some q) e h = (record { front = front; step = x; rest = rest; parts = e; is = refl; admissible = h }, tt)

pub results-append : (steps : List PlainStep) (fs gs : List PlainFound) → AllByRecursion (IsResultOf steps) fs → AllByRecursion (IsResultOf steps) gs → AllByRecursion (IsResultOf steps) (fs ++ gs)
results-append steps [] gs h k = k
results-append steps (f ∷ fs) gs h k = (h.0, results-append steps fs gs h.1 k)

-- ---- tries keep it

pub walk_is : (Of : PlainStep → List ℕ → Walk → Type 0) (b : Bool) (seed : List ℕ) (x : PlainStep) (before : List ℕ) (w : Walk) → is_drawn x.stage ≡ b → IsWalkBy b Of seed x before w → IsWalkBy (is_drawn x.stage) Of seed x before w
walk_is Of b seed x before w e h = subst (λ (c : Bool). IsWalkBy c Of seed x before w) (sym e) h

pub walk_was : (Of : PlainStep → List ℕ → Walk → Type 0) (b : Bool) (seed : List ℕ) (x : PlainStep) (before : List ℕ) (w : Walk) → is_drawn x.stage ≡ b → IsWalkBy (is_drawn x.stage) Of seed x before w → IsWalkBy b Of seed x before w
walk_was Of b seed x before w e h = subst (λ (c : Bool). IsWalkBy c Of seed x before w) e h

module _ (Closed : At → PlainSection → Type 0) (Of : PlainStep → List ℕ → Walk → Type 0) (seed : List ℕ) (steps : List PlainStep) (are : AreSteps steps)
    (begins : (x : PlainStep) → IsStep x → Of x [] (start x.problem))
    (tries : (x : PlainStep) (before : List ℕ) (w : Walk) (m : ℕ) → IsStep x → Of x before w → Of x before (after_tries x.problem w m))
    (closes : (x : PlainStep) (rest : List PlainStep) (found : List PlainFound) (before : List ℕ) (w : Walk) → IsStep x → Of x before w → w.done ≡ true → Closed (at_step x rest found) (section_at x before w))
    (fits : (x : PlainStep) (before : List ℕ) (w : Walk) → IsStep x → Of x before w → IsFit x.problem w.best) where
  begun_walk : (left : List PlainStep) → AreSteps left → IsWalkAt Of seed left [] (begun_first seed left)
  begun_walk [] h = tt
  begun_walk (x ∷ rest) h =
      by_test (IsWalkBy (is_drawn x.stage) Of seed x [] (begun seed x)) (is_drawn x.stage)
      (λ d. walk_is Of true seed x [] (begun seed x) d (if_true (is_drawn x.stage) _ _ d))
      (λ d. walk_is Of false seed x [] (begun seed x) d (subst (Of x []) (sym (if_false (is_drawn x.stage) _ _ d)) (begins x h.0)))

  walk_goes : (x : PlainStep) (before : List ℕ) (w : Walk) (m : ℕ) → IsStep x → IsWalkBy (is_drawn x.stage) Of seed x before w → IsWalkBy (is_drawn x.stage) Of seed x before (after_tries x.problem w m)
  walk_goes x before w m is h =
      by_test (IsWalkBy (is_drawn x.stage) Of seed x before (after_tries x.problem w m)) (is_drawn x.stage)
      (λ d.
      let drawn_is : w ≡ drawn x.problem seed = walk_was Of true seed x before w d h in
      let done : w.done ≡ true = ap (λ (v : Walk). v.done) drawn_is in
      walk_is Of true seed x before (after_tries x.problem w m) d (after_done x.problem w m done ∙ drawn_is))
      (λ d. walk_is Of false seed x before (after_tries x.problem w m) d (tries x before w m is (walk_was Of false seed x before w d h)))

  pub walk_fits : (x : PlainStep) (before : List ℕ) (w : Walk) → IsStep x → IsWalkBy (is_drawn x.stage) Of seed x before w → IsFit x.problem w.best
  walk_fits x before w is h =
      by_test (IsFit x.problem w.best) (is_drawn x.stage)
      (λ d. subst (λ (v : Walk). IsFit x.problem v.best) (sym (walk_was Of true seed x before w d h)) (draw_fits seed x is d))
      (λ d. fits x before w is (walk_was Of false seed x before w d h))

  pub beginning_stands : IsStandBy Closed Of seed steps (beginning seed steps)
  beginning_stands = record { closed = tt; here = refl; walk = begun_walk steps are; left = ([], refl); found = tt }

  -- behind a step whose walk v is done
  record IsBehind (x : PlainStep) (rest : List PlainStep) (before : List ℕ) (v : Walk) (past : Past) : Type 0 where
    closed : Along Closed seed (first_search seed steps) (past.closed ++ sections_of x before v)
    here : comes_to seed (first_search seed steps) (past.closed ++ sections_of x before v) ≡ behind_step seed x rest (past.found ++ found_of x v.best)

  goes_behind : (x : PlainStep) (rest : List PlainStep) (before : List ℕ) (v : Walk) (past : Past) → IsStep x → v.done ≡ true → IsWalkBy (is_drawn x.stage) Of seed x before v →
      Along Closed seed (first_search seed steps) past.closed → comes_to seed (first_search seed steps) past.closed ≡ to_search seed (x ∷ rest) past.found → IsBehind x rest before v past
  goes_behind x rest before v past is done w closed here =
      by_test (IsBehind x rest before v past) (is_drawn x.stage)
      (λ d.
      let same : past.closed ++ sections_of x before v ≡ past.closed = ap (λ (ss : List PlainSection). past.closed ++ ss) (if_true (is_drawn x.stage) _ _ d) ∙ append-nil past.closed in
      let best : v.best ≡ draw_of x.problem seed = ap (λ (u : Walk). u.best) (walk_was Of true seed x before v d w) in
      record {
        closed = subst (λ (ss : List PlainSection). Along Closed seed (first_search seed steps) ss) (sym same) closed;
        here =
            ap (comes_to seed (first_search seed steps)) same
            ∙ (here ∙ (draw_first seed x rest past.found d ∙ ap (λ (r : Option (List ℕ)). behind_step seed x rest (past.found ++ found_of x r)) (sym best)));
      })
      (λ d.
      let same : past.closed ++ sections_of x before v ≡ past.closed ++ section_at x before v ∷ [] = ap (λ (ss : List PlainSection). past.closed ++ ss) (if_false (is_drawn x.stage) _ _ d) in
      let at : comes_to seed (first_search seed steps) past.closed ≡ at_step x rest past.found = here ∙ search_first seed x rest past.found d in
      let made_section : Along Closed seed (at_step x rest past.found) (section_at x before v ∷ []) = (closes x rest past.found before v is (walk_was Of false seed x before v d w) done, tt) in
      record {
        closed =
            subst (λ (ss : List PlainSection). Along Closed seed (first_search seed steps) ss) (sym same)
            (along-append Closed seed (first_search seed steps) past.closed (section_at x before v ∷ []) closed (subst (λ (a : At). Along Closed seed a (section_at x before v ∷ [])) (sym at) made_section));
        here =
            ap (comes_to seed (first_search seed steps)) same
            ∙ (comes-append seed (first_search seed steps) past.closed (section_at x before v ∷ []) ∙ ap (λ (a : At). answered seed a v.best) at);
      })

  pub walks_on : (x : PlainStep) (rest : List PlainStep) (w : Walk) (before : List ℕ) (past : Past) (n k : ℕ) → IsStandBy Closed Of seed steps (at_walk x rest w before past) → IsStandBy Closed Of seed steps (at_walk x rest (after_tries x.problem w n) before (tried past k))
  walks_on x rest w before past n k h =
      let is : IsStep x = step_here h.left.0 rest x (subst AreSteps h.left.1 are) in
      record { closed = h.closed; here = h.here; walk = walk_goes x before w n is h.walk; left = h.left; found = h.found }

  pub passes_on : (x : PlainStep) (rest : List PlainStep) (w : Walk) (before : List ℕ) (past : Past) → w.done ≡ true → IsStandBy Closed Of seed steps (at_walk x rest w before past) → IsStandBy Closed Of seed steps (behind seed x rest w before past)
  passes_on x rest w before past done h =
      let front : List PlainStep = h.left.0 in
      let parts : steps ≡ front ++ x ∷ rest = h.left.1 in
      let is : IsStep x = step_here front rest x (subst AreSteps parts are) in
      let now : AllByRecursion (IsResultOf steps) (past.found ++ found_of x w.best) = results-append steps past.found (found_of x w.best) h.found (results_of steps front rest x w.best parts (walk_fits x before w is h.walk)) in
      let b : IsBehind x rest before w past = goes_behind x rest before w past is done h.walk h.closed h.here in
      let parts_behind : steps ≡ (front ++ x ∷ []) ++ rest = parts ∙ sym (append_assoc front (x ∷ []) rest) in
      if_cases (IsStandBy Closed Of seed steps) (ends x (past.found ++ found_of x w.best)) _ _
      (λ e. record { closed = b.closed; here = b.here ∙ if_true (ends x (past.found ++ found_of x w.best)) _ _ e; walk = tt; left = (steps, sym (append-nil steps)); found = now })
      (λ e.
      record {
        closed = b.closed;
        here = b.here ∙ if_false (ends x (past.found ++ found_of x w.best)) _ _ e;
        walk = begun_walk rest (steps_behind (front ++ x ∷ []) rest (subst AreSteps parts_behind are));
        left = (front ++ x ∷ [], parts_behind);
        found = now;
      })
    where
      steps_behind : (front rest : List PlainStep) → AreSteps (front ++ rest) → AreSteps rest
      steps_behind [] rest h = h
      steps_behind (y ∷ ys) rest h = steps_behind ys rest h.1

  pub stands_on : (left : List PlainStep) (w : Walk) (before : List ℕ) (past : Past) (m : ℕ) → IsStandBy Closed Of seed steps (record { left = left; walk = w; before = before; past = past }) → IsStandBy Closed Of seed steps (onward seed left w before past m)
  stands_on [] w before past m h = record { closed = h.closed; here = h.here; walk = tt; left = h.left; found = h.found }
  stands_on (x ∷ rest) w before past m h =
      let v : Walk = after_tries x.problem w m in
      let front : List PlainStep = h.left.0 in
      let parts : steps ≡ front ++ x ∷ rest = h.left.1 in
      let is : IsStep x = step_here front rest x (subst AreSteps parts are) in
      let v_is : IsWalkBy (is_drawn x.stage) Of seed x before v = walk_goes x before w m is h.walk in
      let now : AllByRecursion (IsResultOf steps) (past.found ++ found_of x v.best) = results-append steps past.found (found_of x v.best) h.found (results_of steps front rest x v.best parts (walk_fits x before v is v_is)) in
      onward_by (IsStandBy Closed Of seed steps) seed x rest w before past m
      (λ going. record { closed = h.closed; here = h.here; walk = v_is; left = h.left; found = h.found })
      (λ d e.
      let b : IsBehind x rest before v past = goes_behind x rest before v past is d v_is h.closed h.here in
      record { closed = b.closed; here = b.here ∙ if_true (ends x (past.found ++ found_of x v.best)) _ _ e; walk = tt; left = (steps, sym (append-nil steps)); found = now })
      (λ d e.
      let b : IsBehind x rest before v past = goes_behind x rest before v past is d v_is h.closed h.here in
      let parts_behind : steps ≡ (front ++ x ∷ []) ++ rest = parts ∙ sym (append_assoc front (x ∷ []) rest) in
      stands_on rest (begun_first seed rest) [] (passed x before w v past) _
      (record {
        closed = b.closed;
        here = b.here ∙ if_false (ends x (past.found ++ found_of x v.best)) _ _ e;
        walk = begun_walk rest (steps_behind (front ++ x ∷ []) rest (subst AreSteps parts_behind are));
        left = (front ++ x ∷ [], parts_behind);
        found = now;
      }))
    where
      steps_behind : (front rest : List PlainStep) → AreSteps (front ++ rest) → AreSteps rest
      steps_behind [] rest h = h
      steps_behind (y ∷ ys) rest h = steps_behind ys rest h.1

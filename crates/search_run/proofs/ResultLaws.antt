-- What can be gone on from is where a run may stand; and each result is one of a step, and admissible.
use Rattle.std.specs.Prelude.{ℕ, ◌≡◌, ◌+◌, Bool, true, false, List, [], ◌∷◌, ◌++◌, Option, Some, None, Result, Ok, Err, IfOk, if◌then◌else◌}
use Rattle.std.specs.List.{AllByRecursion}
use Rattle.std.proofs.Common.{refl, sym, ap, subst, ◌∙◌, append_assoc}
use Rattle.std.proofs.lemmas.List.{append-nil}
use Rattle.closing_log.specs.Log.{PlainLog, PlainOpen, PlainSection}
use Rattle.pick_problem.specs.Admissible.{IsFit}
use Rattle.pick_problem.specs.Walk.{Walk}
use Rattle.pick_problem.proofs.Deciding.{by_test, if_cases}
use Rattle.random_draw.specs.Draw.{draw_of}
use Rattle.search_run.specs.Found.{PlainFound, IsResultOf, IsTaken, found_of, taken}
use Rattle.search_run.specs.Kept.{Along, At, CanGoOn, IsDueAt, IsFitAt, IsFitFor, IsPositionFor, PlainSaved, answered, answered_by, at_end, comes_to, first_search, is_over, kept_walk, log_of, refreshed, saved_by, saved_of, stand_of, tail_letters, tail_of, to_search}
use Rattle.search_run.specs.Run.{Stand, results_in_column, draws_behind, end_by, end_of, ends, go_on, later_draws, or_unfinished}
use Rattle.search_run.specs.Stands.{IsEndOf, IsKeptWalk, IsStand, IsWalkAt, IsWalkBy}
use Rattle.search_run.specs.Step.{AreSteps, IsStep, PlainStep, is_drawn}
use Rattle.search_run.specs.declared.ending.End.{End}
use Rattle.search_run.specs.declared.ending.End.TheVariants.{Ended}
use Rattle.search_run.proofs.ChoiceLaws.{is_taken}
use Rattle.search_run.proofs.ComeLaws.{IsSearchFirst, answered_search, comes_to_search, search_first}
use Rattle.search_run.proofs.KeptLaws.{kept_is, refreshed_goes_on, same_end, same_log, same_saved}
use Rattle.search_run.proofs.RunLaws.{HasTried, all_tries, runs_add}
use Rattle.search_run.proofs.StandLaws.{draw_fits, results-append, results_of, step_here, walk_is, walk_was}

-- ---- to where a run comes

pub comes_search : (seed : List ℕ) (ss : List PlainSection) (at : At) → IsSearchFirst at.left → IsSearchFirst (comes_to seed at ss).left
comes_search seed [] at h = h
comes_search seed (s ∷ ss) at h = comes_search seed ss (answered seed at s.answer) (answered_search seed at.left at.found s.answer)

search_stays : (seed : List ℕ) (left : List PlainStep) (found : List PlainFound) → IsSearchFirst left → to_search seed left found ≡ record { left = left; found = found }
search_stays seed [] found h = refl
search_stays seed (x ∷ rest) found h = search_first seed x rest found h

along_both : (P Q : At → PlainSection → Type 0) (seed : List ℕ) (at : At) (ss : List PlainSection) → Along P seed at ss → Along Q seed at ss → Along (λ a s. P a s × Q a s) seed at ss
along_both P Q seed at [] h k = tt
along_both P Q seed at (s ∷ ss) h k = ((h.0, k.0), along_both P Q seed (answered seed at s.answer) ss h.1 k.1)

-- the steps that are left are the last ones, and the results are admissible
record IsAtOf (steps : List PlainStep) (at : At) : Type 0 where
  behind : (front : List PlainStep) × (steps ≡ front ++ at.left)
  results : AllByRecursion (IsResultOf steps) at.found

module _ (seed : List ℕ) (steps : List PlainStep) (are : AreSteps steps) where
  next_front : (front rest : List PlainStep) (x : PlainStep) → steps ≡ front ++ x ∷ rest → steps ≡ (front ++ x ∷ []) ++ rest
  next_front front rest x parts = parts ∙ sym (append_assoc front (x ∷ []) rest)

  ended_of : (found : List PlainFound) → AllByRecursion (IsResultOf steps) found → IsAtOf steps (at_end found)
  ended_of found h = record { behind = (steps, sym (append-nil steps)); results = h }

  to_search_of : (left front : List PlainStep) (found : List PlainFound) → steps ≡ front ++ left → AllByRecursion (IsResultOf steps) found → IsAtOf steps (to_search seed left found)
  to_search_of [] front found parts h = ended_of found h
  to_search_of (x ∷ rest) front found parts h =
      let is : IsStep x = step_here front rest x (subst AreSteps parts are) in
      if_cases (IsAtOf steps) (is_drawn x.stage) _ _
      (λ d.
      let now : AllByRecursion (IsResultOf steps) (found ++ found_of x (draw_of x.problem seed)) = results-append steps found (found_of x (draw_of x.problem seed)) h (results_of steps front rest x (draw_of x.problem seed) parts (draw_fits seed x is d)) in
      if_cases (IsAtOf steps) (ends x (found ++ found_of x (draw_of x.problem seed))) _ _
      (λ e. ended_of (found ++ found_of x (draw_of x.problem seed)) now)
      (λ e. to_search_of rest (front ++ x ∷ []) (found ++ found_of x (draw_of x.problem seed)) (next_front front rest x parts) now))
      (λ d. record { behind = (front, parts); results = h })

  answered_of : (left : List PlainStep) (found : List PlainFound) (a : Option (List ℕ)) → IsFitFor left a → IsAtOf steps (record { left = left; found = found }) → IsAtOf steps (answered_by seed left found a)
  answered_of [] found a fit h = absurd fit
  answered_of (x ∷ rest) found a fit h =
      let now : AllByRecursion (IsResultOf steps) (found ++ found_of x a) = results-append steps found (found_of x a) h.results (results_of steps h.behind.0 rest x a h.behind.1 fit) in
      if_cases (IsAtOf steps) (ends x (found ++ found_of x a)) _ _
      (λ e. ended_of (found ++ found_of x a) now)
      (λ e. to_search_of rest (h.behind.0 ++ x ∷ []) (found ++ found_of x a) (next_front h.behind.0 rest x h.behind.1) now)

  along_of : (ss : List PlainSection) (at : At) → Along IsFitAt seed at ss → IsAtOf steps at → IsAtOf steps (comes_to seed at ss)
  along_of [] at fit h = h
  along_of (s ∷ ss) at fit h = along_of ss (answered seed at s.answer) fit.1 (answered_of at.left at.found s.answer fit.0 h)

  kept_walk_at : (left : List PlainStep) (before : List ℕ) (w : Walk) → IsSearchFirst left → IsPositionFor left w → IsWalkAt IsKeptWalk seed left before w
  kept_walk_at [] before w first h = tt
  kept_walk_at (x ∷ rest) before w first h = walk_is IsKeptWalk false seed x before w first h

  pub kept_stands : (k : PlainSaved) (log : PlainLog) → CanGoOn seed steps k log → IsStand seed steps (stand_of seed steps k log)
  kept_stands k log can =
      let at : At = comes_to seed (first_search seed steps) log.closed in
      let first : IsSearchFirst at.left = comes_search seed log.closed (first_search seed steps) (comes_to_search seed steps []) in
      let of : IsAtOf steps at = along_of log.closed (first_search seed steps) can.answers (to_search_of steps [] [] refl tt) in
      record {
        closed = along_both IsDueAt IsFitAt seed (first_search seed steps) log.closed can.closed can.answers;
        here = sym (search_stays seed at.left at.found first);
        walk = kept_walk_at at.left (tail_letters log.tail) (kept_walk k) first can.position;
        left = of.behind;
        found = of.results;
      }

  -- ---- what is at hand

  later_of : (left front : List PlainStep) → steps ≡ front ++ left → AllByRecursion (IsResultOf steps) (later_draws seed left)
  later_of [] front parts = tt
  later_of (y ∷ ys) front parts =
      let is : IsStep y = step_here front ys y (subst AreSteps parts are) in
      results-append steps (if is_drawn y.stage then found_of y (draw_of y.problem seed) else []) (if y.last then [] else later_draws seed ys)
      (if_cases (AllByRecursion (IsResultOf steps)) (is_drawn y.stage) (found_of y (draw_of y.problem seed)) [] (λ d. results_of steps front ys y (draw_of y.problem seed) parts (draw_fits seed y is d)) (λ d. tt))
      (if_cases (AllByRecursion (IsResultOf steps)) y.last [] (later_draws seed ys) (λ e. tt) (λ e. later_of ys (front ++ y ∷ []) (next_front front ys y parts)))

  best_of_walk : (x : PlainStep) (before : List ℕ) (w : Walk) → IsStep x → IsWalkBy (is_drawn x.stage) IsKeptWalk seed x before w → IsFit x.problem w.best
  best_of_walk x before w is h =
      by_test (IsFit x.problem w.best) (is_drawn x.stage)
      (λ d. subst (λ (v : Walk). IsFit x.problem v.best) (sym (walk_was IsKeptWalk true seed x before w d h)) (draw_fits seed x is d))
      (λ d. (walk_was IsKeptWalk false seed x before w d h).fit)

  hand_of : (s : Stand) (left : List PlainStep) → IsWalkAt IsKeptWalk seed left s.before s.walk → (front : List PlainStep) → steps ≡ front ++ left → AllByRecursion (IsResultOf steps) s.past.found → AllByRecursion (IsResultOf steps) (results_in_column seed s left)
  hand_of s [] walk front parts found = tt
  hand_of s (x ∷ rest) walk front parts found =
      let is : IsStep x = step_here front rest x (subst AreSteps parts are) in
      results-append steps s.past.found (found_of x s.walk.best ++ draws_behind seed x rest) found
      (results-append steps (found_of x s.walk.best) (draws_behind seed x rest) (results_of steps front rest x s.walk.best parts (best_of_walk x s.before s.walk is walk))
      (if_cases (AllByRecursion (IsResultOf steps)) x.last [] (later_draws seed rest) (λ e. tt) (λ e. later_of rest (front ++ x ∷ []) (next_front front rest x parts))))

  of_all : (front rest : List PlainFound) (f : PlainFound) → AllByRecursion (IsResultOf steps) (front ++ f ∷ rest) → IsResultOf steps f
  of_all [] rest f h = h.0
  of_all (g ∷ gs) rest f h = of_all gs rest f h.1

  taken_of : (fs : List PlainFound) (f : PlainFound) → taken fs ≡ Some f → AllByRecursion (IsResultOf steps) fs → IsResultOf steps f
  taken_of fs f e h = let t : IsTaken fs f = is_taken fs f e in of_all t.front t.rest f (subst (AllByRecursion (IsResultOf steps)) t.parts h)

  ended_is : (fs : List PlainFound) (o : Option PlainFound) → taken fs ≡ o → AllByRecursion (IsResultOf steps) fs → IsEndOf steps (Ended o)
  ended_is fs None e h = tt
  ended_is fs (Some f) e h = taken_of fs f e h

  partial_is : (fs : List PlainFound) (o : Option PlainFound) → taken fs ≡ o → AllByRecursion (IsResultOf steps) fs → IsEndOf steps (or_unfinished o)
  partial_is fs None e h = tt
  partial_is fs (Some f) e h = taken_of fs f e h

  end_is : (take : Bool) (s : Stand) (left : List PlainStep) → IsWalkAt IsKeptWalk seed left s.before s.walk → (front : List PlainStep) → steps ≡ front ++ left → AllByRecursion (IsResultOf steps) s.past.found → IsEndOf steps (end_by take seed s left)
  end_is take s [] walk front parts found = ended_is s.past.found (taken s.past.found) refl found
  end_is true s (x ∷ rest) walk front parts found = partial_is (results_in_column seed s (x ∷ rest)) (taken (results_in_column seed s (x ∷ rest))) refl (hand_of s (x ∷ rest) walk front parts found)
  end_is false s (x ∷ rest) walk front parts found = tt

  pub ends_of : (take : Bool) (s : Stand) → IsStand seed steps s → IsEndOf steps (end_of take seed s)
  ends_of take s h = end_is take s s.left h.walk h.left.0 h.left.1 h.found

pub ends_well : {X : Type 0} (seed : List ℕ) (steps : List PlainStep) (s : Stand) (take : Bool) (r : Result End X) → AreSteps steps → IsStand seed steps s → IfOk r (λ e. e ≡ end_of take seed s) → IfOk r (λ e. IsEndOf steps e)
ends_well seed steps s take (Ok e) are h is = subst (IsEndOf steps) (sym is) (ends_of seed steps are take s h)
ends_well seed steps s take (Err x) are h is = tt

-- ---- the log

log_by : (s : Stand) (left : List PlainStep) (closed : List PlainSection) (o : PlainOpen) → closed ≡ s.past.closed → Some o ≡ tail_of s left → ◌≡◌ {A = PlainLog} (record { closed = closed; tail = Some o; ended = false }) (record { closed = s.past.closed; tail = tail_of s left; ended = is_over left })
log_by s [] closed o e h = absurd (cc)
log_by s (x ∷ rest) closed o e h = ap (λ (ss : List PlainSection). record { closed = ss; tail = Some o; ended = false }) e ∙ ap (λ (t : Option PlainOpen). record { closed = s.past.closed; tail = t; ended = false }) h

ended_by : (s : Stand) (left : List PlainStep) (closed : List PlainSection) → closed ≡ s.past.closed → None ≡ tail_of s left → ◌≡◌ {A = PlainLog} (record { closed = closed; tail = None; ended = true }) (record { closed = s.past.closed; tail = tail_of s left; ended = is_over left })
ended_by s [] closed e h = ap (λ (ss : List PlainSection). record { closed = ss; tail = None; ended = true }) e
ended_by s (x ∷ rest) closed e h = absurd (cc)

log_not : (b : Bool) (s : Stand) → b ≡ false → log_of false s ≡ log_of b s
log_not b s e = ap (λ (c : Bool). log_of c s) (sym e)

pub log_goes : (partial : Bool) (s : Stand) (closed : List PlainSection) (o : PlainOpen) → partial ≡ false → closed ≡ s.past.closed → Some o ≡ tail_of s s.left → record { closed = closed; tail = Some o; ended = false } ≡ log_of partial s
log_goes partial s closed o p e h = log_by s s.left closed o e h ∙ log_not partial s p

pub log_ends : (partial : Bool) (s : Stand) (closed : List PlainSection) → partial ≡ false → closed ≡ s.past.closed → None ≡ tail_of s s.left → record { closed = closed; tail = None; ended = true } ≡ log_of partial s
log_ends partial s closed p e h = ended_by s s.left closed e h ∙ log_not partial s p

-- ---- going on from what is kept

left_by : (s : Stand) (left : List PlainStep) (k : PlainSaved) → saved_by s left ≡ Some k → (x : PlainStep) × ((rest : List PlainStep) × (left ≡ x ∷ rest))
left_by s [] k e = absurd (cc)
left_by s (x ∷ rest) k e = (x, (rest, refl))

module _ (seed : List ℕ) (steps : List PlainStep) (are : AreSteps steps) (s : Stand) (stands : IsStand seed steps s) (n : ℕ) (goes_on : IsStand seed steps (go_on seed s n)) (k : PlainSaved) (saved : saved_of (go_on seed s n) ≡ Some k) where
  unfinished : HasTried s.past n (go_on seed s n)
  unfinished = let left = left_by (go_on seed s n) (go_on seed s n).left k saved in all_tries seed s n left.0 left.1.0 left.1.1

  both : (stand_of seed steps k (log_of false (go_on seed s n)) ≡ refreshed (go_on seed s n)) × CanGoOn seed steps k (log_of false (go_on seed s n))
  both = kept_is seed steps k (go_on seed s n) goes_on unfinished.going saved

  pub resumed_can : CanGoOn seed steps k (log_of false (go_on seed s n))
  resumed_can = both.1

  resumed_same : (m : ℕ) → refreshed (go_on seed (stand_of seed steps k (log_of false (go_on seed s n))) m) ≡ refreshed (go_on seed s (n + m))
  resumed_same m =
      ap (λ (t : Stand). refreshed (go_on seed t m)) both.0 ∙ (refreshed_goes_on seed (go_on seed s n) m ∙ ap refreshed (runs_add seed s n m))

  pub resumed_end : (m : ℕ) (take : Bool) → end_of take seed (go_on seed (stand_of seed steps k (log_of false (go_on seed s n))) m) ≡ end_of take seed (go_on seed s (n + m))
  resumed_end m take = same_end seed (go_on seed (stand_of seed steps k (log_of false (go_on seed s n))) m) (go_on seed s (n + m)) (resumed_same m) take

  pub resumed_log : (m : ℕ) (partial : Bool) → log_of partial (go_on seed (stand_of seed steps k (log_of false (go_on seed s n))) m) ≡ log_of partial (go_on seed s (n + m))
  resumed_log m partial = same_log seed (go_on seed (stand_of seed steps k (log_of false (go_on seed s n))) m) (go_on seed s (n + m)) (resumed_same m) partial

  pub resumed_saved : (m : ℕ) → saved_of (go_on seed (stand_of seed steps k (log_of false (go_on seed s n))) m) ≡ saved_of (go_on seed s (n + m))
  resumed_saved m = same_saved seed (go_on seed (stand_of seed steps k (log_of false (go_on seed s n))) m) (go_on seed s (n + m)) (resumed_same m)

-- Runs from the start, and runs from whatever was kept.
use Rattle.std.specs.Prelude.{ℕ, ◌≡◌, ◌+◌, true, List, [], ◌∷◌, ◌++◌, Option}
use Rattle.std.proofs.Common.{refl, sym, ap, subst, ◌∙◌}
use Rattle.closing_log.specs.Log.{PlainSection}
use Rattle.pick_problem.specs.Admissible.{IsFit}
use Rattle.pick_problem.specs.ClosingTree.{IsAccepted}
use Rattle.pick_problem.specs.Letters.{letters_of}
use Rattle.pick_problem.specs.Walk.{Walk, after_tries, walk}
use Rattle.pick_problem.proofs.AcceptLaws.{walk_accepted, walk_position}
use Rattle.pick_problem.proofs.BoundLaws.{start_position, tries_position}
use Rattle.pick_problem.proofs.Deciding.{if_cases}
use Rattle.pick_problem.proofs.SoundLaws.{accepted_best}
use Rattle.pick_problem.proofs.TryStepLaws.{walk_pieces}
use Rattle.search_run.specs.Answer.{AreWhole, IsAnswer}
use Rattle.search_run.specs.Found.{PlainFound, found_of, taken}
use Rattle.search_run.specs.Kept.{Along, At, IsAcceptedAt, IsBestAt, answered_by, at_end, comes_to, first_search, to_search}
use Rattle.search_run.specs.Leads.{at_walk, behind}
use Rattle.search_run.specs.Run.{Past, Stand, all_letters, beginning, ends, go_on, run, section_at, tried}
use Rattle.search_run.specs.Stands.{IsFromStart, IsKeptAt, IsKeptWalk, IsMadeAt, IsMadeWalk, IsStand}
use Rattle.search_run.specs.Step.{AreSteps, IsStep, PlainStep, is_drawn}
use Rattle.search_run.proofs.AnswerLaws.{chosen_answers}
use Rattle.search_run.proofs.ComeLaws.{along_weaker, at_step, best_chosen, chosen_from_search, comes_to_search}
use Rattle.search_run.proofs.StandLaws.{beginning_stands, passes_on, stands_on, walks_on}

-- ---- whatever was kept

kept_tries : (x : PlainStep) (before : List ℕ) (w : Walk) (m : ℕ) → IsStep x → IsKeptWalk x before w → IsKeptWalk x before (after_tries x.problem w m)
kept_tries x before w m is h = tries_position x.problem w m is.problem h

pub kept_stands_on : (seed : List ℕ) (steps : List PlainStep) → AreSteps steps → (s : Stand) (m : ℕ) → IsStand seed steps s → IsStand seed steps (go_on seed s m)
kept_stands_on seed steps are s m h =
    stands_on IsKeptAt IsKeptWalk seed steps are (λ x is. start_position x.problem is.problem) kept_tries
    (λ x rest found before w is p done. (record { row = refl; stage = refl; digest = refl }, p.fit))
    (λ x before w is p. p.fit)
    s.left s.walk s.before s.past m h

pub kept_walks_on : (seed : List ℕ) (steps : List PlainStep) → AreSteps steps → (x : PlainStep) (rest : List PlainStep) (w : Walk) (before : List ℕ) (past : Past) (n k : ℕ) → IsStand seed steps (at_walk x rest w before past) → IsStand seed steps (at_walk x rest (after_tries x.problem w n) before (tried past k))
kept_walks_on seed steps are =
    walks_on IsKeptAt IsKeptWalk seed steps are (λ x is. start_position x.problem is.problem) kept_tries
    (λ x rest found before w is p done. (record { row = refl; stage = refl; digest = refl }, p.fit))
    (λ x before w is p. p.fit)

pub kept_passes_on : (seed : List ℕ) (steps : List PlainStep) → AreSteps steps → (x : PlainStep) (rest : List PlainStep) (w : Walk) (before : List ℕ) (past : Past) → w.done ≡ true → IsStand seed steps (at_walk x rest w before past) → IsStand seed steps (behind seed x rest w before past)
kept_passes_on seed steps are =
    passes_on IsKeptAt IsKeptWalk seed steps are (λ x is. start_position x.problem is.problem) kept_tries
    (λ x rest found before w is p done. (record { row = refl; stage = refl; digest = refl }, p.fit))
    (λ x before w is p. p.fit)

pub kept_begins : (seed : List ℕ) (steps : List PlainStep) → AreSteps steps → IsStand seed steps (beginning seed steps)
kept_begins seed steps are =
    beginning_stands IsKeptAt IsKeptWalk seed steps are (λ x is. start_position x.problem is.problem) kept_tries
    (λ x rest found before w is p done. (record { row = refl; stage = refl; digest = refl }, p.fit))
    (λ x before w is p. p.fit)

-- ---- from the start

made_tries : (x : PlainStep) (before : List ℕ) (w : Walk) (m : ℕ) → IsStep x → IsMadeWalk x before w → IsMadeWalk x before (after_tries x.problem w m)
made_tries x before w m is (e, (n, f)) = (e, (n + m, ap (λ (v : Walk). after_tries x.problem v m) f ∙ walk_pieces x.problem n m))

made_closes : (x : PlainStep) (rest : List PlainStep) (found : List PlainFound) (before : List ℕ) (w : Walk) → IsStep x → IsMadeWalk x before w → w.done ≡ true → IsMadeAt (at_step x rest found) (section_at x before w)
made_closes x rest found before w is (e, (n, f)) done =
    let over : (walk x.problem n).done ≡ true = ap (λ (v : Walk). v.done) (sym f) ∙ done in
    let accepted : IsAccepted x.problem (walk x.problem n).best (walk x.problem n).tokens = walk_accepted x.problem is.problem n over in
    let accepted_is : IsAccepted x.problem w.best w.tokens = subst (λ (v : Walk). IsAccepted x.problem v.best v.tokens) (sym f) accepted in
    let letters : all_letters before w ≡ letters_of w.tokens = ap (λ (ls : List ℕ). ls ++ letters_of w.tokens) e in
    (record { row = refl; stage = refl; digest = refl }, (w.tokens, letters, accepted_is), accepted_best x.problem w.best w.tokens is.problem accepted_is)

made_fits : (x : PlainStep) (before : List ℕ) (w : Walk) → IsStep x → IsMadeWalk x before w → IsFit x.problem w.best
made_fits x before w is (e, (n, f)) = subst (λ (v : Walk). IsFit x.problem v.best) (sym f) (walk_position x.problem is.problem n).fit

pub run_stands : (seed : List ℕ) (steps : List PlainStep) → AreSteps steps → (n : ℕ) → IsFromStart seed steps (run seed steps n)
run_stands seed steps are n =
    let first : IsFromStart seed steps (beginning seed steps) = beginning_stands IsMadeAt IsMadeWalk seed steps are (λ x is. (refl, (0, refl))) made_tries made_closes made_fits in
    stands_on IsMadeAt IsMadeWalk seed steps are (λ x is. (refl, (0, refl))) made_tries made_closes made_fits
    (beginning seed steps).left (beginning seed steps).walk (beginning seed steps).before (beginning seed steps).past n first

-- ---- what comes to its end has the answer

best_answers : (seed : List ℕ) (steps : List PlainStep) (s : Stand) → AreWhole steps → Along IsBestAt seed (first_search seed steps) s.past.closed → comes_to seed (first_search seed steps) s.past.closed ≡ to_search seed s.left s.past.found → s.left ≡ [] → IsAnswer seed steps (taken s.past.found)
best_answers seed steps s whole best here over =
    let end : comes_to seed (first_search seed steps) s.past.closed ≡ at_end s.past.found = here ∙ ap (λ (left : List PlainStep). to_search seed left s.past.found) over in
    chosen_answers seed steps (taken s.past.found) whole
    (chosen_from_search seed steps (taken s.past.found) [] (best_chosen seed s.past.closed (first_search seed steps).left (first_search seed steps).found s.past.found (comes_to_search seed steps []) best end))

pub run_answers : (seed : List ℕ) (steps : List PlainStep) (n : ℕ) → AreSteps steps → AreWhole steps → (run seed steps n).left ≡ [] → IsAnswer seed steps (taken (run seed steps n).past.found)
run_answers seed steps n are whole over =
    let s : IsFromStart seed steps (run seed steps n) = run_stands seed steps are n in
    best_answers seed steps (run seed steps n) whole (along_weaker IsMadeAt IsBestAt seed (first_search seed steps) (run seed steps n).past.closed (λ a t h. h.2) s.closed) s.here over

-- ---- accepted logs

-- what holds of the steps behind a step holds of those to which a run comes
abbrev pub AreStepsAt : At → Type 0
AreStepsAt at = AreSteps at.left

to_search_steps : (seed : List ℕ) (left : List PlainStep) (found : List PlainFound) → AreSteps left → AreStepsAt (to_search seed left found)
to_search_steps seed [] found h = tt
to_search_steps seed (x ∷ rest) found h =
    if_cases AreStepsAt (is_drawn x.stage) _ _
    (λ d. if_cases AreStepsAt (ends x _) _ _ (λ e. tt) (λ e. to_search_steps seed rest _ h.1))
    (λ d. h)

answered_steps : (seed : List ℕ) (left : List PlainStep) (found : List PlainFound) (a : Option (List ℕ)) → AreSteps left → AreStepsAt (answered_by seed left found a)
answered_steps seed [] found a h = tt
answered_steps seed (x ∷ rest) found a h = if_cases AreStepsAt (ends x (found ++ found_of x a)) _ _ (λ e. tt) (λ e. to_search_steps seed rest (found ++ found_of x a) h.1)

best_at : (left : List PlainStep) (found : List PlainFound) (t : PlainSection) → AreSteps left → IsAcceptedAt (record { left = left; found = found }) t → IsBestAt (record { left = left; found = found }) t
best_at [] found t are h = absurd h
best_at (x ∷ rest) found t are (tokens, letters, accepted) = accepted_best x.problem t.answer tokens are.0.problem accepted

along_best : (seed : List ℕ) (ss : List PlainSection) (left : List PlainStep) (found : List PlainFound) → AreSteps left → Along IsAcceptedAt seed (record { left = left; found = found }) ss → Along IsBestAt seed (record { left = left; found = found }) ss
along_best seed [] left found are h = tt
along_best seed (t ∷ ts) left found are h =
    let next : At = answered_by seed left found t.answer in
    (best_at left found t are h.0, along_best seed ts next.left next.found (answered_steps seed left found t.answer are) h.1)

pub accepted_best_along : (seed : List ℕ) (steps : List PlainStep) (ss : List PlainSection) → AreSteps steps → Along IsAcceptedAt seed (first_search seed steps) ss → Along IsBestAt seed (first_search seed steps) ss
accepted_best_along seed steps ss are h = along_best seed ss (first_search seed steps).left (first_search seed steps).found (to_search_steps seed steps [] are) h

-- whatever it went on from, a run that comes to its end has the answer if each answer on its way is the best
pub stand_answers : (seed : List ℕ) (steps : List PlainStep) (s : Stand) → AreWhole steps → IsStand seed steps s → Along IsBestAt seed (first_search seed steps) s.past.closed → s.left ≡ [] → IsAnswer seed steps (taken s.past.found)
stand_answers seed steps s whole h best over = best_answers seed steps s whole best h.here over

-- How many tries a run makes at a search, and that enough of them end it.
use Rattle.std.specs.Prelude.{ℕ, zero, suc, ◌≡◌, ◌+◌, ◌-◌, ◌^◌, ◌<◌, ◌≤◌, not, Bool, true, false, List, [], ◌∷◌, ◌++◌, length, if◌then◌else◌, nat_le, nat_lt}
use Rattle.std.proofs.Common.{arith, refl, sym, ap, subst, ◌∙◌}
use Rattle.pick_problem.specs.Problem.{IsProblem, PlainProblem}
use Rattle.pick_problem.specs.Later.{total_value}
use Rattle.pick_problem.specs.Walk.{Walk, after_tries, start, walk}
use Rattle.pick_problem.proofs.BoundLaws.{few_tries_made, walk_ends}
use Rattle.pick_problem.proofs.Deciding.{by_test, if_cases, if_false, le_no, le_yes}
use Rattle.pick_problem.proofs.KeptLaws.{open_start, short_start}
use Rattle.pick_problem.proofs.TryStepLaws.{after_done, all_made}
use Rattle.search_run.specs.Found.{found_of}
use Rattle.search_run.specs.Run.{Past, Stand, beginning, begun, begun_first, drawn, ends, made, onward, passed, run}
use Rattle.search_run.specs.Searched.{searches}
use Rattle.search_run.specs.Stands.{IsMadeWalk, IsWalkAt, IsWalkBy}
use Rattle.search_run.specs.Step.{AreSteps, IsStep, PlainStep, is_drawn}
use Rattle.search_run.proofs.HeldLaws.{draw_begins}
use Rattle.search_run.proofs.MadeLaws.{run_stands}
use Rattle.search_run.proofs.RunLaws.{all_tries, onward_by}
use Rattle.search_run.proofs.StandLaws.{step_here}
use Rattle.run_laws.specs.Tries.{tries_needed}

-- ---- a search that is open

start_tries : (p : PlainProblem) → (start p).tries ≡ 0
start_tries p = if_cases (λ (w : Walk). w.tries ≡ 0) (nat_lt (total_value p.items) p.lo) (short_start p) open_start (λ e. refl) (λ e. refl)

open_few : (p : PlainProblem) (n : ℕ) (w : Walk) → IsProblem p → w ≡ walk p n → w.done ≡ false → w.tries + 1 < 2 ^ length p.items
open_few p n w is e going =
    let v = walk p n in
    let going_on : v.done ≡ false = ap (λ (u : Walk). u.done) (sym e) ∙ going in
    let all : v.tries ≡ n = omega (arith, all_made p (start p) n going_on, start_tries p) in
    let count : w.tries ≡ v.tries = ap (λ (u : Walk). u.tries) e in
    by_test (w.tries + 1 < 2 ^ length p.items) (nat_le (2 ^ length p.items) (n + 1))
    (λ e. absurd (let c : true ≡ false = sym (walk_ends p n is (le_yes (2 ^ length p.items) (n + 1) e)) ∙ going_on in cc))
    (λ e. omega (arith, le_no (2 ^ length p.items) (n + 1) e, all, count))

pub few_tried : (seed : List ℕ) (steps : List PlainStep) (n : ℕ) (x : PlainStep) (rest : List PlainStep) → AreSteps steps → (run seed steps n).left ≡ x ∷ rest → (run seed steps n).walk.tries + 1 < 2 ^ length x.problem.items
few_tried seed steps n x rest are e =
    let s = run seed steps n in
    let stand = run_stands seed steps are n in
    let going : s.walk.done ≡ false = (all_tries seed (beginning seed steps) n x rest e).going in
    let here : IsWalkBy (is_drawn x.stage) IsMadeWalk seed x s.before s.walk = subst (λ (left : List PlainStep). IsWalkAt IsMadeWalk seed left s.before s.walk) e stand.walk in
    let parts : steps ≡ stand.left.0 ++ x ∷ rest = stand.left.1 ∙ ap (λ (left : List PlainStep). stand.left.0 ++ left) e in
    let is : IsStep x = step_here stand.left.0 rest x (subst AreSteps parts are) in
    by s.before s.walk (is_drawn x.stage) is going here
  where
    by : (before : List ℕ) (w : Walk) (b : Bool) → IsStep x → w.done ≡ false → IsWalkBy b IsMadeWalk seed x before w → w.tries + 1 < 2 ^ length x.problem.items
    by before w true is going h = absurd (let c : true ≡ false = sym (ap (λ (v : Walk). v.done) h) ∙ going in cc)
    by before w false is going (none, (k, f)) = open_few x.problem k w is.problem f going

-- ---- enough tries

-- each search needs one at least
some_needed : (xs : List PlainStep) → length xs ≤ tries_needed xs
some_needed [] = omega arith
some_needed (x ∷ xs) = let sum : tries_needed (x ∷ xs) ≡ 2 ^ length x.problem.items + tries_needed xs = refl in omega (arith, some_needed xs, one_of (length x.problem.items), sum)
  where
    one_of : (k : ℕ) → 1 ≤ 2 ^ k
    one_of zero = omega arith
    one_of (suc k) = omega (arith, one_of k)

abbrev Ended : Stand → Type 0
Ended s = s.left ≡ []

ended_by : (seed : List ℕ) (left : List PlainStep) (past : Past) (m : ℕ) → AreSteps left → tries_needed (searches left) ≤ m + length (searches left) → Ended (onward seed left (begun_first seed left) [] past m)
ended_by seed [] past m are enough = refl
ended_by seed (x ∷ rest) past m are enough = by (λ behind k few. ended_by seed rest behind k are.1 few) (is_drawn x.stage) refl enough
  where
    by : ((behind : Past) (k : ℕ) → tries_needed (searches rest) ≤ k + length (searches rest) → Ended (onward seed rest (begun_first seed rest) [] behind k))
        → (b : Bool) → is_drawn x.stage ≡ b → tries_needed (if not b then (x ∷ searches rest) else searches rest) ≤ m + length (if not b then (x ∷ searches rest) else searches rest) → Ended (onward seed (x ∷ rest) (begun seed x) [] past m)
    by on true d h =
        let w = begun seed x in
        let v = after_tries x.problem w m in
        let over : w.done ≡ true = ap (λ (u : Walk). u.done) (draw_begins seed x d) in
        let stays : v ≡ w = after_done x.problem w m over in
        let ends_here : v.done ≡ true = ap (λ (u : Walk). u.done) stays ∙ over in
        let none : made w v ≡ 0 = let same : v.tries ≡ w.tries = ap (λ (u : Walk). u.tries) stays in omega (arith, same) in
        onward_by Ended seed x rest w [] past m (λ going_on. absurd (let c : true ≡ false = sym ends_here ∙ going_on in cc)) (λ e f. refl)
        (λ e f. on (passed x [] w v past) (m - made w v) (omega (arith, h, none)))
    by on false d h =
        let w = begun seed x in
        let first : w ≡ start x.problem = if_false (is_drawn x.stage) _ _ d in
        let v = after_tries x.problem w m in
        let same : v ≡ walk x.problem m = ap (λ (u : Walk). after_tries x.problem u m) first in
        let sum : tries_needed (x ∷ searches rest) ≡ 2 ^ length x.problem.items + tries_needed (searches rest) = refl in
        let room : 2 ^ length x.problem.items ≤ m + 1 = omega (arith, h, sum, some_needed (searches rest)) in
        let ends_here : v.done ≡ true = ap (λ (u : Walk). u.done) same ∙ walk_ends x.problem m are.0.problem room in
        let few : made w v < 2 ^ length x.problem.items =
        let a : v.tries ≡ (walk x.problem m).tries = ap (λ (u : Walk). u.tries) same in omega (arith, a, few_tries_made x.problem m are.0.problem) in
        onward_by Ended seed x rest w [] past m (λ going_on. absurd (let c : true ≡ false = sym ends_here ∙ going_on in cc)) (λ e f. refl)
        (λ e f. on (passed x [] w v past) (m - made w v) (omega (arith, h, sum, few)))

pub enough_ends : (seed : List ℕ) (steps : List PlainStep) (n : ℕ) → AreSteps steps → tries_needed (searches steps) ≤ n + length (searches steps) → (run seed steps n).left ≡ []
enough_ends seed steps n are enough = ended_by seed steps (beginning seed steps).past n are enough

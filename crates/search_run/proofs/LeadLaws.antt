-- The pieces of a run: tries of a walk, and passing a step.
use Rattle.std.specs.Prelude.{ℕ, ◌≡◌, ◌+◌, ◌-◌, ◌≤◌, Bool, true, false, List, [], ◌++◌, if◌then◌else◌}
use Rattle.std.proofs.Common.{arith, refl, sym, ap, ◌∙◌}
use Rattle.pick_problem.specs.Walk.{Walk, after_tries}
use Rattle.pick_problem.proofs.Deciding.{if_true}
use Rattle.pick_problem.proofs.GraftLaws.{as_many, tries_within}
use Rattle.pick_problem.proofs.TryStepLaws.{after_done, after_pieces}
use Rattle.search_run.specs.Found.{found_of}
use Rattle.search_run.specs.Leads.{Leads, at_start, at_walk}
use Rattle.search_run.specs.Run.{Past, Stand, begun_first, ends, go_on, made, onward, over, passed, tried}
use Rattle.search_run.specs.Step.{PlainStep}
use Rattle.search_run.proofs.RunLaws.{behind_later, here_later, runs_add, step_to}

-- nothing leads to where it is
pub leads_none : (seed : List ℕ) (s : Stand) → Leads seed s 0 s
leads_none seed s = record { goes = λ m. let e : m ≡ 0 + m = omega arith in ap (go_on seed s) e; tries = omega arith }

pub leads_more : (seed : List ℕ) (a b c : Stand) (k n : ℕ) → Leads seed a k b → Leads seed b n c → Leads seed a (k + n) c
leads_more seed a b c k n h l =
    record {
      goes = λ m. let e : k + (n + m) ≡ (k + n) + m = omega arith in l.goes m ∙ (h.goes (n + m) ∙ ap (go_on seed a) e);
      tries = omega (arith, h.tries, l.tries);
    }

-- tries lead to where the run stands
pub run_leads : (seed : List ℕ) (s : Stand) (n : ℕ) → (go_on seed s n).past.tries ≡ s.past.tries + n → Leads seed s n (go_on seed s n)
run_leads seed s n e = record { goes = λ m. runs_add seed s n m; tries = e }

left_walked : (w v u m : ℕ) → w ≤ v → v ≤ u → m - (u - v) ≡ ((v - w) + m) - (u - w)
left_walked w v u m h k = omega arith

-- tries of the walk of the first step lead by as many as are made, whether it is done then or not
pub walked : (seed : List ℕ) (x : PlainStep) (rest : List PlainStep) (w : Walk) (before : List ℕ) (past : Past) (n : ℕ) →
    Leads seed (at_walk x rest w before past) (made w (after_tries x.problem w n)) (at_walk x rest (after_tries x.problem w n) before (tried past (made w (after_tries x.problem w n))))
walked seed x rest w before past n = record { goes = goes; tries = refl }
  where
    v : Walk
    v = after_tries x.problem w n

    goes : (m : ℕ) → go_on seed (at_walk x rest (after_tries x.problem w n) before (tried past (made w (after_tries x.problem w n)))) m ≡ go_on seed (at_walk x rest w before past) (made w (after_tries x.problem w n) + m)
    goes m =
        let v : Walk = after_tries x.problem w n in
        let u : Walk = after_tries x.problem v m in
        let low : w.tries ≤ v.tries = (tries_within x.problem w n).0 in
        let high : v.tries ≤ u.tries = (tries_within x.problem v m).0 in
        let t : ℕ = m - made v u in
        let there : u ≡ after_tries x.problem w (made w v + m) = ap (λ (z : Walk). after_tries x.problem z m) (sym (as_many x.problem w n)) ∙ after_pieces x.problem w (made w v) m in
        ap (λ (b : Past). step_to seed x rest before u b (tried (tried past (made w v)) (made v u)) t) (behind_later x before past w v u low high)
        ∙ (ap (λ (h : Past). step_to seed x rest before u (passed x before w u past) h t) (here_later past w v u low high)
        ∙ (ap (λ (k : ℕ). step_to seed x rest before u (passed x before w u past) (tried past (made w u)) k) (left_walked w.tries v.tries u.tries m low high)
        ∙ ap (λ (z : Walk). step_to seed x rest before z (passed x before w z past) (tried past (made w z)) ((made w v + m) - made w z)) there))

-- behind a step whose walk is done nothing was tried
made_none : (w : Walk) → made w w ≡ 0
made_none w = omega arith

pub goes_behind : (seed : List ℕ) (x : PlainStep) (rest : List PlainStep) (w : Walk) (before : List ℕ) (past : Past) → w.done ≡ true →
    Leads seed (at_walk x rest w before past) 0 (if ends x (past.found ++ found_of x w.best) then over (passed x before w w past) else at_start seed rest (passed x before w w past))
goes_behind seed x rest w before past done =
    record { goes = goes; tries = tries (ends x (past.found ++ found_of x w.best)) }
  where
    tries : (b : Bool) → (if b then over (passed x before w w past) else at_start seed rest (passed x before w w past)).past.tries ≡ past.tries + 0
    tries true = omega arith
    tries false = omega arith

    left : (m : ℕ) → (0 + m) - made w w ≡ m
    left m = omega arith

    by : (b : Bool) (m : ℕ) → go_on seed (if b then over (passed x before w w past) else at_start seed rest (passed x before w w past)) m ≡ (if b then over (passed x before w w past) else onward seed rest (begun_first seed rest) [] (passed x before w w past) ((0 + m) - made w w))
    by true m = refl
    by false m = ap (onward seed rest (begun_first seed rest) [] (passed x before w w past)) (sym (left m))

    goes : (m : ℕ) → go_on seed (if ends x (past.found ++ found_of x w.best) then over (passed x before w w past) else at_start seed rest (passed x before w w past)) m ≡ go_on seed (at_walk x rest w before past) (0 + m)
    goes m =
        by (ends x (past.found ++ found_of x w.best)) m
        ∙ (sym (if_true w.done _ _ done) ∙ ap (λ (z : Walk). step_to seed x rest before z (passed x before w z past) (tried past (made w z)) ((0 + m) - made w z)) (sym (after_done x.problem w (0 + m) done)))

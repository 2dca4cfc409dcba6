-- What tries leave of a run, in whatever pieces they are made.
use Rattle.std.specs.Prelude.{ℕ, ◌≡◌, ◌+◌, List, [], ◌∷◌, ◌++◌, if◌then◌else◌}
use Rattle.pick_problem.specs.Walk.{Walk}
use Rattle.search_run.specs.Found.{found_of}
use Rattle.search_run.specs.Run.{Past, Stand, begun_first, ends, go_on, over, passed}
use Rattle.search_run.specs.Step.{PlainStep}

-- So many tries lead from the one stand to the other: going on from there is going on from here with as many more. A stand
-- may lag: a walk that is done may not be passed yet.
pub record Leads (seed : List ℕ) (a : Stand) (k : ℕ) (b : Stand) : Type 0 where
  pub goes : (m : ℕ) → go_on seed b m ≡ go_on seed a (k + m)
  pub tries : b.past.tries ≡ a.past.tries + k

-- at a step, with this walk
abbrev pub at_walk : PlainStep → List PlainStep → Walk → List ℕ → Past → Stand
at_walk x rest w before past = record { left = x ∷ rest; walk = w; before = before; past = past }

-- where the first of these steps begins
abbrev pub at_start : List ℕ → List PlainStep → Past → Stand
at_start seed left past = record { left = left; walk = begun_first seed left; before = []; past = past }

-- behind a step whose walk is done
abbrev pub behind : List ℕ → PlainStep → List PlainStep → Walk → List ℕ → Past → Stand
behind seed x rest w before past =
    if ends x (past.found ++ found_of x w.best) then over (passed x before w w past) else at_start seed rest (passed x before w w past)

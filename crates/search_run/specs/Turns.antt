-- The pieces of which a run is made, as the code makes them.
use Rattle.std.specs.Prelude.{ℕ, ◌≡◌, ◌≤◌, ◌<◌, ◌+◌, ◌-◌, false, List, [], ◌∷◌, length}
use Rattle.pick_problem.specs.Walk.{after_tries}
use Rattle.search_run.specs.Leads.{at_walk, behind}
use Rattle.search_run.specs.Run.{Stand, made, tried}
use Rattle.search_run.specs.Runs.{PlainRun, RunLeads}
use Rattle.search_run.specs.Step.{PlainStep}
use Rattle.search_run.specs.declared.walking.Turn.{Turn}

-- so many tries of the walk of the first step that is left
abbrev pub walked_by : Stand → List PlainStep → ℕ → Stand
walked_by s [] n = s
walked_by s (x ∷ rest) n = at_walk x rest (after_tries x.problem s.walk n) s.before (tried s.past (made s.walk (after_tries x.problem s.walk n)))

-- behind the first step that is left
abbrev pub behind_by : List ℕ → Stand → List PlainStep → Stand
behind_by seed s [] = s
behind_by seed s (x ∷ rest) = behind seed x rest s.walk s.before s.past

-- a run whose walk was granted so many tries
pub record IsWalkedOn (old : PlainRun) (n : ℕ) (t : Turn) (new : PlainRun) : Type 0 where
  pub is : new ≡ record { seed = old.seed; steps = old.steps; stand = walked_by old.stand old.stand.left n }
  pub count : new.stand.past.tries ≡ old.stand.past.tries + t.made
  pub over : t.done ≡ new.stand.walk.done
  pub left : new.stand.left ≡ old.stand.left
  pub leads : RunLeads old t.made new
  pub most : t.made ≤ n
  pub all : t.done ≡ false → t.made ≡ n

-- a run that passed a step
pub record IsPassed (old new : PlainRun) : Type 0 where
  pub leads : RunLeads old 0 new
  pub fewer : length new.stand.left < length old.stand.left

-- a run that made some of its tries; there is less left to do
pub record IsTurn (old : PlainRun) (n k : ℕ) (new : PlainRun) : Type 0 where
  pub most : k ≤ n
  pub leads : RunLeads old k new
  pub less : (n - k) + length new.stand.left < n + length old.stand.left

-- Runs of tries that drop their place, and change nothing else.
use Rattle.std.specs.Prelude.{◌≡◌, ℕ, ◌+◌, ◌*◌, ◌<◌, ◌≤◌, false, List, ◌++◌, length, reverse, Option}
use Rattle.pick_problem.specs.Problem.{PlainProblem}
use Rattle.wide_check.specs.declared.token.WideToken.{WideToken}
use Rattle.wide_check.specs.WideLetters.{letters_of}
use Rattle.wide_search.specs.WideWalk.{Walk, after_tries}

-- an open walk with these places chosen, and this next place
abbrev pub open_walk : List ℕ → ℕ → Option (List ℕ) → ℕ → List WideToken → Walk
open_walk q t b tries tokens = record { stack = reverse q; next = t; best = b; tries = tries; done = false; tokens = tokens }

-- n tries with the places q chosen lead from the place t to the place u, and the letters that they write were appended.
-- The chosen places and the best stay
pub record HasGlided (p : PlainProblem) (b : Option (List ℕ)) (q : List ℕ) (t u n : ℕ) (old new : List ℕ) : Type 0 where
  pub tokens : List WideToken
  pub letters : new ≡ old ++ letters_of tokens
  pub few : length tokens ≤ 3 * n
  pub some : n ≤ length tokens
  pub walk : (tries : ℕ) (ks : List WideToken) →
      after_tries p (open_walk q t b tries ks) n ≡ open_walk q u b (tries + n) (ks ++ tokens)
  pub more : u < length p.items

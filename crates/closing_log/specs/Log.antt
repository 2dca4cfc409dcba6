-- A log of searches in its plain form.
use Rattle.std.specs.Prelude.{ℕ, List, Option, Bool}
use Rattle.closing_log.specs.declared.log.Stage.{Stage}

-- a search that came to its end: its row of the ladder, its stage, the digest of its problem, the letters of its
-- closing tree, and the places of its answer
pub record PlainSection : Type 0 where
  pub row : ℕ
  pub stage : Stage
  pub digest : List ℕ
  pub letters : List ℕ
  pub answer : Option (List ℕ)

-- a search that goes on, with its letters so far
pub record PlainOpen : Type 0 where
  pub row : ℕ
  pub stage : Stage
  pub digest : List ℕ
  pub letters : List ℕ

-- the searches in the order of the run, the one that goes on, and whether the log says that it is ended
pub record PlainLog : Type 0 where
  pub closed : List PlainSection
  pub tail : Option PlainOpen
  pub ended : Bool

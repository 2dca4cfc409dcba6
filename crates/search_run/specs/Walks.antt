-- A kept position as one that a search is restored from.
use Rattle.std.specs.Prelude.{ℕ, false, List}
use Rattle.pick_problem.specs.declared.position.Position.{Position}
use Rattle.walk_engine.specs.Search.{tries_in}
use Rattle.search_run.specs.Kept.{PlainSaved}

-- what is saved, as the position of a search that goes on after these letters
abbrev pub kept_position : PlainSaved → List ℕ → Position
kept_position k letters = record { chosen = k.chosen; next = k.next; best = k.best; tries = tries_in letters; done = false }

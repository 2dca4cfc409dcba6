-- Where a search stands, and the walk that stands there.
use Rattle.std.specs.Prelude.{ℕ, ◌+◌, ◌++◌, List, [], reverse}
use Rattle.pick_problem.specs.declared.position.Position.{Position}
use Rattle.pick_problem.specs.declared.token.Token.{Token}
use Rattle.pick_problem.specs.Walk.{Walk, upward}

-- where a walk stands: all but its tokens
abbrev pub position_of : Walk → Position
position_of w = record { chosen = upward w.stack; next = w.next; best = w.best; tries = w.tries; done = w.done }

-- the walk that stands at a position, with these tokens
abbrev pub walk_at : Position → List Token → Walk
walk_at q tokens = record { stack = reverse q.chosen; next = q.next; best = q.best; tries = q.tries; done = q.done; tokens = tokens }

-- a walk after other tokens and tries
abbrev pub grafted : List Token → ℕ → Walk → Walk
grafted tokens tries w = record { stack = w.stack; next = w.next; best = w.best; tries = tries + w.tries; done = w.done; tokens = tokens ++ w.tokens }

-- the same walk, with nothing written or tried so far
abbrev pub afresh : Walk → Walk
afresh w = record { stack = w.stack; next = w.next; best = w.best; tries = 0; done = w.done; tokens = [] }

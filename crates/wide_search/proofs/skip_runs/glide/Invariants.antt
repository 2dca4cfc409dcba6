use Rattle.std.proofs.Common.{◌+◌, ◌-◌, ◌*◌, ◌≤◌, length}
use Rattle.std.specs.Vec.{vec_capacity}
use Rattle.wide_search.specs.Best.{plain_best}
use Rattle.wide_search.specs.SkipRuns.{HasGlided}
use Rattle.wide_search.specs.Stack.{IsStack}
use Rattle.wide_search.proofs.skip_runs.glide.Given as goal

abbrev pub invariant-gliding : goal.invariant-gliding
invariant-gliding l = record {
  few : l.made ≤ l.tries;
  stack : IsStack l.prepared l.next l.stack;
  room : length l.letters.items + 3 * (l.tries - l.made) ≤ vec_capacity l.letters;
  grows : vec_capacity l.fn.letters ≤ vec_capacity l.letters;
  glided : HasGlided l.prepared (plain_best l.best) l.stack.places.items l.from l.next l.made l.fn.letters.items
      l.letters.items;
}

abbrev pub decreases-gliding : goal.decreases-gliding
decreases-gliding l = l.tries - l.made

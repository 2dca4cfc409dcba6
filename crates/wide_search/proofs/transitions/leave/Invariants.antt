use Rattle.std.proofs.Common.{◌+◌, ◌*◌, ◌≤◌, length}
use Rattle.std.specs.Vec.{vec_capacity}
use Rattle.wide_search.specs.Stack.{IsStack}
use Rattle.wide_search.proofs.WayLaws.{Leaving}
use Rattle.wide_search.proofs.transitions.leave.Given as goal

abbrev pub invariant-leaving : goal.invariant-leaving
invariant-leaving l = record {
  within : l.next ≤ length l.prepared.items;
  stack : IsStack l.prepared l.next l.stack;
  room : length l.letters.items + 2 * length l.stack.places.items ≤ vec_capacity l.letters;
  grows : vec_capacity l.fn.letters ≤ vec_capacity l.letters;
  leaving : Leaving l.prepared l.fn.stack.places.items l.fn.letters.items l.stack.places.items l.letters.items;
}

abbrev pub decreases-leaving : goal.decreases-leaving
decreases-leaving l = length l.stack.places.items

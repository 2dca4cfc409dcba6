use Rattle.std.proofs.Common.{◌≡◌, ◌≤◌, take}
use Rattle.walk_engine.specs.Search.{tries_in}
use Rattle.walk_engine.proofs.position.tries_in.Given as goal

abbrev pub invariant-loop-letter : goal.invariant-loop-letter
invariant-loop-letter l = record {
  counted : l.tries ≡ tries_in (take l.letter-index l.letters);
  few : l.tries ≤ l.letter-index;
}

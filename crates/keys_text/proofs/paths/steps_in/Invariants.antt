use Rattle.std.proofs.Common.{◌≡◌, ◌≤◌, [], drop}
use Rattle.std.specs.List.{slice_range}
use Rattle.keys_text.specs.Paths.{steps_from}
use Rattle.keys_text.proofs.paths.steps_in.Given as goal

abbrev pub invariant-loop-i : goal.invariant-loop-i
invariant-loop-i l = record {
  within : l.start ≤ l.i;
  read : steps_from l.steps.items (slice_range l.text l.start l.i) (drop l.i l.text) ≡ steps_from [] [] l.text;
}

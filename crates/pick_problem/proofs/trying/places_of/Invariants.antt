use Rattle.std.proofs.Common.{◌≡◌, ◌-◌, ◌++◌}
use Rattle.pick_problem.specs.Trying.{places_from}
use Rattle.pick_problem.proofs.trying.places_of.Given as goal

abbrev pub invariant-loop-place : goal.invariant-loop-place
invariant-loop-place l = l.places.items ++ places_from (l.count - l.place) l.place l.bits ≡ places_from l.count 0 l.number

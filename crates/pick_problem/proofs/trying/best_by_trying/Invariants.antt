use Rattle.std.proofs.Common.{ℕ, ◌<◌, length}
use Rattle.pick_problem.specs.Admissible.{IsAdmissible, IsFit}
use Rattle.pick_problem.specs.Trying.{IsNoBetter, places_from}
use Rattle.pick_problem.proofs.trying.best_by_trying.Given as goal

abbrev pub invariant-loop-number : goal.invariant-loop-number
invariant-loop-number l = record {
  fit : IsFit l.problem l.best;
  tried : (m : ℕ) → m < l.number → IsAdmissible l.problem (places_from (length l.problem.items) 0 m) → IsNoBetter l.problem l.best (places_from (length l.problem.items) 0 m);
}

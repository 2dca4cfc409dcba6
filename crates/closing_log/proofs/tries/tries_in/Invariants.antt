use Rattle.std.proofs.Common.{◌≡◌, ◌==◌, take, ◌≤◌}
use Rattle.std.specs.List.{count_by}
use Rattle.closing_log.proofs.tries.tries_in.Given as goal

abbrev pub invariant-loop-letter : goal.invariant-loop-letter
invariant-loop-letter l = (l.tries ≡ count_by (λ b. b == 73) (take l.letter-index l.letters)) × (l.tries ≤ l.letter-index)

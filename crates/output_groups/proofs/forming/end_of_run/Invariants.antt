use Rattle.std.proofs.Common.{◌≡◌, ℕ, ◌-◌, ◌<◌, ◌≤◌, length, get_or}
use Rattle.coin_candidates.specs.declared.candidate.Candidate.{Candidate}
use Rattle.output_groups.specs.Runs.{script_of}
use Rattle.output_groups.proofs.forming.end_of_run.Given as goal

abbrev pub invariant-loop-end : goal.invariant-loop-end
invariant-loop-end l = record {
  some : l.start < l.end;
  within : l.end ≤ length l.coins;
  same : (k : ℕ) (d : Candidate) → l.start ≤ k → k < l.end → script_of (get_or l.coins k d) ≡ script_of (get_or l.coins l.start d);
}

abbrev pub decreases-loop-end : goal.decreases-loop-end
decreases-loop-end l = length l.coins - l.end

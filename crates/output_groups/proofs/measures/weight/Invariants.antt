use Rattle.std.proofs.Common.{◌≡◌, ◌≤◌, ◌*◌, take}
use Rattle.std.specs.Prelude.{sum_by}
use Rattle.coin_candidates.specs.declared.candidate.Candidate.{Candidate}
use Rattle.output_groups.proofs.measures.weight.Given as goal

abbrev pub invariant-loop-lent : goal.invariant-loop-lent
invariant-loop-lent l = (l.sum ≡ sum_by (λ (c : Candidate). c.weight) (take l.lent-index l.coins)) × (l.sum ≤ 400_000 * l.lent-index) × (l.lent-index ≤ l.sum)

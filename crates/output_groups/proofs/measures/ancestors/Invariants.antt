use Rattle.std.proofs.Common.{◌≡◌, ◌≤◌, ◌*◌, take}
use Rattle.std.specs.Prelude.{sum_by}
use Rattle.coin_candidates.specs.declared.candidate.Candidate.{Candidate}
use Rattle.output_groups.proofs.measures.ancestors.Given as goal

abbrev pub invariant-loop-lent : goal.invariant-loop-lent
invariant-loop-lent l = (l.sum ≡ sum_by (λ (c : Candidate). c.ancestors) (take l.lent-index l.coins)) × (l.sum ≤ 4_294_967_296 * l.lent-index)

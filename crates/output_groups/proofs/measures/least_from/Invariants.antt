use Rattle.std.proofs.Common.{◌≡◌, take}
use Rattle.std.specs.Prelude.{fold}
use Rattle.coin_candidates.specs.declared.candidate.Candidate.{Candidate}
use Rattle.output_groups.specs.Measures.{lesser}
use Rattle.output_groups.proofs.measures.least_from.Given as goal

abbrev pub invariant-loop-lent : goal.invariant-loop-lent
invariant-loop-lent l = l.least.coin ≡ fold (λ m (c : Candidate). lesser m c.coin) l.first.coin (take l.lent-index l.rest)

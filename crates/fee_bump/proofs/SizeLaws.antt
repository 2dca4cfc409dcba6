-- Sums over coins within their bounds.
use Rattle.std.specs.Prelude.{◌≤◌, List}
use Rattle.std.proofs.Common.{arith}
use Rattle.std.proofs.lemmas.List.Elements.{All-weaker}
use Rattle.std.proofs.lemmas.List.Sums.{sum_by-le}
use Rattle.coin_candidates.specs.Candidates.{AreCandidates, IsCandidate}
use Rattle.coin_candidates.specs.declared.candidate.Candidate.{Candidate}
use Rattle.fee_bump.specs.Bump.{weight_of}

pub weights_within : (coins : List Candidate) → AreCandidates coins → weight_of coins ≤ 40_000_000_000
weights_within coins h =
    let few = h.count in
    let sum = sum_by-le (λ (c : Candidate). c.weight) 400_000 coins (All-weaker IsCandidate (λ (c : Candidate). c.weight ≤ 400_000) (λ c f. f.most_weight) coins h.each) in
    omega arith

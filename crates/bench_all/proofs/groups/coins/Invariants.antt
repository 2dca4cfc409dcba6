use Rattle.std.proofs.Common.{◌≡◌, ℕ, ◌<◌, get_or, length}
use Rattle.std.specs.Prelude.{All}
use Rattle.coin_candidates.specs.Candidates.{IsCandidate}
use Rattle.coin_candidates.specs.declared.candidate.Candidate.{Candidate}
use Rattle.bench_all.proofs.groups.coins.Given as goal

abbrev pub invariant-loop-place : goal.invariant-loop-place
invariant-loop-place l = record {
  each : All IsCandidate l.coins.items;
  count : length l.coins.items ≡ l.place;
  indices : (k : ℕ) (d : Candidate) → k < length l.coins.items → (get_or l.coins.items k d).coin.index ≡ k;
}

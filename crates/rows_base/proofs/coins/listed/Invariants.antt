use Rattle.std.proofs.Common.{◌≡◌, ℕ, ◌<◌, get_or, length}
use Rattle.std.specs.Prelude.{All}
use Rattle.coin_candidates.specs.Candidates.{IsCandidate}
use Rattle.coin_candidates.specs.declared.candidate.Candidate.{Candidate}
use Rattle.rows_base.proofs.coins.listed.Given as goal

abbrev pub invariant-loop-place : goal.invariant-loop-place
invariant-loop-place l = record {
  each : All IsCandidate l.list.items;
  count : length l.list.items ≡ l.place;
  indices : (k : ℕ) (d : Candidate) → k < length l.list.items → (get_or l.list.items k d).coin.index ≡ k;
}

-- Coins of one script that stand together.
use Rattle.std.specs.Prelude.{◌≡◌, ◌≢◌, ℕ, ◌-◌, ◌<◌, ◌≤◌, List, take, drop, length, slice_index_or}
use Rattle.coin_candidates.specs.declared.candidate.Candidate.{Candidate}

abbrev pub script_of : Candidate → List ℕ
script_of c = c.script

-- the coins from start on that pay to the script of the first of them end here
pub record IsRun (cs : List Candidate) (start end : ℕ) : Type 0 where
  pub some : start < end
  pub within : end ≤ length cs
  pub same : (k : ℕ) (d : Candidate) → start ≤ k → k < end → script_of (slice_index_or cs k d) ≡ script_of (slice_index_or cs start d)
  pub last : (d : Candidate) → end < length cs → script_of (slice_index_or cs end d) ≢ script_of (slice_index_or cs start d)

-- the coins from one place up to another
abbrev pub run_of : List Candidate → ℕ → ℕ → List Candidate
run_of cs start end = take (end - start) (drop start cs)

-- Groups by their places in a pool.
use Rattle.std.specs.Prelude.{ℕ, List, [], slice_index_or}
use Rattle.std.specs.List.{flat_map}
use Rattle.coin_candidates.specs.declared.candidate.Candidate.{Candidate}

-- the coins of groups at places of a row's pool
abbrev pub members : List (List Candidate) → List ℕ → List Candidate
members groups places = flat_map (λ j. slice_index_or groups j []) places

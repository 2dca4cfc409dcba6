-- How many tries searches take.
use Rattle.std.specs.Prelude.{ℕ, ◌+◌, ◌^◌, List, [], ◌∷◌, length}
use Rattle.search_run.specs.Step.{PlainStep}

-- of each search of k items 2^k, one more than it takes at most
abbrev pub tries_needed : List PlainStep → ℕ
tries_needed [] = 0
tries_needed (x ∷ xs) = 2 ^ length x.problem.items + tries_needed xs

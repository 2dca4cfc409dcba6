-- How many of the counted places are among the ancestors and the descendants of a place, itself included, and what shares of
-- places come to over a place and its ancestors.
use Rattle.std.specs.Prelude.{ℕ, ◌&&◌, ◌==◌, Bool, true, false, List, [], ◌∷◌, length, count_by, min, sum_by, slice_index_or}
use Rattle.std.specs.List.{list_all}
use Rattle.payment_states.specs.Graph.{within, below, kin}

abbrev pub is_counted : List Bool → ℕ → Bool
is_counted counted j = slice_index_or counted j false

-- among it and its ancestors
abbrev pub ups : List (List ℕ) → List Bool → ℕ → ℕ
ups g counted i = count_by (is_counted counted) (kin g i)

-- among it and its descendants
abbrev pub downs : List (List ℕ) → List Bool → ℕ → ℕ
downs g counted j = count_by (λ i. is_counted counted i && within g (length g) i j) (below (length g))

-- the share of a place
abbrev pub share_in : List ℕ → ℕ → ℕ
share_in shares j = slice_index_or shares j 0

-- the shares of it and its ancestors together, at most 21,000,000 bitcoin in satoshi
abbrev pub sum_over : List (List ℕ) → List ℕ → ℕ → ℕ
sum_over g shares i = min 2_100_000_000_000_000 (sum_by (share_in shares) (kin g i))

-- these places are all the same one, or there is none
abbrev pub are_one : List ℕ → Bool
are_one [] = true
are_one (p ∷ ps) = list_all (λ q. q == p) ps

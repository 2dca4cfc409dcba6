-- The places that a running draw keeps.
use Rattle.std.specs.Prelude.{◌≡◌, ℕ, ◌+◌, ◌<◌, ◌≤◌, ◌==◌, List, [], ◌∷◌, length, All}
use Rattle.std.specs.List.{count_by}
use Rattle.std.specs.BinaryHeap.{IsHeap, heap_items}
use Rattle.std.specs.Ordering.{nat_cmp}
use Rattle.pick_problem.specs.Problem.{PlainProblem, Rising, value_of, weight_of}
use Rattle.random_draw.specs.Draw.{with_place}
use Rattle.random_draw.specs.declared.kept.Kept.{Kept}

-- a list's numbers, rising
abbrev pub sorted_up : List ℕ → List ℕ
sorted_up [] = []
sorted_up (x ∷ xs) = with_place x (sorted_up xs)

-- the kept places, rising
abbrev pub places_of : Kept → List ℕ
places_of kept = sorted_up (heap_items kept.heap)

-- the kept places are places of the pool, the greatest is at hand, and their sums are known
pub record AreKeptPlaces (p : PlainProblem) (kept : Kept) : Type 0 where
  pub heap : IsHeap nat_cmp (heap_items kept.heap)
  pub rising : Rising (length p.items) 0 (places_of kept)
  pub value : kept.value ≡ value_of p (places_of kept)
  pub weight : kept.weight ≡ weight_of p (places_of kept)

-- how often a number stands in a list
abbrev pub times : ℕ → List ℕ → ℕ
times j xs = count_by (λ k. k == j) xs

-- places to be added: each a place of the pool, and none twice or kept already
pub record AreFresh (p : PlainProblem) (kept rest : List ℕ) : Type 0 where
  pub below : All (λ j. j < length p.items) rest
  pub once : (j : ℕ) → times j kept + times j rest ≤ 1

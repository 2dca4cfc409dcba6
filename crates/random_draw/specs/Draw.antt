-- The draw (Bitcoin Core, single random draw): what is kept after each addition, and what is found.
--
-- The guarantee: what a draw finds is an admissible selection, and follows from the problem and the seed alone. It is
-- what is kept after the first addition with which that reaches lo: too heavy selections lose their least valuable
-- places first. Where no addition reaches lo nothing is found, which doesn't say that nothing is admissible.
use Rattle.std.specs.Prelude.{ℕ, zero, suc, ◌==◌, List, [], ◌∷◌, length, filter, max, not, Option, Some, None, if◌then◌else◌, nat_lt, nat_le}
use Rattle.pick_problem.specs.Pool.{item_at}
use Rattle.pick_problem.specs.Problem.{PlainProblem, value_of, weight_of}
use Rattle.random_draw.specs.Order.{order_of}

-- rising places with one more among them
unfoldable pub with_place : ℕ → List ℕ → List ℕ
with_place j [] = j ∷ []
with_place j (k ∷ ks) = if nat_lt j k then j ∷ k ∷ ks else k ∷ with_place j ks

-- which of two places is dropped first: that of the less value, on a tie the greater place
unfoldable pub sooner : PlainProblem → ℕ → ℕ → ℕ
sooner p j k =
    if nat_lt (item_at p.items j).value (item_at p.items k).value then j else
    if nat_lt (item_at p.items k).value (item_at p.items j).value then k else max j k

-- which of j and the places ks is dropped first
unfoldable pub first_dropped : PlainProblem → ℕ → List ℕ → ℕ
first_dropped p j [] = j
first_dropped p j (k ∷ ks) = first_dropped p (sooner p j k) ks

-- the places without one of them
unfoldable pub without : ℕ → List ℕ → List ℕ
without j ks = filter (λ k. not (k == j)) ks

-- the places without the least valuable one, on a tie without the greatest of these
unfoldable pub one_less : PlainProblem → List ℕ → List ℕ
one_less p [] = []
one_less p (j ∷ js) = without (first_dropped p j js) (j ∷ js)

-- while the places weigh more than the limit, the least valuable one is dropped, at most n times
unfoldable pub trimmed : PlainProblem → ℕ → List ℕ → List ℕ
trimmed p zero kept = kept
trimmed p (suc n) kept = if nat_lt p.most_weight (weight_of p kept) then trimmed p n (one_less p kept) else kept

-- what is kept once the place j is added to what was kept
unfoldable pub kept_with : PlainProblem → List ℕ → ℕ → List ℕ
kept_with p kept j = trimmed p (length (with_place j kept)) (with_place j kept)

-- what is kept when it first reaches lo as these places are added; nothing where it never does
unfoldable pub found_from : PlainProblem → List ℕ → List ℕ → Option (List ℕ)
found_from p kept [] = None
found_from p kept (j ∷ js) = if nat_le p.lo (value_of p (kept_with p kept j)) then Some (kept_with p kept j) else found_from p (kept_with p kept j) js

-- what the draw of a problem finds by a seed of 32 bytes
unfoldable pub draw_of : PlainProblem → List ℕ → Option (List ℕ)
draw_of p seed = found_from p [] (order_of seed (length p.items))

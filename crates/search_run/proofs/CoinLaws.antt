-- How many coins stand at places, counted one after another.
use Rattle.std.specs.Prelude.{ℕ, ◌≡◌, ◌+◌, ◌*◌, ◌<◌, ◌≤◌, List, [], ◌∷◌, length, take, get_or, slice_index_or}
use Rattle.std.proofs.Common.{arith, ap, ◌∙◌}
use Rattle.std.proofs.lemmas.List.{take_more}
use Rattle.std.proofs.lemmas.List.Elements.{All-from_recursion}
use Rattle.std.proofs.lemmas.List.Sums.{sum_by-append}
use Rattle.pick_problem.specs.Problem.{Rising}
use Rattle.pick_problem.proofs.SumLaws.{place_below, places_few}
use Rattle.search_run.specs.Found.{coins_at}
use Rattle.search_run.specs.Step.{IsStep, PlainStep}

-- the first i places were counted
pub record CoinsSoFar (x : PlainStep) (places : List ℕ) (i sum : ℕ) : Type 0 where
  pub is : sum ≡ coins_at x (take i places)
  pub small : sum ≤ i * 100

pub coins_more : (x : PlainStep) (sizes places : List ℕ) (i sum n : ℕ) → IsStep x → sizes ≡ x.sizes → Rising (length x.problem.items) 0 places → i < length places → n ≡ get_or sizes (get_or places i 0) 0 → CoinsSoFar x places i sum → CoinsSoFar x places (i + 1) (sum + n)
coins_more x sizes places i sum n is same rising below at so =
    let j : ℕ = get_or places i 0 in
    let there : j < length x.sizes = omega (arith, place_below (length x.problem.items) places i rising below, is.sizes) in
    let few : get_or x.sizes j 0 ≤ 100 = All-from_recursion (λ (n : ℕ). n ≤ 100) x.sizes is.few j 0 there in
    let here : n ≡ get_or x.sizes j 0 = at ∙ ap (λ (xs : List ℕ). get_or xs j 0) same in
    let size : ℕ → ℕ = λ k. slice_index_or x.sizes k 0 in
    let more : coins_at x (take (i + 1) places) ≡ coins_at x (take i places) + coins_at x (j ∷ []) = ap (coins_at x) (take_more places i 0 below) ∙ sum_by-append size (take i places) (j ∷ []) in
    record { is = omega (arith, more, here, so.is); small = omega (arith, few, here, so.small) }

pub place_there : (x : PlainStep) (sizes places : List ℕ) (i : ℕ) → IsStep x → sizes ≡ x.sizes → Rising (length x.problem.items) 0 places → i < length places → get_or places i 0 < length sizes
place_there x sizes places i is same rising below = omega (arith, place_below (length x.problem.items) places i rising below, is.sizes, ap length same)

-- they are at most a million
pub coins_few : (x : PlainStep) (places : List ℕ) (i sum : ℕ) → IsStep x → Rising (length x.problem.items) 0 places → i ≤ length places → CoinsSoFar x places i sum → sum ≤ 1_000_000
coins_few x places i sum is rising below so = omega (arith, so.small, places_few (length x.problem.items) places rising, is.problem.items.few)

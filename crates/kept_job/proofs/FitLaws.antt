-- The numbers of a list fit their type, taken one by one.
use Rattle.std.proofs.Common.{◌≤◌, ◌<◌, ℕ, suc, List, [], ◌∷◌, get_or, arith}
use Rattle.std.specs.List.{AllByRecursion}

pub all_small : (ps : List ℕ) → ((i : ℕ) → get_or ps i 0 < 4_294_967_296) → AllByRecursion (λ p. p ≤ 4_294_967_295) ps
all_small [] h = tt
all_small (p ∷ ps) h = (omega (arith, h 0), all_small ps (λ i. h (suc i)))

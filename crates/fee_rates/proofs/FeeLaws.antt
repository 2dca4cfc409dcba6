-- Laws of fees and virtual sizes, all from their being least.
use Rattle.std.specs.Prelude.{ℕ, ◌≡◌, ◌+◌, ◌*◌, ◌≤◌, List, [], ◌∷◌, sum, sum_by}
use Rattle.std.proofs.Common.{arith}
use Rattle.std.proofs.lemmas.Nat.{mul-le}
use Rattle.std.proofs.lemmas.List.Sums.{sum_by-cons}
use Rattle.fund_base.specs.Least.{IsLeast}
use Rattle.fee_rates.specs.Fee.{fee_of, vsize_of, input_fee_of}

pub fee_least : (r v : ℕ) → IsLeast (λ f. r * v ≤ 1000 * f) (fee_of r v)
unfolding fee_of
fee_least r v = record { holds = omega arith; least = λ m h. omega arith }

pub vsize_least : (w : ℕ) → IsLeast (λ v. w ≤ 4 * v) (vsize_of w)
unfolding vsize_of
vsize_least w = record { holds = omega arith; least = λ m h. omega arith }

pub fee_below : (r v s u : ℕ) → r ≤ s → v ≤ u → fee_of r v ≤ fee_of s u
fee_below r v s u low small = (fee_least r v).least (fee_of s u) (omega (arith, (fee_least s u).holds, mul-le r v s u low small))

pub vsize_below : (v w : ℕ) → v ≤ w → vsize_of v ≤ vsize_of w
vsize_below v w small = (vsize_least v).least (vsize_of w) (omega (arith, (vsize_least w).holds))

pub fee_parts : (r a b : ℕ) → fee_of r (a + b) ≤ fee_of r a + fee_of r b
fee_parts r a b = (fee_least r (a + b)).least (fee_of r a + fee_of r b) (omega (arith, (fee_least r a).holds, (fee_least r b).holds))

pub vsize_parts : (a b : ℕ) → vsize_of (a + b) ≤ vsize_of a + vsize_of b
vsize_parts a b = (vsize_least (a + b)).least (vsize_of a + vsize_of b) (omega (arith, (vsize_least a).holds, (vsize_least b).holds))

pub input_fee_below : (r s v w : ℕ) → r ≤ s → v ≤ w → input_fee_of r v ≤ input_fee_of s w
input_fee_below r s v w low small = fee_below r (vsize_of v) s (vsize_of w) low (vsize_below v w small)

pub input_fee_parts : (r a b : ℕ) → input_fee_of r (a + b) ≤ input_fee_of r a + input_fee_of r b
input_fee_parts r a b =
    omega (arith, fee_below r (vsize_of (a + b)) r (vsize_of a + vsize_of b) (omega arith) (vsize_parts a b), fee_parts r (vsize_of a) (vsize_of b))

-- the virtual size of whole bytes without a witness is their number
pub vsize_bytes : (size : ℕ) → vsize_of (4 * size) ≡ size
unfolding vsize_of
vsize_bytes size = omega arith

pub fee_at_dust_rate : (v : ℕ) → fee_of 3000 v ≡ 3 * v
unfolding fee_of
fee_at_dust_rate v = omega arith

-- for anything that has a weight
pub weighed_parts : {X : Type 0} (weight : X → ℕ) (r base : ℕ) (xs : List X) → input_fee_of r (base + sum_by weight xs) ≤ input_fee_of r base + sum_by (λ x. input_fee_of r (weight x)) xs
weighed_parts weight r base [] = omega (arith, input_fee_below r r (base + 0) base (omega arith) (omega arith))
weighed_parts {X = X} weight r base (x ∷ xs) =
    omega (
      arith,
      weighed_parts weight r (base + weight x) xs,
      input_fee_parts r base (weight x),
      input_fee_below r r (base + sum_by weight (x ∷ xs)) (base + weight x + sum_by weight xs) (omega arith) (omega (arith, sum_by-cons weight x xs)),
      sum_by-cons (λ (y : X). input_fee_of r (weight y)) x xs,
    )

-- sizes together
pub each_parts : {X : Type 0} (size : X → ℕ) (r whole : ℕ) (xs : List X) → fee_of r (whole + sum_by size xs) ≤ fee_of r whole + sum_by (λ x. fee_of r (size x)) xs
each_parts size r whole [] = omega (arith, fee_below r (whole + 0) r whole (omega arith) (omega arith))
each_parts {X = X} size r whole (x ∷ xs) =
    omega (
      arith,
      each_parts size r (whole + size x) xs,
      fee_parts r whole (size x),
      fee_below r (whole + sum_by size (x ∷ xs)) r (whole + size x + sum_by size xs) (omega arith) (omega (arith, sum_by-cons size x xs)),
      sum_by-cons (λ (y : X). fee_of r (size y)) x xs,
    )

pub sizes_parts : (r size : ℕ) (sizes : List ℕ) → fee_of r (size + sum sizes) ≤ fee_of r size + sum_by (fee_of r) sizes
sizes_parts r size sizes = each_parts (λ (n : ℕ). n) r size sizes

pub payment_parts : (r base : ℕ) (weights : List ℕ) → input_fee_of r (base + sum weights) ≤ input_fee_of r base + sum_by (input_fee_of r) weights
payment_parts r base weights = weighed_parts (λ (w : ℕ). w) r base weights

pub change_parts : (r base size : ℕ) (weights : List ℕ) → input_fee_of r (base + sum weights + 4 * size) ≤ input_fee_of r base + sum_by (input_fee_of r) weights + fee_of r size
change_parts r base size weights =
    omega (
      arith,
      payment_parts r base weights,
      input_fee_parts r (base + sum weights) (4 * size),
      fee_below r (vsize_of (4 * size)) r size (omega arith) (omega (arith, vsize_bytes size)),
    )

-- What is left of declared weights, input by input.
use Rattle.std.proofs.Common.{◌≡◌, ◌∙◌, ◌+◌, ◌-◌, ◌*◌, ◌<◌, ◌≤◌, ℕ, List, length, get_or, take, sym, ap, arith, take_all}
use Rattle.std.specs.Prelude.{Some, slice_get, sum, sum_by}
use Rattle.std.proofs.lemmas.Option.{get_or_from_slice_get, slice_get_within}
use Rattle.std.proofs.lemmas.List.Sums.{sum_by-take-le, sum_by_more}
use Rattle.tx_codec.specs.declared.tx.TxOut.{TxOut}
use Rattle.settle_check.specs.Settled.{worth_of}

-- What is left of the first i declared weights: with what those inputs weigh it makes up what was declared.
pub record SpareSoFar {X : Type 0} (f : X → ℕ) (declared : List ℕ) (xs : List X) (i spare : ℕ) : Type 0 where
  pub total : spare + sum_by f (take i xs) ≡ sum (take i declared)
  pub most : spare ≤ 400_000 * i

pub spare_next : {X : Type 0} (f : X → ℕ) (declared : List ℕ) (xs : List X) (i spare d w : ℕ) (x : X) → slice_get declared i ≡ Some d → slice_get xs i ≡ Some x
    → w ≡ f x → w ≤ d → d ≤ 400_000 → SpareSoFar f declared xs i spare → SpareSoFar f declared xs (i + 1) (spare + (d - w))
spare_next f declared xs i spare d w x told stands weighs le most so_far =
    let lt : i < length declared = slice_get_within declared i d told in
    let lt' : i < length xs = slice_get_within xs i x stands in
    let named : get_or declared i d ≡ d = get_or_from_slice_get declared i d d told in
    let more : sum_by f (take (i + 1) xs) ≡ sum_by f (take i xs) + f (get_or xs i x) = sum_by_more f xs i x lt' in
    let here : f (get_or xs i x) ≡ w = ap f (get_or_from_slice_get xs i x x stands) ∙ sym weighs in
    let told_more : sum (take (i + 1) declared) ≡ sum (take i declared) + get_or declared i d = sum_by_more (λ (n : ℕ). n) declared i d lt in
    let total = so_far.total in
    let so_most = so_far.most in
    record { total = omega (arith, more, here, told_more, named, total, le); most = omega (arith, so_most, most) }

-- ---- what outputs are worth, one after another

-- the first of them so far, each worth at most 21,000,000 bitcoin
pub record WorthSoFar (outputs : List TxOut) (i so_far : ℕ) : Type 0 where
  pub total : so_far ≡ worth_of (take i outputs)
  pub most : so_far ≤ 2_100_000_000_000_000 * i
  pub within : i ≤ length outputs

pub worth_next : (outputs : List TxOut) (i so_far n : ℕ) (o : TxOut) → i < length outputs → o ≡ get_or outputs i o → n ≡ o.value → so_far ≡ worth_of (take i outputs) → so_far + n ≡ worth_of (take (i + 1) outputs)
worth_next outputs i so_far n o lt stands is total =
    let more : worth_of (take (i + 1) outputs) ≡ worth_of (take i outputs) + (get_or outputs i o).value = sum_by_more (λ (x : TxOut). x.value) outputs i o lt in
    let here : o.value ≡ (get_or outputs i o).value = ap (λ (x : TxOut). x.value) stands in
    omega (arith, more, here, is, total)

pub worth_within : (outputs : List TxOut) (i so_far n : ℕ) (o : TxOut) → i < length outputs → o ≡ get_or outputs i o → n ≡ o.value → so_far ≡ worth_of (take i outputs) → so_far + n ≤ worth_of outputs
worth_within outputs i so_far n o lt stands is total =
    let next = worth_next outputs i so_far n o lt stands is total in
    let within : worth_of (take (i + 1) outputs) ≤ worth_of outputs = sum_by-take-le (λ (x : TxOut). x.value) outputs (i + 1) in
    omega (arith, next, within)

pub worth_all : (outputs : List TxOut) (i so_far : ℕ) → length outputs ≤ i → so_far ≡ worth_of (take i outputs) → so_far ≡ worth_of outputs
worth_all outputs i so_far le total = total ∙ ap (λ (l : List TxOut). worth_of l) (take_all i outputs le)

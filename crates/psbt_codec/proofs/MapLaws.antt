-- Reading the pairs of a map, as a loop over the bytes that are left does.
use Rattle.std.proofs.Common.{◌≡◌, ◌≢◌, ℕ, suc, ◌-◌, ◌+◌, ◌≤◌, ◌<◌, List, [], ◌∷◌, ◌++◌, Ok, Err, refl, sym, ap, ◌∙◌, arith, inl, inr}
use Rattle.std.specs.Prelude.{◌⊎◌, Some, None}
use Rattle.fund_base.specs.Cursor.{At}
use Rattle.psbt_codec.specs.declared.fault.PsbtFault.{PsbtFault}
use Rattle.psbt_codec.specs.declared.fault.PsbtFault.TheVariants.{Truncated, Memory}
use Rattle.psbt_codec.specs.declared.pairs.Part.{Part}
use Rattle.psbt_codec.specs.FirstPair.{HasFirstPair}
use Rattle.psbt_codec.specs.Psbt.{Pair}
use Rattle.psbt_codec.specs.Reading.{pair_at, pairs_within}

-- what the loop has read after i pairs: reading goes on from here as it would have from the first, and either nothing was
-- read yet, or the map has a first pair
pub record PairsSoFar (part : Part) (count : ℕ) (from : At) (done : List Pair) (i : ℕ) (now : At) : Type 0 where
  pub goes_on : pairs_within (count - i) part done now ≡ pairs_within count part [] from
  pub begun : ((done ≡ []) × (now ≡ from)) ⊎ HasFirstPair part from

-- a pair that was read after these is the first of the map, or some pair before it was
pub first_read : (part : Part) (from : At) (done : List Pair) (now : At) (pair : Pair) (next : At)
    → pair_at part done now ≡ Ok (Some pair, next) → ((done ≡ []) × (now ≡ from)) ⊎ HasFirstPair part from → HasFirstPair part from
first_read part from done now pair next h begun =
    elim begun [
      | inl none ↦ let first : pair_at part [] from ≡ Ok (Some pair, next) = rw (none.0, none.1) at h in rw first refl
      | inr has ↦ has
    ]

pub pairs_none : (part : Part) (count : ℕ) (from : At) → PairsSoFar part count from [] 0 from
pairs_none part count from =
    let k : count - 0 ≡ count = omega arith in
    record { goes_on = ap (λ (n : ℕ). pairs_within n part [] from) k; begun = inl (refl, refl) }

pub pairs_more : (part : Part) (count : ℕ) (from : At) (done : List Pair) (i : ℕ) (now : At) (pair : Pair) (next : At)
    → i < count → pair_at part done now ≡ Ok (Some pair, next) → PairsSoFar part count from done i now → PairsSoFar part count from (done ++ pair ∷ []) (i + 1) next
unfolding pairs_within
pairs_more part count from done i now pair next lt h so_far =
    let k : count - i ≡ suc (count - (i + 1)) = omega arith in
    let one : pairs_within (count - i) part done now ≡ pairs_within (count - (i + 1)) part (done ++ pair ∷ []) next = rw (k, h) refl in
    record { goes_on = sym one ∙ so_far.goes_on; begun = inr (first_read part from done now pair next h so_far.begun) }

pub pairs_end : (part : Part) (count : ℕ) (from : At) (done : List Pair) (i : ℕ) (now next : At)
    → i < count → pair_at part done now ≡ Ok (None, next) → PairsSoFar part count from done i now → pairs_within count part [] from ≡ Ok (done, next)
unfolding pairs_within
pairs_end part count from done i now next lt h so_far =
    let k : count - i ≡ suc (count - (i + 1)) = omega arith in
    let one : pairs_within (count - i) part done now ≡ Ok (done, next) = rw (k, h) refl in
    sym so_far.goes_on ∙ one

pub pairs_cut : (part : Part) (count : ℕ) (from : At) (done : List Pair) (i : ℕ) (now : At)
    → count ≤ i → PairsSoFar part count from done i now → pairs_within count part [] from ≡ Err (Truncated now.place)
unfolding pairs_within
pairs_cut part count from done i now le so_far =
    let k : count - i ≡ 0 = omega arith in
    let one : pairs_within (count - i) part done now ≡ Err (Truncated now.place) = rw k refl in
    sym so_far.goes_on ∙ one

pub pairs_fail : (part : Part) (count : ℕ) (from : At) (done : List Pair) (i : ℕ) (now : At) (e : PsbtFault)
    → i < count → (e ≢ Memory → pair_at part done now ≡ Err e) → PairsSoFar part count from done i now → e ≢ Memory → pairs_within count part [] from ≡ Err e
unfolding pairs_within
pairs_fail part count from done i now e lt h so_far other =
    let k : count - i ≡ suc (count - (i + 1)) = omega arith in
    let one : pairs_within (count - i) part done now ≡ Err e = rw (k, h other) refl in
    sym so_far.goes_on ∙ one

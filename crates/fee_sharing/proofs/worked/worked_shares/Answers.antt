use Rattle.std.proofs.Common.{◌<◌, ℕ, zero, suc, arith, refl}
use Rattle.std.specs.Prelude.{[], ◌∷◌}
use Rattle.fee_sharing.specs.Shares.{FallsShort, left_of}
use Rattle.fee_sharing.proofs.worked.worked_shares.Goals as goal

pub returns-clause-three : goal.returns-clause-three
unfolding left_of
returns-clause-three c = refl

pub returns-clause-two : goal.returns-clause-two
unfolding left_of
returns-clause-two c = refl

none_before : (k : ℕ) → k < 1 → FallsShort 2_030 (70_000 ∷ 294 ∷ []) (294 ∷ 294 ∷ []) k → ⊥
none_before zero below short = absurd (omega (arith, short))
none_before (suc k) below short = absurd (omega (arith, below))

pub returns-clause-dust : goal.returns-clause-dust
returns-clause-dust c = record { within = omega arith; short = omega arith; before = none_before }

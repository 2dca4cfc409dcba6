use Rattle.std.proofs.Common.{◌<◌, ℕ}
use Rattle.fee_sharing.specs.Shares.{FallsShort}
use Rattle.fee_sharing.proofs.share_list.first_short.Given as goal

abbrev pub invariant-loop-place : goal.invariant-loop-place
invariant-loop-place l = (k : ℕ) → k < l.place → FallsShort l.borne l.amounts l.dusts k → ⊥

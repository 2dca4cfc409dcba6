use Rattle.std.proofs.Common.{◌<◌, ℕ}
use Rattle.settle_check.specs.Broken.{IsUnsignedAt}
use Rattle.settle_check.proofs.signatures.unsigned.Given as goal

abbrev pub invariant-loop-i : goal.invariant-loop-i
invariant-loop-i l = (k : ℕ) → k < l.i → IsUnsignedAt l.inputs k → ⊥

use Rattle.std.proofs.Common.{◌<◌, ℕ}
use Rattle.settle_check.specs.Broken.{IsHeavierAt}
use Rattle.settle_check.proofs.weights.heavier.Given as goal

abbrev pub invariant-loop-i : goal.invariant-loop-i
invariant-loop-i l = (k : ℕ) → k < l.i → IsHeavierAt l.declared l.signed k → ⊥

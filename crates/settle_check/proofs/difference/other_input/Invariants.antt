use Rattle.std.proofs.Common.{◌≡◌, ◌<◌, ℕ, map}
use Rattle.std.specs.Prelude.{slice_get}
use Rattle.settle_check.specs.Settled.{bare_input}
use Rattle.settle_check.proofs.difference.other_input.Given as goal

abbrev pub invariant-loop-i : goal.invariant-loop-i
invariant-loop-i l = (k : ℕ) → k < l.i → slice_get (map bare_input l.made) k ≡ slice_get (map bare_input l.given) k

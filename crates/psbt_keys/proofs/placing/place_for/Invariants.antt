use Rattle.std.proofs.Common.{◌≡◌, ◌<◌, ℕ, false, get_or}
use Rattle.psbt_codec.specs.Psbt.{Pair}
use Rattle.psbt_keys.specs.Placing.{comes_before}
use Rattle.psbt_keys.proofs.placing.place_for.Given as goal

abbrev pub invariant-loop-place : goal.invariant-loop-place
invariant-loop-place l = (k : ℕ) (d : Pair) → k < l.place → comes_before l.key (get_or l.pairs k d).key ≡ false

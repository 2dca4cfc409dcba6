use Rattle.psbt_codec.proofs.CountLoops.{Walked}
use Rattle.psbt_codec.proofs.counts.check_type.Given as goal

abbrev pub invariant-loop-pair : goal.invariant-loop-pair
invariant-loop-pair l = Walked l.kind l.fn.place l.pairs l.pair-index l.place

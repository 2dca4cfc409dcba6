use Rattle.psbt_codec.proofs.MapLaws.{PairsSoFar}
use Rattle.std.proofs.Common.{length}
use Rattle.psbt_codec.proofs.pairs.pairs_of.Given as goal

abbrev pub invariant-loop : goal.invariant-loop
invariant-loop l = PairsSoFar l.part (length l.fn.cursor.rest) l.fn.cursor l.seen l.counter l.cursor

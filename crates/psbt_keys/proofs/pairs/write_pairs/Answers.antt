use Rattle.psbt_keys.proofs.ReadLaws.{wrote_more}
use Rattle.psbt_keys.proofs.pairs.write_pairs.Goals as goal

pub loop-pair-preserved : goal.loop-pair-preserved
loop-pair-preserved c = wrote_more c.args.pairs.now c.args.out.now.items c.loop-pair.out.items c.write_pair.new.out.items c.loop-pair.pair-index c.pair-item.result c.loop-pair-test.true c.pair-item.is c.in_ok-write_pair.ensures.text c.in_ok-write_pair.ensures.lengths c.loop-pair.invariant

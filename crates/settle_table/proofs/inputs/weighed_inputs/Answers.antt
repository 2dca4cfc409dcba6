use Rattle.std.proofs.Common.{refl}
use Rattle.std.specs.Prelude.{slice_index_or}
use Rattle.settle_table.proofs.WeighedLaws.{weighed_all, weighed_next}
use Rattle.settle_table.proofs.inputs.weighed_inputs.Goals as goal

pub loop-i-preserved : goal.loop-i-preserved
loop-i-preserved c =
    weighed_next c.args.segwit c.args.inputs.now c.args.declared.now c.requires c.loop-i.i c.index-inputs-i.result (slice_index_or c.args.declared.now c.loop-i.i 0) c.loop-i.found.items _ c.weighed.result c.loop-i-test.true c.index-inputs-i.is refl c.loop-i.invariant
    c.in_ok-push.ensures.items c.weighed.ensures

pub returns : goal.returns
returns c = weighed_all c.args.segwit c.args.inputs.now c.args.declared.now c.requires c.loop-i.i c.loop-i.found.items c.loop-i-test.false c.loop-i.invariant

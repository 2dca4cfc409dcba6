use Rattle.block_feed.specs.Names.{held_block}
use Rattle.block_feed.specs.declared.reading.BlockNames.{BlockNames}
use Rattle.block_feed.proofs.BlockLaws.{yields_linked}
use Rattle.block_feed.proofs.OwnFaults.{yields_never}
use Rattle.block_feed.proofs.reading.names_of.Goals as goal

pub returns-clause-linked : goal.returns-clause-linked
returns-clause-linked c = yields_linked (λ (b : BlockNames). held_block c.args.height b.hash c.args.bytes.now) _ _ c.args.bytes.now c.names_in.result c.names_in.ensures.bytes c.names_in.ensures.gives

pub returns-clause-never_memory : goal.returns-clause-never_memory
returns-clause-never_memory c = yields_never (λ (b : BlockNames). held_block c.args.height b.hash c.args.bytes.now) c.args.previous.now c.args.height c.args.bytes.now c.names_in.result c.requires c.names_in.ensures.bytes c.names_in.ensures.gives

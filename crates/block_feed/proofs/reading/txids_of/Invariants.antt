use Rattle.fund_base.proofs.Repeat.{SoFar}
use Rattle.block_feed.specs.Names.{name_at}
use Rattle.block_feed.proofs.reading.txids_of.Given as goal

abbrev pub invariant-loop : goal.invariant-loop
invariant-loop l = SoFar (λ _. name_at) l.count l.fn.cursor l.txids.items l.counter l.cursor

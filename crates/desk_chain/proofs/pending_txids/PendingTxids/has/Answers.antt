use Rattle.std.proofs.Common.{◌∙◌}
use Rattle.desk_chain.proofs.pending_txids.PendingTxids.has.Goals as goal

pub returns : goal.returns
returns c = λ pending h. c.contains.ensures ∙ h.txids c.args.id.now

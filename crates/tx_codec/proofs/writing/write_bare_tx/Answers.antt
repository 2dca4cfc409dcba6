use Rattle.std.proofs.Common.{[]}
use Rattle.tx_codec.proofs.writing.write_bare_tx.Goals as goal

pub returns : goal.returns
returns c = c.in_ok-write_bare.ensures.feeds [] c.new-text.ensures.items

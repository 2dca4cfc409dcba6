use Rattle.std.proofs.Common.{[]}
use Rattle.tx_codec.proofs.writing.write_tx.Goals as goal

pub returns : goal.returns
returns c = c.in_ok-write_text.ensures.feeds [] c.new-text.ensures.items

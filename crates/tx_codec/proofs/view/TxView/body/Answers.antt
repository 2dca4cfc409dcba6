use Rattle.std.proofs.Common.{subst}
use Rattle.tx_codec.specs.Transaction.{Transaction}
use Rattle.tx_codec.specs.Views.{HasBody}
use Rattle.tx_codec.proofs.LentSteps.{body_there}
use Rattle.tx_codec.proofs.view.TxView.body.Goals as goal

pub returns : goal.returns
returns c =
    subst (λ (t : Transaction). HasBody t c.new.result) c.self.view_is
    (body_there c.self.inside.text.now c.self.inside.segwit c.self.inside.len c.start_of.result c.split_at.result.1.now c.new.result c.self.invariant c.start_of.ensures c.split_at.ensures.back c.new.ensures)

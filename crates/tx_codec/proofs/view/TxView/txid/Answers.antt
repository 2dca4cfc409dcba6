use Rattle.std.proofs.Common.{◌∙◌, ap}
use Rattle.tx_codec.specs.Transaction.{Transaction}
use Rattle.tx_codec.specs.Txid.{txid_of}
use Rattle.tx_codec.proofs.ViewSteps.{txid_is}
use Rattle.tx_codec.proofs.view.TxView.txid.Goals as goal

pub returns : goal.returns
returns c =
    c.txid_of_parts.ensures
    ∙ txid_is c.self.inside.text.now c.self.inside.segwit c.self.inside.len c.split_at.result.0.now c.split_at-2.result.1.now c.split_at-3.result.0.now c.split_at-4.result.1.now c.start_of.result c.self.invariant
    c.split_at.ensures.front c.start_of.ensures c.split_at-2.ensures.back c.split_at-3.ensures.front c.split_at-4.ensures.back
    ∙ ap (λ (t : Transaction). txid_of t) c.self.view_is

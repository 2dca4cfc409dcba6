use Rattle.std.proofs.Common.{◌∙◌, ◌∷◌, ◌++◌, [], List, ap}
use Rattle.tx_codec.specs.declared.tx.TxIn.{TxIn}
use Rattle.psbt_codec.specs.declared.psbt.Spent.{Spent}
use Rattle.psbt_codec.proofs.FieldLoops.{zip_push}
use Rattle.psbt_codec.proofs.fields.Inputs.with.Goals as goal

pub returns : goal.returns
returns c = rw (c.in_ok-push.ensures.items, c.in_ok-push-2.ensures.items)
    (zip_push c.self.inside.inputs.items c.self.inside.spent.items c.args.input c.args.known c.self.invariant ∙ ap (λ (l : List (TxIn × Spent)). l ++ (c.args.input, c.args.known) ∷ []) c.self.view_is)

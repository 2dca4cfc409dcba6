use Rattle.std.proofs.Common.{◌∙◌, ◌≡◌, List, ap, subst}
use Rattle.std.specs.Prelude.{IfErr}
use Rattle.std.specs.List.{zip}
use Rattle.psbt_codec.specs.PartialTransaction.{PartialTransaction}
use Rattle.psbt_codec.specs.declared.psbt.Psbt.TheInside.{Inside}
use Rattle.psbt_codec.specs.declared.psbt.Spent.{Spent}
use Rattle.tx_codec.specs.declared.tx.TxIn.{TxIn}
use Rattle.command_settle.specs.Stops.{IsValueFault, StopsBy}
use Rattle.command_settle.proofs.payment.outputs_of.Goals as goal

pub returns-clause-stop : goal.returns-clause-stop
returns-clause-stop c =
    let inputs : c.deref.result.now ≡ c.args.psbt.now.tx.inputs = c.deref.ensures.value ∙ ap (λ (x : Inside). x.tx.inputs) c.psbt-inside.view_is ∙ ap (λ (p : PartialTransaction). p.tx.inputs) c.psbt.view_is in
    let spent : c.deref-2.result.now ≡ c.args.psbt.now.spent = c.deref-2.ensures.value ∙ ap (λ (x : Inside). x.spent.items) c.psbt-inside.view_is ∙ ap (λ (p : PartialTransaction). p.spent) c.psbt.view_is in
    subst (λ (is : List TxIn). IfErr c.spent_outputs.result (StopsBy (IsValueFault (zip is c.args.psbt.now.spent)))) inputs
    (subst (λ (ss : List Spent). IfErr c.spent_outputs.result (StopsBy (IsValueFault (zip c.deref.result.now ss)))) spent c.spent_outputs.ensures.stop)

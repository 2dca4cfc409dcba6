use Rattle.std.proofs.Common.{◌≡◌, ◌∙◌, List, map, ap, rules}
use Rattle.std.specs.Prelude.{is_none}
use Rattle.tx_codec.specs.Transaction.{Transaction}
use Rattle.tx_codec.specs.declared.tx.TxIn.{TxIn}
use Rattle.known_fees.specs.Worth.{first_foreign}
use Rattle.known_fees.proofs.MissingLaws.{known_where}
use Rattle.known_fees.proofs.shortfall.are_known.Goals as goal

pub returns : goal.returns
returns c =
    let h = c.args.book.now in
    let ts = c.args.txs.now in
    let none : c.is_none.result ≡ is_none c.foreign_input.result = search rules in
    let inputs = c.deref.ensures.value ∙ ap (λ (t : Transaction). t.inputs) c.tx.view_is in
    none
    ∙ ap is_none (c.foreign_input.ensures ∙ ap (λ (is : List TxIn). first_foreign h ts (map (λ (i : TxIn). i.prev) is)) inputs)
    ∙ known_where h ts c.args.tx.now

use Rattle.std.proofs.Common.{◌∙◌, List, map, sym, ap}
use Rattle.std.proofs.lemmas.List.{take_all}
use Rattle.tx_codec.specs.Transaction.{Transaction}
use Rattle.tx_codec.specs.declared.tx.TxIn.{TxIn}
use Rattle.known_fees.specs.Worth.{first_foreign}
use Rattle.fee_bump.specs.Faults.{foreign_in, points_of}
use Rattle.fee_bump.proofs.TogetherSteps.{foreign_in_none, foreign_in_one}
use Rattle.fee_bump.proofs.together.foreign.Goals as goal

pub returns-in-Some : goal.returns-in-Some
unfolding foreign_in
returns-in-Some c =
    sym (foreign_in_one c.args.book.now c.args.txs.now c.args.txs.now c.loop-tx.tx-index c.tx-item.result c.in-Some.point c.loop-tx-test.true c.tx-item.is c.loop-tx.invariant (ap (λ (l : List TxIn). first_foreign c.args.book.now c.args.txs.now (map (λ (x : TxIn). x.prev) l)) (sym (c.deref.ensures.value ∙ ap (λ (t : Transaction). t.inputs) c.tx.view_is)) ∙ sym c.foreign_input.ensures ∙ c.in-Some.is))

pub loop-tx-preserved : goal.loop-tx-preserved
loop-tx-preserved c =
    foreign_in_none c.args.book.now c.args.txs.now c.args.txs.now c.loop-tx.tx-index c.tx-item.result c.loop-tx-test.true c.tx-item.is c.loop-tx.invariant (ap (λ (l : List TxIn). first_foreign c.args.book.now c.args.txs.now (map (λ (x : TxIn). x.prev) l)) (sym (c.deref.ensures.value ∙ ap (λ (t : Transaction). t.inputs) c.tx.view_is)) ∙ sym c.foreign_input.ensures ∙ c.in-None.is)

pub returns : goal.returns
unfolding foreign_in
returns c =
    sym (ap (λ (ts : List Transaction). first_foreign c.args.book.now c.args.txs.now (points_of ts)) (sym (take_all c.loop-tx.tx-index c.args.txs.now c.loop-tx-test.false)) ∙ c.loop-tx.invariant)

use Rattle.std.proofs.Common.{◌∙◌, [], ◌∷◌, ◌++◌, List, map, sym, ap, arith}
use Rattle.std.proofs.lemmas.List.{map_more, take_all}
use Rattle.tx_codec.specs.Transaction.{Transaction}
use Rattle.tx_codec.specs.Txid.{txid_of}
use Rattle.payment_states.proofs.graph.txids_of.Goals as goal

pub loop-tx-preserved : goal.loop-tx-preserved
loop-tx-preserved c =
    let i = c.loop-tx.tx-index in
    let ts = c.args.pending.now in (
      c.in_ok-push.ensures.items
          ∙ (λ k. c.loop-tx.invariant.0 k ++ (c.txid.ensures ∙ ap txid_of c.tx-item.is) k ∷ [])
          ∙ sym (map_more txid_of ts i c.tx-item.result c.loop-tx-test.true),
      omega (arith, c.in_ok-push.ensures.len),
    )

pub loop-tx-init : goal.loop-tx-init
loop-tx-init c = (c.new-txids.ensures.items, c.new-txids.ensures.len)

pub returns-clause-txids : goal.returns-clause-txids
returns-clause-txids c = c.loop-tx.invariant.0 ∙ ap (λ (ts : List Transaction). map txid_of ts) (take_all c.loop-tx.tx-index c.args.pending.now c.loop-tx-test.false)

pub returns-clause-len : goal.returns-clause-len
returns-clause-len c = omega (arith, c.loop-tx.invariant.1)

use Rattle.std.proofs.Common.{◌≤◌, ◌∙◌, List, length, ap, subst, sym, true≢false}
use Rattle.indexmap.specs.IndexSet.{spare}
use Rattle.tx_codec.specs.Transaction.{Transaction}
use Rattle.tx_codec.specs.declared.tx.TxIn.{TxIn}
use Rattle.desk_chain.proofs.TxidLaws.{more_kept}
use Rattle.desk_chain.proofs.pending_txids.PendingTxids.add.Goals as goal

pub returns-in_err-insert-clause-succeeds : goal.returns-in_err-insert-clause-succeeds
returns-in_err-insert-clause-succeeds c = λ room. absurd (true≢false (sym (c.in_err-insert.ensures.succeeds room.own)))

pub returns-clause-added : goal.returns-clause-added
returns-clause-added c = λ pending.
    let read = c.deref.ensures.value ∙ ap (λ (t : Transaction). t.inputs) c.tx.view_is in
    more_kept c.add_parents.result pending c.args.tx.now c.args.id c.deref.result.now c.args.self.now _ c.requires read (λ q. c.in_ok-insert.ensures.updates.0 q) c.add_parents.ensures.added

pub returns-clause-succeeds : goal.returns-clause-succeeds
returns-clause-succeeds c = λ room.
    let read = c.deref.ensures.value ∙ ap (λ (t : Transaction). t.inputs) c.tx.view_is in
    c.add_parents.ensures.succeeds (subst (λ (is : List TxIn). length is ≤ spare c.args.self.now.parents) (sym read) room.each)

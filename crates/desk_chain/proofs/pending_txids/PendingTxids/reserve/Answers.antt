use Rattle.std.proofs.Common.{◌∙◌, ap, arith}
use Rattle.tx_codec.specs.Transaction.{Transaction}
use Rattle.desk_chain.proofs.TxidLaws.{room_told}
use Rattle.desk_chain.proofs.pending_txids.PendingTxids.reserve.Goals as goal

pub returns-clause-room : goal.returns-clause-room
returns-clause-room c =
    room_told c.make_room.result _ _ c.deref.result.now (c.deref.ensures.value ∙ ap (λ (t : Transaction). t.inputs) c.tx.view_is) (omega (arith, c.in_ok-reserve.ensures.ok)) c.make_room.ensures.room

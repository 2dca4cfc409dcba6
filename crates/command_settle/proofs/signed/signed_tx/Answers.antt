use Rattle.command_settle.proofs.SignedLaws.{hex_refuses, if_signed, if_tx_refuses}
use Rattle.command_settle.proofs.signed.signed_tx.Goals as goal

pub returns-in-Ok-clause-signed : goal.returns-in-Ok-clause-signed
returns-in-Ok-clause-signed c = if_signed c.args.file.now c.in-Ok.bytes.items (rw c.line_of.ensures at c.in-Ok.ensures.ok) c.tx_of.result (rw c.deref.ensures.value at c.tx_of.ensures.signed)

pub returns-in-Ok-clause-stop : goal.returns-in-Ok-clause-stop
returns-in-Ok-clause-stop c = if_tx_refuses c.args.file.now c.in-Ok.bytes.items (rw c.line_of.ensures at c.in-Ok.ensures.ok) c.tx_of.result (rw c.deref.ensures.value at c.tx_of.ensures.stop)

pub returns-in-Err-clause-stop : goal.returns-in-Err-clause-stop
returns-in-Err-clause-stop c = hex_refuses c.args.file.now c.hex_stop.result c.in-Err.error c.hex_stop.ensures.memory c.hex_stop.ensures.other (rw c.line_of.ensures at c.in-Err.ensures.err)

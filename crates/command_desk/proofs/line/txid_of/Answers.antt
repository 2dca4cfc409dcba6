use Rattle.command_desk.proofs.TextLaws.{txid_fails}
use Rattle.command_desk.proofs.line.txid_of.Goals as goal

pub returns-in-Err : goal.returns-in-Err
returns-in-Err c = txid_fails c.args.word.now c.decode_to_slice.new.out c.decode_to_slice.result c.in-Err.field-0 c.in-Err.is c.decode_to_slice.ensures.value

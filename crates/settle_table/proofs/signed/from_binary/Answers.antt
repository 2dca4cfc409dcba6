use Rattle.settle_table.proofs.FormLaws.{bytes_stop, psbt_only}
use Rattle.settle_table.proofs.signed.from_binary.Goals as goal

pub returns-in-Err-clause-only : goal.returns-in-Err-clause-only
returns-in-Err-clause-only c = λ t h. psbt_only c.in-Err.fault c.psbt_stop.result c.psbt_stop.ensures (c.in-Err.ensures.only t h)

pub returns-in-Err-clause-stop : goal.returns-in-Err-clause-stop
returns-in-Err-clause-stop c = bytes_stop c.args.file.now c.in-Err.fault c.psbt_stop.result c.psbt_stop.ensures c.in-Err.ensures.fault

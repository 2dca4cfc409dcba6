use Rattle.settle_table.proofs.FormLaws.{psbt_only, text_stops}
use Rattle.settle_table.proofs.signed.from_base64.Goals as goal

pub returns-in-Ok-clause-signed : goal.returns-in-Ok-clause-signed
returns-in-Ok-clause-signed c = rw c.line_of.ensures at c.in-Ok.ensures.found

pub returns-in-Ok-clause-only : goal.returns-in-Ok-clause-only
returns-in-Ok-clause-only c = rw c.line_of.ensures at c.in-Ok.ensures.only

pub returns-in-Err-clause-only : goal.returns-in-Err-clause-only
returns-in-Err-clause-only c = λ t h. psbt_only c.in-Err.fault c.psbt_stop.result c.psbt_stop.ensures ((rw c.line_of.ensures at c.in-Err.ensures.only) t h)

pub returns-in-Err-clause-stop : goal.returns-in-Err-clause-stop
returns-in-Err-clause-stop c = text_stops c.args.file.now c.in-Err.fault c.psbt_stop.result c.psbt_stop.ensures (rw c.line_of.ensures at c.in-Err.ensures.fault)

use Rattle.closing_log.proofs.LogLaws.{tell_word, log_begins}
use Rattle.closing_log.proofs.reading.read_parts.Goals as goal

pub returns-in-Err : goal.returns-in-Err
returns-in-Err c = tell_word c.args.bytes.now c.in-Err.stop.now c.form.result c.form.ensures c.in-Err.ensures

pub loop-init : goal.loop-init
loop-init c = rw c.new-closed.ensures.items (log_begins c.args.bytes.now c.in-Ok.rest.now c.in-Ok.ensures)

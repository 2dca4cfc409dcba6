use Rattle.fund_report.proofs.StartLaws.{unfinished_reads}
use Rattle.fund_report.proofs.reading.read_unfinished.Goals as goal

pub returns : goal.returns
returns c = unfinished_reads c.args.bytes.now c.in-Ok.rest.now c.read_unfinished_lines.result c.in-Ok.ensures c.read_unfinished_lines.ensures

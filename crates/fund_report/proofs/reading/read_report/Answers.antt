use Rattle.fund_report.proofs.ToldLaws.{tells_only}
use Rattle.fund_report.proofs.reading.read_report.Goals as goal

pub returns-clause-only : goal.returns-clause-only
returns-clause-only c = tells_only c.args.bytes.now c.read_whole.result c.read_whole.ensures.agrees

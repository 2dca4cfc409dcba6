use Rattle.amount_reports.proofs.SweptLaws.{tells_only}
use Rattle.amount_reports.proofs.swept.read_swept.Goals as goal

pub returns-clause-only : goal.returns-clause-only
returns-clause-only c = tells_only c.args.bytes.now c.read_whole.result c.read_whole.ensures.agrees

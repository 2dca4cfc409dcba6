use Rattle.closing_log.proofs.LogLaws.{tells_only}
use Rattle.closing_log.proofs.reading.read_sections.Goals as goal

pub returns-clause-only : goal.returns-clause-only
returns-clause-only c = tells_only c.args.bytes.now c.read_parts.result c.read_parts.ensures

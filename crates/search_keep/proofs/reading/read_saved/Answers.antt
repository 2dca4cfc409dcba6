use Rattle.search_keep.proofs.ToldLaws.{tells_only}
use Rattle.search_keep.proofs.reading.read_saved.Goals as goal

pub returns-clause-only : goal.returns-clause-only
returns-clause-only c = tells_only c.args.bytes.now c.read_lines.result c.read_lines.ensures

use Rattle.report_check.proofs.TriesLineLaws.{tries_line}
use Rattle.report_check.proofs.laws.tries_have_their_line.Goals as goal

pub returns : goal.returns
returns c = tries_line

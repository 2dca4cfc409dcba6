use Rattle.command_work.proofs.LeftOutLaws.{left_out}
use Rattle.command_work.proofs.load_laws.leaves_the_rest_out.Goals as goal

pub returns : goal.returns
returns c = left_out

use Rattle.run_laws.proofs.EndingLaws.{enough_ends}
use Rattle.run_laws.proofs.laws.enough_tries_end_a_run.Goals as goal

pub returns : goal.returns
returns c = enough_ends

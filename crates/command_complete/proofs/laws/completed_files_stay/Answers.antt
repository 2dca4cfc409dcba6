use Rattle.command_complete.proofs.RepeatLaws.{files_stay, same_again}
use Rattle.command_complete.proofs.laws.completed_files_stay.Goals as goal

pub returns-clause-stays : goal.returns-clause-stays
returns-clause-stays c = files_stay

pub returns-clause-same : goal.returns-clause-same
returns-clause-same c = same_again

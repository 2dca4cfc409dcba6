use Rattle.command_complete.proofs.CompletedLaws.{same_again, stays}
use Rattle.command_complete.proofs.whole_laws.completed_stay.Goals as goal

pub returns-clause-stays : goal.returns-clause-stays
returns-clause-stays c = stays

pub returns-clause-same : goal.returns-clause-same
returns-clause-same c = same_again

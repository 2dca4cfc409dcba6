use Rattle.desk_laws.proofs.DeskLaws.{commit_due, commit_shown}
use Rattle.desk_laws.proofs.laws.commits_are_due.Goals as goal

pub returns-clause-due : goal.returns-clause-due
returns-clause-due c = commit_due

pub returns-clause-shown : goal.returns-clause-shown
returns-clause-shown c = commit_shown

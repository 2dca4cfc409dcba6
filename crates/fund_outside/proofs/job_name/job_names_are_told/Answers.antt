use Rattle.fund_outside.proofs.NameLaws.{name_back, name_there}
use Rattle.fund_outside.proofs.job_name.job_names_are_told.Goals as goal

pub returns-clause-found : goal.returns-clause-found
returns-clause-found c = name_back

pub returns-clause-only : goal.returns-clause-only
returns-clause-only c = name_there

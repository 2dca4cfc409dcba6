use Rattle.request_text.proofs.SeedLaws.{digits, only, lower, upper, found, refused}
use Rattle.request_text.proofs.laws.reads_seeds.Goals as goal

pub returns-clause-lower : goal.returns-clause-lower
returns-clause-lower c = lower

pub returns-clause-upper : goal.returns-clause-upper
returns-clause-upper c = upper

pub returns-clause-found : goal.returns-clause-found
returns-clause-found c = found

pub returns-clause-fault : goal.returns-clause-fault
returns-clause-fault c = refused

pub returns-clause-spelled : goal.returns-clause-spelled
returns-clause-spelled c = digits

pub returns-clause-only : goal.returns-clause-only
returns-clause-only c = only

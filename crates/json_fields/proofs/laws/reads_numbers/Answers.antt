use Rattle.json_fields.proofs.NumberLaws.{found, only, fault}
use Rattle.json_fields.proofs.laws.reads_numbers.Goals as goal

pub returns-clause-found : goal.returns-clause-found
returns-clause-found c = found

pub returns-clause-only : goal.returns-clause-only
returns-clause-only c = only

pub returns-clause-fault : goal.returns-clause-fault
returns-clause-fault c = fault

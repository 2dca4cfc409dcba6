use Rattle.json_fields.proofs.ListLaws.{found, only, first, refused}
use Rattle.json_fields.proofs.laws.reads_lists.Goals as goal

pub returns-clause-found : goal.returns-clause-found
returns-clause-found g c = found

pub returns-clause-only : goal.returns-clause-only
returns-clause-only g c = only

pub returns-clause-fault : goal.returns-clause-fault
returns-clause-fault g c = first

pub returns-clause-refused : goal.returns-clause-refused
returns-clause-refused g c = refused

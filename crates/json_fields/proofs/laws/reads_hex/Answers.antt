use Rattle.json_fields.proofs.HexLaws.{found, only, refused, all_digits}
use Rattle.json_fields.proofs.laws.reads_hex.Goals as goal

pub returns-clause-found : goal.returns-clause-found
returns-clause-found c = found

pub returns-clause-only : goal.returns-clause-only
returns-clause-only c = only

pub returns-clause-fault : goal.returns-clause-fault
returns-clause-fault c = refused

pub returns-clause-digits : goal.returns-clause-digits
returns-clause-digits c = all_digits

use Rattle.json_fields.proofs.HexLaws.{hash_found, hash_only}
use Rattle.json_fields.proofs.NumberLaws.{lower, upper, digits}
use Rattle.json_fields.proofs.laws.reads_hashes.Goals as goal

pub returns-clause-lower : goal.returns-clause-lower
returns-clause-lower c = lower

pub returns-clause-upper : goal.returns-clause-upper
returns-clause-upper c = upper

pub returns-clause-found : goal.returns-clause-found
returns-clause-found c = digits

pub returns-clause-spelled : goal.returns-clause-spelled
returns-clause-spelled c = hash_found

pub returns-clause-only : goal.returns-clause-only
returns-clause-only c = hash_only

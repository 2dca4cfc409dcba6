use Rattle.json_fields.proofs.ObjectLaws.{taken, only, kind, unknown, missing}
use Rattle.json_fields.proofs.laws.reads_objects.Goals as goal

pub returns-clause-taken : goal.returns-clause-taken
returns-clause-taken c = taken

pub returns-clause-only : goal.returns-clause-only
returns-clause-only c = only

pub returns-clause-kind : goal.returns-clause-kind
returns-clause-kind c = kind

pub returns-clause-member : goal.returns-clause-member
returns-clause-member c = unknown

pub returns-clause-missing : goal.returns-clause-missing
returns-clause-missing c = missing

use Rattle.request_text.proofs.RangeLaws.{no_version, versions}
use Rattle.request_text.proofs.laws.reads_versions.Goals as goal

pub returns-clause-taken : goal.returns-clause-taken
returns-clause-taken c = versions

pub returns-clause-fault : goal.returns-clause-fault
returns-clause-fault c = no_version

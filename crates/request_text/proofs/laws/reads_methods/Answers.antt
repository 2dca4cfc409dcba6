use Rattle.request_text.proofs.MethodLaws.{found, only}
use Rattle.request_text.proofs.laws.reads_methods.Goals as goal

pub returns-clause-found : goal.returns-clause-found
returns-clause-found c = found

pub returns-clause-only : goal.returns-clause-only
returns-clause-only c = only

use Rattle.keys_text.proofs.PathLaws.{found, only}
use Rattle.keys_text.proofs.laws.reads_paths.Goals as goal

pub returns-clause-found : goal.returns-clause-found
returns-clause-found c = found

pub returns-clause-only : goal.returns-clause-only
returns-clause-only c = only

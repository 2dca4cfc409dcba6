use Rattle.command_complete.proofs.CompletedLaws.{no_fault, one_completed, one_first}
use Rattle.command_complete.proofs.whole_laws.completed_psbts_are_one.Goals as goal

pub returns-clause-one : goal.returns-clause-one
returns-clause-one c = one_completed

pub returns-clause-first : goal.returns-clause-first
returns-clause-first c = λ h p e f a b. one_first h _ e f a b

pub returns-clause-apart : goal.returns-clause-apart
returns-clause-apart c = no_fault

use Rattle.command_resume.proofs.GoesLaws.{goes_as}
use Rattle.command_resume.proofs.OnceLaws.{same_at_once}
use Rattle.command_resume.proofs.OneLaws.{one_outcome}
use Rattle.command_resume.proofs.RefusedLaws.{kept_gone, kept_limit}
use Rattle.command_resume.proofs.laws.stopped_runs_go_on.Goals as goal

pub returns-clause-goes : goal.returns-clause-goes
returns-clause-goes c = goes_as

pub returns-clause-at_once : goal.returns-clause-at_once
returns-clause-at_once c = λ w blocks r n. same_at_once _ r n

pub returns-clause-one : goal.returns-clause-one
returns-clause-one c = one_outcome

pub returns-clause-kept : goal.returns-clause-kept
returns-clause-kept c = kept_gone

pub returns-clause-refused : goal.returns-clause-refused
returns-clause-refused c = λ files s p w blocks r n job fault inputs kept is. kept_limit files s p job w blocks r n fault inputs kept is

use Rattle.command_end.proofs.NameLaws.{printable, apart, plain}
use Rattle.command_end.proofs.word_laws.names_are_told_apart.Goals as goal

pub returns-clause-printable : goal.returns-clause-printable
returns-clause-printable c = printable

pub returns-clause-apart : goal.returns-clause-apart
returns-clause-apart c = apart

pub returns-clause-plain : goal.returns-clause-plain
returns-clause-plain c = plain

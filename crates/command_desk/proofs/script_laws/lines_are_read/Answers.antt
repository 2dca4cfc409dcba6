use Rattle.command_desk.proofs.SaidLaws.{says_of}
use Rattle.command_desk.proofs.OnlyLaws.{only_said}
use Rattle.command_desk.proofs.script_laws.lines_are_read.Goals as goal

pub returns-clause-says : goal.returns-clause-says
returns-clause-says c = says_of

pub returns-clause-only : goal.returns-clause-only
returns-clause-only c = only_said

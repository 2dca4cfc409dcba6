use Rattle.command_desk.proofs.ScriptLaws.{are_lines, only_lines}
use Rattle.command_desk.proofs.script_laws.lines_are_cut.Goals as goal

pub returns-clause-are : goal.returns-clause-are
returns-clause-are c = are_lines

pub returns-clause-only : goal.returns-clause-only
returns-clause-only c = only_lines

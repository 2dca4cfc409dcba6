use Rattle.command_desk.proofs.CallLaws.{one_desk, one_text}
use Rattle.command_desk.proofs.laws.scripts_have_one_course.Goals as goal

pub returns-clause-printed : goal.returns-clause-printed
returns-clause-printed c = one_text

pub returns-clause-desk : goal.returns-clause-desk
returns-clause-desk c = one_desk

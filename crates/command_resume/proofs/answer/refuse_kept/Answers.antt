use Rattle.command_resume.proofs.answer.refuse_kept.Goals as goal

pub returns-clause-line : goal.returns-clause-line
returns-clause-line g c = rw c.kept_parts.ensures at c.put_fault.ensures.line

pub returns-clause-answered : goal.returns-clause-answered
returns-clause-answered g c = rw (c.kept_parts.ensures, c.kept_status.ensures) at c.put_fault.ensures.answered

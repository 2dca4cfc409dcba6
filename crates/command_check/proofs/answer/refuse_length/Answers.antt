use Rattle.command_check.proofs.answer.refuse_length.Goals as goal

pub returns-clause-line : goal.returns-clause-line
returns-clause-line g c = rw c.limit_parts.ensures at c.put_fault.ensures.line

pub returns-clause-answered : goal.returns-clause-answered
returns-clause-answered g c = rw c.limit_parts.ensures at c.put_fault.ensures.answered

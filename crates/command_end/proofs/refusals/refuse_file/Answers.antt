use Rattle.command_end.proofs.refusals.refuse_file.Goals as goal

pub returns-clause-line : goal.returns-clause-line
returns-clause-line g c = rw c.file_refusal_parts.ensures at c.put_fault.ensures.line

pub returns-clause-answered : goal.returns-clause-answered
returns-clause-answered g c = rw (c.file_refusal_parts.ensures, c.file_status.ensures) at c.put_fault.ensures.answered

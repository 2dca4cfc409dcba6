use Rattle.command_complete.proofs.answering.refuse_psbt.Goals as goal

pub returns-clause-line : goal.returns-clause-line
returns-clause-line g c = rw c.refusal_parts.ensures at c.put_fault.ensures.line

pub returns-clause-answered : goal.returns-clause-answered
returns-clause-answered g c = rw c.refusal_parts.ensures at c.put_fault.ensures.answered

use Rattle.keys_files.proofs.answer.refuse_unkeyed.Goals as goal

pub returns-clause-answered : goal.returns-clause-answered
returns-clause-answered g c = rw c.key_refusal_parts.ensures at c.put_fault.ensures.answered

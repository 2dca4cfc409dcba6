use Rattle.keys_files.proofs.answer.refuse_keys.Goals as goal

pub returns-in-Read-clause-answered : goal.returns-in-Read-clause-answered
returns-in-Read-clause-answered g c = rw c.in-Read.is c.refuse_read.ensures.answered

pub returns-in-TooLong-clause-answered : goal.returns-in-TooLong-clause-answered
returns-in-TooLong-clause-answered g c = rw c.in-TooLong.is c.refuse_length.ensures.answered

pub returns-in-Refused-clause-answered : goal.returns-in-Refused-clause-answered
returns-in-Refused-clause-answered g c = rw c.in-Refused.is c.refuse_fault.ensures.answered

pub returns-in-Memory-clause-answered : goal.returns-in-Memory-clause-answered
returns-in-Memory-clause-answered g c = rw c.in-Memory.is (c.out_of_memory.ensures.is, c.out_of_memory.ensures.line)

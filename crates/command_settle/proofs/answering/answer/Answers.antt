use Rattle.command_settle.proofs.answering.answer.Goals as goal

pub returns-in-Read-clause-answered : goal.returns-in-Read-clause-answered
returns-in-Read-clause-answered g c = rw c.in-Read.is (rw c.name_of.ensures at c.refuse_read.ensures.answered)

pub returns-in-Memory-clause-answered : goal.returns-in-Memory-clause-answered
returns-in-Memory-clause-answered g c = rw c.in-Memory.is (c.out_of_memory.ensures.is, c.out_of_memory.ensures.line)

use Rattle.command_check.proofs.answer.answer.Goals as goal

pub returns-in-Read-clause-line : goal.returns-in-Read-clause-line
returns-in-Read-clause-line g c = rw c.in-Read.is (rw c.evidence_name.ensures at c.refuse_read.ensures.line)

pub returns-in-Read-clause-answered : goal.returns-in-Read-clause-answered
returns-in-Read-clause-answered g c = rw c.in-Read.is (rw c.evidence_name.ensures at c.refuse_read.ensures.answered)

pub returns-in-TooLong-clause-line : goal.returns-in-TooLong-clause-line
returns-in-TooLong-clause-line g c = rw c.in-TooLong.is c.refuse_length.ensures.line

pub returns-in-Memory-clause-line : goal.returns-in-Memory-clause-line
returns-in-Memory-clause-line g c = rw c.in-Memory.is c.out_of_memory.ensures.line

pub returns-in-Memory-clause-answered : goal.returns-in-Memory-clause-answered
returns-in-Memory-clause-answered g c = rw c.in-Memory.is (c.out_of_memory.ensures.is, c.out_of_memory.ensures.line)

pub returns-in-TooLong-clause-answered : goal.returns-in-TooLong-clause-answered
returns-in-TooLong-clause-answered g c = rw c.in-TooLong.is c.refuse_length.ensures.answered

pub returns-in-Broken-clause-line : goal.returns-in-Broken-clause-line
returns-in-Broken-clause-line g c = rw c.in-Broken.is c.refuse_report.ensures.line

pub returns-in-Broken-clause-answered : goal.returns-in-Broken-clause-answered
returns-in-Broken-clause-answered g c = rw c.in-Broken.is c.refuse_report.ensures.answered

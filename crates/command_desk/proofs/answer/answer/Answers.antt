use Rattle.std.proofs.Common.{refl}
use Rattle.command_desk.proofs.answer.answer.Goals as goal

pub returns-in-Unread-clause-line : goal.returns-in-Unread-clause-line
returns-in-Unread-clause-line g c = rw c.in-Unread.is c.refuse_read.ensures.line

pub returns-in-TooLong-clause-line : goal.returns-in-TooLong-clause-line
returns-in-TooLong-clause-line g c = rw c.in-TooLong.is c.put_line.ensures.line

pub returns-in-Memory-clause-line : goal.returns-in-Memory-clause-line
returns-in-Memory-clause-line g c = rw c.in-Memory.is c.out_of_memory.ensures.line

pub returns-in-Memory-clause-answered : goal.returns-in-Memory-clause-answered
returns-in-Memory-clause-answered g c = rw c.in-Memory.is (c.out_of_memory.ensures.is, c.out_of_memory.ensures.line)

pub returns-in-Unread-clause-answered : goal.returns-in-Unread-clause-answered
returns-in-Unread-clause-answered g c = rw c.in-Unread.is c.refuse_read.ensures.answered

pub returns-in-TooLong-clause-answered : goal.returns-in-TooLong-clause-answered
returns-in-TooLong-clause-answered g c = rw c.in-TooLong.is (refl, c.put_line.ensures.line)

use Rattle.command_keys.proofs.AnswerLaws.{keys_read}
use Rattle.command_keys.proofs.answer.answer.Goals as goal

pub returns-in-Incomplete-clause-answered : goal.returns-in-Incomplete-clause-answered
returns-in-Incomplete-clause-answered g c = rw c.in-Incomplete.is c.answer.ensures.answered

pub returns-in-Incomplete-clause-read : goal.returns-in-Incomplete-clause-read
returns-in-Incomplete-clause-read g c = rw c.in-Incomplete.is c.answer.ensures.read

pub returns-in-Keys-clause-answered : goal.returns-in-Keys-clause-answered
returns-in-Keys-clause-answered g c = rw c.in-Keys.is c.refuse_keys.ensures.answered

pub returns-in-Keys-clause-read : goal.returns-in-Keys-clause-read
returns-in-Keys-clause-read g c = rw c.in-Keys.is (keys_read c.in-Keys.stop c.refuse_keys.result c.refuse_keys.ensures.answered.0)

pub returns-in-Unkeyed-clause-answered : goal.returns-in-Unkeyed-clause-answered
returns-in-Unkeyed-clause-answered g c = rw c.in-Unkeyed.is c.refuse_unkeyed.ensures.answered

pub returns-in-Memory-clause-answered : goal.returns-in-Memory-clause-answered
returns-in-Memory-clause-answered g c = rw c.in-Memory.is (c.out_of_memory.ensures.is, c.out_of_memory.ensures.line)

use Rattle.std.proofs.Common.{◌≡◌}
use Rattle.command_end.specs.declared.status.Status.TheVariants as statuses
use Rattle.command_complete.proofs.AskingLaws.{chain_tells}
use Rattle.command_complete.proofs.answering.answer.Goals as goal

pub returns-in-Chain-clause-read : goal.returns-in-Chain-clause-read
returns-in-Chain-clause-read g c = rw c.in-Chain.is (chain_tells c.in-Chain.stop (c.refuse_chain.result ≡ statuses.ReadFault) c.refuse_chain.ensures.read)

pub returns-in-Read-clause-line : goal.returns-in-Read-clause-line
returns-in-Read-clause-line g c = rw c.in-Read.is c.refuse_read.ensures.line

pub returns-in-TooLong-clause-line : goal.returns-in-TooLong-clause-line
returns-in-TooLong-clause-line g c = rw c.in-TooLong.is c.refuse_length.ensures.line

pub returns-in-Memory-clause-line : goal.returns-in-Memory-clause-line
returns-in-Memory-clause-line g c = rw c.in-Memory.is c.out_of_memory.ensures.line

pub returns-in-Memory-clause-answered : goal.returns-in-Memory-clause-answered
returns-in-Memory-clause-answered g c = rw c.in-Memory.is (c.out_of_memory.ensures.is, c.out_of_memory.ensures.line)

pub returns-in-Read-clause-answered : goal.returns-in-Read-clause-answered
returns-in-Read-clause-answered g c = rw c.in-Read.is c.refuse_read.ensures.answered

pub returns-in-TooLong-clause-answered : goal.returns-in-TooLong-clause-answered
returns-in-TooLong-clause-answered g c = rw c.in-TooLong.is (c.refuse_length.ensures.is, c.refuse_length.ensures.line)

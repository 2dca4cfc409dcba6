use Rattle.command_work.proofs.command.answer.Goals as goal

pub returns-in-Memory-clause-line : goal.returns-in-Memory-clause-line
returns-in-Memory-clause-line g c = rw c.in-Memory.is c.out_of_memory.ensures.line

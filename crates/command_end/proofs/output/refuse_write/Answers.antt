use Rattle.command_end.proofs.output.refuse_write.Goals as goal

pub returns-clause-line : goal.returns-clause-line
returns-clause-line g c = rw c.named.ensures at c.put_fault.ensures.line

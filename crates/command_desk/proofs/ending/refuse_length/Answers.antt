use Rattle.command_desk.proofs.ending.refuse_length.Goals as goal

pub returns-clause-line : goal.returns-clause-line
returns-clause-line g c = rw c.long_line.ensures at c.put_line.ensures.line

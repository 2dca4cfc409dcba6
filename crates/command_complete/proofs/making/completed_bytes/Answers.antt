use Rattle.command_complete.proofs.making.completed_bytes.Goals as goal

pub returns-clause-made : goal.returns-clause-made
returns-clause-made c = rw (c.deref.ensures.value, c.in_ok-text.ensures) at c.completed_text.ensures.made

pub returns-clause-stop : goal.returns-clause-stop
returns-clause-stop c = rw (c.deref.ensures.value, c.in_ok-text.ensures) at c.completed_text.ensures.stop

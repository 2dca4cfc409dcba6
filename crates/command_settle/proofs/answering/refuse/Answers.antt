use Rattle.command_settle.proofs.answering.refuse.Goals as goal

pub returns-in-LongReport-clause-answered : goal.returns-in-LongReport-clause-answered
returns-in-LongReport-clause-answered g c = rw c.in-LongReport.is c.put_fault.ensures.answered

pub returns-in-NotHex-clause-answered : goal.returns-in-NotHex-clause-answered
returns-in-NotHex-clause-answered g c = rw c.in-NotHex.is c.put_fault-in-NotHex.ensures.answered

use Rattle.command_inputs.proofs.answering.refuse_plan.Goals as goal

pub returns-clause-line : goal.returns-clause-line
returns-clause-line g c = rw c.plan_fault_parts.ensures at c.put_fault.ensures.line

pub returns-clause-answered : goal.returns-clause-answered
returns-clause-answered g c = rw (c.plan_fault_parts.ensures, c.plan_status.ensures) at c.put_fault.ensures.answered

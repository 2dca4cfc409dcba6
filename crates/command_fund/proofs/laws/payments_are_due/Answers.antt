use Rattle.fund_plan.specs.declared.outcome.Outcome.TheVariants as answers
use Rattle.fund_files.specs.Chain.{chain_from}
use Rattle.command_inputs.specs.Outcome.{plan_of}
use Rattle.command_inputs.proofs.OutcomeLaws.{answer_due, only_answer, refusal_due}
use Rattle.command_fund.proofs.laws.payments_are_due.Goals as goal

pub returns-clause-refused : goal.returns-clause-refused
returns-clause-refused c = refusal_due

pub returns-clause-funded : goal.returns-clause-funded
returns-clause-funded c = λ files s p w blocks r f has rules is. answer_due files s p w blocks r (answers.Funded f) has rules is

pub returns-clause-none : goal.returns-clause-none
returns-clause-none c = λ files s p w blocks r has rules is. answer_due files s p w blocks r answers.NoSelection has rules is

pub returns-clause-unfinished : goal.returns-clause-unfinished
returns-clause-unfinished c = λ files s p w blocks r has rules is. answer_due files s p w blocks r answers.Unfinished has rules is

pub returns-clause-answered : goal.returns-clause-answered
returns-clause-answered c = λ files s p w blocks r f has ended a. answer_due files s p w blocks r (answers.Funded f) has ended.rules (only_answer (plan_of (chain_from w blocks) r) (answers.Funded f) ended a)

pub returns-clause-answered_by_none : goal.returns-clause-answered_by_none
returns-clause-answered_by_none c = λ files s p w blocks r has ended a. answer_due files s p w blocks r answers.NoSelection has ended.rules (only_answer (plan_of (chain_from w blocks) r) answers.NoSelection ended a)

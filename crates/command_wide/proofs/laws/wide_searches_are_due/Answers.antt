use Rattle.wide_plan.specs.declared.outcome.WideOutcome.TheVariants as answers
use Rattle.command_wide.proofs.OutcomeLaws.{answer_due, not_wide_due, refusal_due}
use Rattle.command_wide.proofs.laws.wide_searches_are_due.Goals as goal

pub returns-clause-refused : goal.returns-clause-refused
returns-clause-refused c = refusal_due

pub returns-clause-not_wide : goal.returns-clause-not_wide
returns-clause-not_wide c = not_wide_due

pub returns-clause-funded : goal.returns-clause-funded
returns-clause-funded c = λ files s p w blocks r f has rules is. answer_due files s p w blocks r (answers.Funded f) has rules is

pub returns-clause-none : goal.returns-clause-none
returns-clause-none c = λ files s p w blocks r has rules is. answer_due files s p w blocks r answers.NoSelection has rules is

pub returns-clause-unfinished : goal.returns-clause-unfinished
returns-clause-unfinished c = λ files s p w blocks r number has rules is. answer_due files s p w blocks r (answers.Unfinished number) has rules is

use Rattle.command_resume.proofs.AnswerLaws.{funded_answer, none_answer}
use Rattle.command_resume.proofs.laws.resumed_runs_have_the_answer.Goals as goal

pub returns-clause-funded : goal.returns-clause-funded
returns-clause-funded c = funded_answer

pub returns-clause-none : goal.returns-clause-none
returns-clause-none c = none_answer

use Rattle.fund_plan.specs.declared.outcome.Outcome.TheVariants as answers
use Rattle.command_work.proofs.BookLaws.{load_sound}
use Rattle.command_work.proofs.OutcomeLaws.{answer_due, collision_due, only_collision}
use Rattle.command_work.proofs.PlanLaws.{load_keeps}
use Rattle.command_work.proofs.laws.workloads_are_due.Goals as goal

pub returns-clause-refused : goal.returns-clause-refused
returns-clause-refused c = collision_due

pub returns-clause-only : goal.returns-clause-only
returns-clause-only c = only_collision

pub returns-clause-book : goal.returns-clause-book
returns-clause-book c = load_sound

pub returns-clause-plan : goal.returns-clause-plan
returns-clause-plan c = load_keeps

pub returns-clause-funded : goal.returns-clause-funded
returns-clause-funded c = λ number count f some most distinct is. answer_due number count (answers.Funded f) some most distinct is

pub returns-clause-none : goal.returns-clause-none
returns-clause-none c = λ number count some most distinct is. answer_due number count answers.NoSelection some most distinct is

pub returns-clause-unfinished : goal.returns-clause-unfinished
returns-clause-unfinished c = λ number count some most distinct is. answer_due number count answers.Unfinished some most distinct is

use Rattle.std.proofs.Common.{◌∙◌}
use Rattle.fund_files.specs.Chain.{chain_from}
use Rattle.command_sweep.proofs.OutcomeLaws.{heavy_due, inputs_due, not_sweep_due, paid_due, refusal_due, short_due}
use Rattle.command_sweep.proofs.laws.sweeps_are_due.Goals as goal

pub returns-clause-refused : goal.returns-clause-refused
returns-clause-refused c = refusal_due

pub returns-clause-not_sweep : goal.returns-clause-not_sweep
returns-clause-not_sweep c = not_sweep_due

pub returns-clause-heavy : goal.returns-clause-heavy
returns-clause-heavy c = λ files s p w blocks r weight has heavy. inputs_due files s p w blocks r has ∙ heavy_due (chain_from w blocks) r weight heavy

pub returns-clause-none : goal.returns-clause-none
returns-clause-none c = λ files s p w blocks r has can short. inputs_due files s p w blocks r has ∙ short_due (chain_from w blocks) r can short

pub returns-clause-swept : goal.returns-clause-swept
returns-clause-swept c = λ files s p w blocks r coins amount has can sweeps. inputs_due files s p w blocks r has ∙ paid_due (chain_from w blocks) r can coins amount sweeps

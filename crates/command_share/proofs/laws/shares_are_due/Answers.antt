use Rattle.command_share.proofs.DueLaws.{not_shared_due, refusal_due, share_dust_due, shared_due, unfinished_due}
use Rattle.command_share.proofs.OutcomeLaws.{inputs_due, not_share_due}
use Rattle.command_share.proofs.laws.shares_are_due.Goals as goal

pub returns-clause-refused : goal.returns-clause-refused
returns-clause-refused c = refusal_due

pub returns-clause-not_share : goal.returns-clause-not_share
returns-clause-not_share c = not_share_due

pub returns-clause-shared : goal.returns-clause-shared
returns-clause-shared c = inputs_due

pub returns-clause-dust : goal.returns-clause-dust
returns-clause-dust c = share_dust_due

pub returns-clause-none : goal.returns-clause-none
returns-clause-none c = not_shared_due

pub returns-clause-unfinished : goal.returns-clause-unfinished
returns-clause-unfinished c = unfinished_due

pub returns-clause-paid : goal.returns-clause-paid
returns-clause-paid c = shared_due

use Rattle.command_inputs.proofs.ReplaceLaws.{replaces_named, replaces_paid}
use Rattle.command_fund.proofs.laws.payments_replace.Goals as goal

pub returns-clause-payments : goal.returns-clause-payments
returns-clause-payments c = replaces_named

pub returns-clause-others : goal.returns-clause-others
returns-clause-others c = replaces_paid

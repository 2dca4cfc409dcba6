use Rattle.fund_files.proofs.ChainLaws.{asked_due, asked_held, chain_due, chain_held}
use Rattle.fund_files.proofs.laws.chains_are_due.Goals as goal

pub returns-clause-refused : goal.returns-clause-refused
returns-clause-refused c = chain_due

pub returns-clause-held : goal.returns-clause-held
returns-clause-held c = chain_held

pub returns-clause-request_refused : goal.returns-clause-request_refused
returns-clause-request_refused c = asked_due

pub returns-clause-asked : goal.returns-clause-asked
returns-clause-asked c = asked_held

use Rattle.wallet_text.proofs.TableLaws.{first, values}
use Rattle.wallet_text.proofs.laws.reads_members.Goals as goal

pub returns-clause-values : goal.returns-clause-values
returns-clause-values c = values

pub returns-clause-fault : goal.returns-clause-fault
returns-clause-fault c = first

use Rattle.amount_laws.proofs.SharedLaws.{share_reads}
use Rattle.amount_laws.proofs.laws.shares_are_told.Goals as goal

pub returns : goal.returns
returns c = share_reads

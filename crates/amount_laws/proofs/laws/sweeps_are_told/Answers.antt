use Rattle.amount_laws.proofs.SweptLaws.{sweep_reads}
use Rattle.amount_laws.proofs.laws.sweeps_are_told.Goals as goal

pub returns : goal.returns
returns c = sweep_reads

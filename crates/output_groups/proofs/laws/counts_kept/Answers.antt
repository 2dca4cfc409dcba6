use Rattle.output_groups.proofs.FormedLaws.{counts}
use Rattle.output_groups.proofs.laws.counts_kept.Goals as goal

pub returns : goal.returns
returns c = counts

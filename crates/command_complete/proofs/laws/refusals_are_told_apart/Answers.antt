use Rattle.command_complete.proofs.ApartLaws.{refusals_apart}
use Rattle.command_complete.proofs.laws.refusals_are_told_apart.Goals as goal

pub returns : goal.returns
returns c = refusals_apart

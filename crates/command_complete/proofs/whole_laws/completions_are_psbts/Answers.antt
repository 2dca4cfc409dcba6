use Rattle.command_complete.proofs.CompletedLaws.{still_psbt}
use Rattle.command_complete.proofs.whole_laws.completions_are_psbts.Goals as goal

pub returns : goal.returns
returns c = still_psbt

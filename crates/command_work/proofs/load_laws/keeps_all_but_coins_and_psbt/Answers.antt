use Rattle.command_work.proofs.KeptLaws.{funded_kept, none_kept, unfinished_kept}
use Rattle.command_work.proofs.load_laws.keeps_all_but_coins_and_psbt.Goals as goal

pub returns-clause-funded : goal.returns-clause-funded
returns-clause-funded c = funded_kept

pub returns-clause-none : goal.returns-clause-none
returns-clause-none c = none_kept

pub returns-clause-unfinished : goal.returns-clause-unfinished
returns-clause-unfinished c = unfinished_kept

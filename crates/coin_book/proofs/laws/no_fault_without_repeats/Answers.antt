use Rattle.coin_book.proofs.RepeatSteps.{no_fault}
use Rattle.coin_book.proofs.laws.no_fault_without_repeats.Goals as goal

pub returns : goal.returns
returns c = no_fault

use Rattle.command_pay.proofs.SavingLaws.{saving_of}
use Rattle.command_pay.proofs.laws.savings_are_later_fees.Goals as goal

pub returns : goal.returns
returns c = λ a files f log k way. saving_of a files f log k way

use Rattle.desk_machine.proofs.TakenLaws.{first_shown, none_shown, shown_none}
use Rattle.desk_machine.proofs.laws.names_the_first_taken.Goals as goal

pub returns-clause-shown : goal.returns-clause-shown
returns-clause-shown c = first_shown

pub returns-clause-none : goal.returns-clause-none
returns-clause-none c = λ committed now r number coins are. (none_shown committed now r number coins, shown_none committed now r number coins are)

use Rattle.desk_laws.proofs.TurnLaws.{turn_paid, turn_stays, turn_told}
use Rattle.desk_laws.proofs.laws.turns_leave_their_answer.Goals as goal

pub returns-clause-told : goal.returns-clause-told
returns-clause-told c = turn_told

pub returns-clause-stays : goal.returns-clause-stays
returns-clause-stays c = turn_stays

pub returns-clause-paid : goal.returns-clause-paid
returns-clause-paid c = turn_paid

use Rattle.fund_calls.proofs.DoneLaws.{accepted, funded, listed, none, resumed_on, settled, shared, swept, unfinished, widened, worked}
use Rattle.fund_calls.proofs.laws.calls_are_done.Goals as goal

pub returns-clause-listed : goal.returns-clause-listed
returns-clause-listed c = listed

pub returns-clause-funded : goal.returns-clause-funded
returns-clause-funded c = funded

pub returns-clause-none : goal.returns-clause-none
returns-clause-none c = none

pub returns-clause-unfinished : goal.returns-clause-unfinished
returns-clause-unfinished c = unfinished

pub returns-clause-resumed : goal.returns-clause-resumed
returns-clause-resumed c = resumed_on

pub returns-clause-accepted : goal.returns-clause-accepted
returns-clause-accepted c = accepted

pub returns-clause-widened : goal.returns-clause-widened
returns-clause-widened c = widened

pub returns-clause-shared : goal.returns-clause-shared
returns-clause-shared c = shared

pub returns-clause-swept : goal.returns-clause-swept
returns-clause-swept c = swept

pub returns-clause-settled : goal.returns-clause-settled
returns-clause-settled c = settled

pub returns-clause-worked : goal.returns-clause-worked
returns-clause-worked c = worked

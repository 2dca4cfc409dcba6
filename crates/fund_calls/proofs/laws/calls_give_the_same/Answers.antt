use Rattle.fund_calls.proofs.AgainLaws.{checked_once, settled_once, worked_once}
use Rattle.fund_calls.proofs.OnceLaws.{funded_once, listed_once, shared_once, swept_once, widened_once}
use Rattle.fund_calls.proofs.ResumedLaws.{resumed_once}
use Rattle.fund_calls.proofs.laws.calls_give_the_same.Goals as goal

pub returns-clause-listed : goal.returns-clause-listed
returns-clause-listed c = listed_once

pub returns-clause-funded : goal.returns-clause-funded
returns-clause-funded c = funded_once

pub returns-clause-widened : goal.returns-clause-widened
returns-clause-widened c = widened_once

pub returns-clause-shared : goal.returns-clause-shared
returns-clause-shared c = shared_once

pub returns-clause-swept : goal.returns-clause-swept
returns-clause-swept c = swept_once

pub returns-clause-resumed : goal.returns-clause-resumed
returns-clause-resumed c = resumed_once

pub returns-clause-checked : goal.returns-clause-checked
returns-clause-checked c = checked_once

pub returns-clause-settled : goal.returns-clause-settled
returns-clause-settled c = settled_once

pub returns-clause-worked : goal.returns-clause-worked
returns-clause-worked c = worked_once

use Rattle.fee_bump.proofs.GoesSteps.{below_rise, heirs_back, heirs_told, signals_too}
use Rattle.fee_bump.proofs.TermLaws.{spends_none}
use Rattle.fee_bump.proofs.laws.replaced_by_ways.Goals as goal

pub returns-clause-each : goal.returns-clause-each
returns-clause-each c = λ w i j apart rule lt. (heirs_told w apart rule i j, heirs_back w apart rule i j)

pub returns-clause-once : goal.returns-clause-once
returns-clause-once c = below_rise

pub returns-clause-apart : goal.returns-clause-apart
returns-clause-apart c = λ w i apart rule lt. spends_none w apart rule i lt

pub returns-clause-signals : goal.returns-clause-signals
returns-clause-signals c = signals_too

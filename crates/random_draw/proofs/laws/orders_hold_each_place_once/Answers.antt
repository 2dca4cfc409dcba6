use Rattle.random_draw.proofs.LawsOfOrders.{stands_once, stands_never}
use Rattle.random_draw.proofs.laws.orders_hold_each_place_once.Goals as goal

pub returns-clause-once : goal.returns-clause-once
returns-clause-once c = λ seed n j l. stands_once seed n j l

pub returns-clause-none : goal.returns-clause-none
returns-clause-none c = λ seed n j l. stands_never seed n j l

use Rattle.run_laws.proofs.OrderLaws.{kept_in_order, next_in_order}
use Rattle.run_laws.proofs.laws.kept_sections_stand_in_order.Goals as goal

pub returns-clause-order : goal.returns-clause-order
returns-clause-order c = kept_in_order

pub returns-clause-next : goal.returns-clause-next
returns-clause-next c = next_in_order

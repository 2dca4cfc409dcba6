use Rattle.std.proofs.Common.{◌∙◌, sym, subst}
use Rattle.payment_states.specs.Graph.{IsInOrder}
use Rattle.payment_states.proofs.Order.{order_from_rule}
use Rattle.payment_states.proofs.states.payments_of.Goals as goal

pub payments_by-requires-clause-order : goal.payments_by-requires-clause-order
payments_by-requires-clause-order c = subst IsInOrder (sym (c.deref.ensures.value ∙ c.in_ok-parents.ensures.graph)) (order_from_rule c.args.book.now.confirmed c.args.pending.now c.requires.parents)

pub payments_by-requires-clause-graph : goal.payments_by-requires-clause-graph
payments_by-requires-clause-graph c = c.deref.ensures.value ∙ c.in_ok-parents.ensures.graph

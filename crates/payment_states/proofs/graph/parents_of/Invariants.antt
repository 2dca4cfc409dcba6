use Rattle.std.proofs.Common.{◌≡◌, take}
use Rattle.payment_states.specs.ByPlace.{parents_by}
use Rattle.payment_states.proofs.graph.parents_of.Given as goal

abbrev pub invariant-loop-input : goal.invariant-loop-input
invariant-loop-input l = l.places.items ≡ parents_by l.book.confirmed l.txids.keys (take l.input-index l.inputs)

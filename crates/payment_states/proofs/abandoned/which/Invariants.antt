use Rattle.std.proofs.Common.{◌≡◌, take, map, vec_len}
use Rattle.std.specs.Prelude.{is_some}
use Rattle.payment_states.proofs.abandoned.which.Given as goal

abbrev pub invariant-loop-number : goal.invariant-loop-number
invariant-loop-number l = (l.there.items ≡ map is_some (take l.number-index l.numbers)) × (vec_len l.there ≡ l.number-index)

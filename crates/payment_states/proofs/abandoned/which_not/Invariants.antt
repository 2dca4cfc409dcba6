use Rattle.std.proofs.Common.{◌≡◌, take, map, vec_len}
use Rattle.std.specs.Prelude.{is_none}
use Rattle.payment_states.proofs.abandoned.which_not.Given as goal

abbrev pub invariant-loop-number : goal.invariant-loop-number
invariant-loop-number l = (l.there.items ≡ map is_none (take l.number-index l.numbers)) × (vec_len l.there ≡ l.number-index)

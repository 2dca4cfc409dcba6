use Rattle.std.proofs.Common.{◌≡◌, take, map, vec_len}
use Rattle.std.specs.Prelude.{option_and_then, nat_eq}
use Rattle.std.specs.Map.{lookup}
use Rattle.payment_states.proofs.conflicts.names_at.Given as goal

abbrev pub invariant-loop-place : goal.invariant-loop-place
invariant-loop-place l = (l.txids.items ≡ map (option_and_then (λ k. lookup (nat_eq k) l.names.entries)) (take l.place-index l.places)) × (vec_len l.txids ≡ l.place-index)

use Rattle.std.proofs.Common.{◌≡◌, false, take, filter, map, vec_len}
use Rattle.std.specs.Prelude.{slice_index_or}
use Rattle.payment_states.proofs.claims.kept_graph.Given as goal

abbrev pub invariant-loop-place : goal.invariant-loop-place
invariant-loop-place l = (l.graph.items ≡ map (filter (λ j. slice_index_or l.flags j false)) (take l.place l.parents)) × (vec_len l.graph ≡ l.place)

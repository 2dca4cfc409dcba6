use Rattle.std.proofs.Common.{◌≡◌, ◌<◌, ◌≤◌, ℕ, None, length, get_or, vec_len}
use Rattle.std.specs.Map.{lookup}
use Rattle.fund_base.specs.Outpoints.{same_outpoint}
use Rattle.fund_base.specs.declared.outpoint.OutPoint.{OutPoint}
use Rattle.payment_states.specs.ByPlace.{replacer_by}
use Rattle.payment_states.proofs.BackSteps.{spender}
use Rattle.payment_states.proofs.replaced.replacers.Given as goal

abbrev pub invariant-loop-place : goal.invariant-loop-place
invariant-loop-place l =
    (l.place ≤ length l.pending)
    × (vec_len l.found ≡ length l.pending)
    × ((k : ℕ) → l.place ≤ k → k < length l.pending → get_or l.found.items k None ≡ replacer_by l.pending l.alive k)
    × ((o : OutPoint) → lookup (same_outpoint o) l.nearest.entries ≡ spender l.pending l.alive l.place o)

abbrev pub decreases-loop-place : goal.decreases-loop-place
decreases-loop-place l = l.place

use Rattle.std.proofs.Common.{◌≡◌, ◌≢◌, ℕ, List, AllPairs, take}
use Rattle.std.specs.Prelude.{bytes_eq}
use Rattle.indexmap.specs.IndexSet.{contains}
use Rattle.payment_states.specs.PendingView.{is_listed}
use Rattle.payment_states.proofs.abandoned.listed.Given as goal

abbrev pub invariant-loop-txid : goal.invariant-loop-txid
invariant-loop-txid l =
    ((t : List ℕ) → contains bytes_eq l.set t ≡ is_listed (take l.txid-index l.txids) t)
    × (AllPairs (λ (s t : List ℕ). s ≢ t) l.txids → l.set.keys ≡ take l.txid-index l.txids)

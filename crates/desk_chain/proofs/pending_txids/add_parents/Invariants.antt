use Rattle.std.proofs.Common.{ℕ, ◌≡◌, ◌≤◌, ◌+◌, ◌||◌, List, length, take}
use Rattle.std.specs.Prelude.{bytes_eq}
use Rattle.indexmap.specs.IndexSet.{contains, spare}
use Rattle.desk_chain.specs.PendingTxids.{has_parent}
use Rattle.desk_chain.proofs.pending_txids.add_parents.Given as goal

abbrev pub invariant-loop-input : goal.invariant-loop-input
invariant-loop-input l = record {
  added : (txid : List ℕ) → contains bytes_eq l.set txid ≡ (contains bytes_eq l.initial.set txid || has_parent txid (take l.input-index l.inputs));
  room : length l.inputs ≤ spare l.initial.set → length l.inputs ≤ spare l.set + l.input-index;
}

use Rattle.std.proofs.Common.{◌≡◌, ◌≤◌, ℕ, List, length, drop}
use Rattle.indexmap.specs.IndexSet.{spare}
use Rattle.json_fields.specs.Fields.{is_among}
use Rattle.wallet_text.specs.WalletText.{txids_of, later_from}
use Rattle.wallet_text.proofs.lists.first_later.Given as goal

abbrev pub invariant-loop-index : goal.invariant-loop-index
invariant-loop-index l = record {
  within : l.index ≤ length l.pending;
  later : (q : List ℕ) → is_among l.later.keys q ≡ is_among (txids_of (drop l.index l.pending)) q;
  first : l.first ≡ later_from l.index (drop l.index l.pending);
  room : l.index ≤ spare l.later;
}

abbrev pub decreases-loop-index : goal.decreases-loop-index
decreases-loop-index l = l.index

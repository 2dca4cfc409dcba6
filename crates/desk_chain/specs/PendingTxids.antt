-- The txids that are kept of the transactions that wait.
use Rattle.std.specs.Prelude.{ℕ, ◌≡◌, ◌<◌, ◌≤◌, List, Bool, bytes_eq, length}
use Rattle.std.specs.List.{list_any}
use Rattle.indexmap.specs.IndexSet.{contains, spare}
use Rattle.tx_codec.specs.Transaction.{Transaction}
use Rattle.tx_codec.specs.declared.tx.TxIn.{TxIn}
use Rattle.desk_machine.specs.Machine.{is_repeat, spends_txid}
use Rattle.desk_chain.specs.declared.pending_txids.PendingTxids.{PendingTxids}

-- one of these inputs spends an output of the transaction of this txid
abbrev pub has_parent : List ℕ → List TxIn → Bool
has_parent txid inputs = list_any (λ (i : TxIn). bytes_eq i.prev.txid txid) inputs

-- they are the txids of these transactions, and those of the transactions whose outputs these spend
pub record AreTxidsOf (pending : List Transaction) (t : PendingTxids) : Type 0 where
  pub txids : (txid : List ℕ) → contains bytes_eq t.txids txid ≡ is_repeat pending txid
  pub parents : (txid : List ℕ) → contains bytes_eq t.parents txid ≡ list_any (spends_txid txid) pending

-- the transaction can be added without memory
pub record HasRoomFor (tx : Transaction) (t : PendingTxids) : Type 0 where
  pub own : 0 < spare t.txids
  pub each : length tx.inputs ≤ spare t.parents

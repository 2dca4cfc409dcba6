-- What keeps a PSBT from being made whole.
use Rattle.std.specs.Prelude.{ℕ, ◌≡◌, ◌≢◌, List, [], ◌∷◌, ◌++◌, length, All, slice_get, Some, None}
use Rattle.coin_book.specs.History.{History}
use Rattle.psbt_codec.specs.declared.psbt.Spent.{Spent}
use Rattle.tx_codec.specs.Transaction.{Transaction}
use Rattle.tx_codec.specs.declared.tx.TxOut.{TxOut}
use Rattle.command_complete.specs.Completed.{IsCompletedInput, Known, due_for}
use Rattle.command_complete.specs.declared.fault.CompleteFault.{CompleteFault}
use Rattle.command_complete.specs.declared.fault.CompleteFault.TheVariants.{Missing, OtherOutput, Memory}

-- An output stands beside the input, and the whole transaction that is due there doesn't have it at the index that the input
-- spends.
pub record HasOther (h : History) (k : Known) : Type 0 where
  pub whole : Transaction
  pub is_due : due_for h k ≡ Some whole
  pub told : TxOut
  pub stands : k.1.paid ≡ Some told
  pub other : slice_get whole.outputs k.0.prev.index ≢ Some told

-- this is wrong with the input of this index
abbrev pub IsInputFault : History → ℕ → Known → CompleteFault → Type 0
IsInputFault h n k (Missing index coin) = (index ≡ n) × (coin ≡ k.0.prev) × (due_for h k ≡ None)
IsInputFault h n k (OtherOutput index coin) = (index ≡ n) × (coin ≡ k.0.prev) × HasOther h k
IsInputFault h n k Memory = ⊥

-- nothing is wrong with it
abbrev pub CanBeCompleted : History → Known → Type 0
CanBeCompleted h k = (s : Spent) × IsCompletedInput h k s

-- nothing is wrong with the first of these inputs, where there is one
abbrev pub FirstCanBeCompleted : History → List Known → Type 0
FirstCanBeCompleted h [] = Unit {0}
FirstCanBeCompleted h (k ∷ ks) = CanBeCompleted h k

-- this is wrong with the first of these inputs with which something is
pub record IsFirstFault (h : History) (known : List Known) (fault : CompleteFault) : Type 0 where
  pub before : List Known
  pub input : Known
  pub after : List Known
  pub parts : known ≡ before ++ input ∷ after
  pub complete : All (CanBeCompleted h) before
  pub wrong : IsInputFault h (length before) input fault

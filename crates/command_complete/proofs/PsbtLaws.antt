-- The parts of a PSBT, and what is made of them.
use Rattle.std.proofs.Common.{◌≡◌, ◌∙◌, List, length, sym, ap, subst}
use Rattle.std.specs.Prelude.{All}
use Rattle.std.specs.List.{AllZip, zip}
use Rattle.coin_book.specs.History.{History}
use Rattle.psbt_codec.specs.PartialTransaction.{PartialTransaction}
use Rattle.psbt_codec.specs.Psbt.{IsPsbt, IsSpent}
use Rattle.psbt_codec.specs.declared.psbt.Spent.{Spent}
use Rattle.tx_codec.specs.Transaction.{Transaction}
use Rattle.tx_codec.specs.declared.tx.TxIn.{TxIn}
use Rattle.command_complete.specs.Completed.{IsCompleted, IsCompletedInput, Known, known_of}
use Rattle.command_complete.specs.Faults.{FirstCanBeCompleted, IsFirstFault}
use Rattle.command_complete.specs.declared.fault.CompleteFault.{CompleteFault}

abbrev Fits : Known → Type 0
Fits k = IsSpent k.0 k.1

module _ (p : PartialTransaction) (is : List TxIn) (ss : List Spent) (inputs : is ≡ p.tx.inputs) (spent : ss ≡ p.spent) where
  known_is : zip is ss ≡ known_of p
  known_is = ap (λ (l : List TxIn). zip l ss) inputs ∙ ap (λ (l : List Spent). zip p.tx.inputs l) spent

  pub lengths_of : IsPsbt p → length ss ≡ length is
  lengths_of s = ap (λ (l : List Spent). length l) spent ∙ s.spent_len ∙ sym (ap (λ (l : List TxIn). length l) inputs)

  pub fits_of : IsPsbt p → All Fits (zip is ss)
  fits_of s = subst (λ (ks : List Known). All Fits ks) (sym known_is) s.spent

  pub completed_of : (h : History) (tx : Transaction) (xs : List Spent) → tx ≡ p.tx → AllZip (IsCompletedInput h) (zip is ss) xs → IsCompleted h p (record { tx = tx; spent = xs })
  completed_of h tx xs same done = record { tx = same; inputs = subst (λ (ks : List Known). AllZip (IsCompletedInput h) ks xs) known_is done }

  pub first_of : (h : History) (e : CompleteFault) → IsFirstFault h (zip is ss) e → IsFirstFault h (known_of p) e
  first_of h e first = subst (λ (ks : List Known). IsFirstFault h ks e) known_is first

  pub first_can_of : (h : History) → FirstCanBeCompleted h (zip is ss) → FirstCanBeCompleted h (known_of p)
  first_can_of h first = subst (λ (ks : List Known). FirstCanBeCompleted h ks) known_is first

-- An input made whole.
use Rattle.std.proofs.Common.{◌≡◌, ◌∙◌, ◌<◌, ℕ, List, [], Option, Some, None, false, refl, ap, subst, arith, lit<}
use Rattle.std.specs.Prelude.{IfSome}
use Rattle.std.specs.Option.{option_or}
use Rattle.std.proofs.lemmas.List.Elements.{All-nil}
use Rattle.std.proofs.lemmas.Option.{same_Some}
use Rattle.coin_book.specs.Coins.{parent_of}
use Rattle.coin_book.specs.History.{History}
use Rattle.coin_candidates.specs.declared.candidate.Candidate.{Candidate}
use Rattle.fund_base.specs.declared.outpoint.OutPoint.{OutPoint}
use Rattle.fund_files.specs.Chain.{HasTexts}
use Rattle.fund_payment.proofs.ParentLaws.{spent_fits}
use Rattle.fund_payment.specs.Report.{spent_of}
use Rattle.psbt_codec.specs.Psbt.{IsParent, IsSpent}
use Rattle.psbt_codec.specs.declared.psbt.Spent.{Spent}
use Rattle.tx_codec.specs.Transaction.{Transaction}
use Rattle.tx_codec.specs.declared.tx.TxIn.{TxIn}
use Rattle.tx_codec.specs.declared.tx.TxOut.{TxOut}
use Rattle.command_complete.specs.Completed.{HasTold, IsCompletedInput, due_for}

-- an output is told by its value and its script
pub same_output : (o p : TxOut) → o.value ≡ p.value → o.script ≡ p.script → o ≡ p
same_output o p v s =
    let by_value : ℕ → TxOut = λ n. record { value = n; script = o.script } in
    let by_script : List ℕ → TxOut = λ b. record { value = p.value; script = b } in
    ap by_value v ∙ ap by_script s

-- a coin of an outpoint, of no worth
nothing_at : OutPoint → Candidate
nothing_at o = record { coin = o; value = 0; weight = 0; script = []; depth = 0; mine = false; safe = false; ancestors = 0; descendants = 0; price = 0 }

-- the transaction of a book's coin is one that an input spends from
pub book_parent : (h : History) (i : TxIn) (t : Transaction) → HasTexts h → parent_of h i.prev ≡ Some t → IsParent i t
unfolding spent_of nothing_at
book_parent h i t texts e =
    let fits : IsSpent i (spent_of h (nothing_at i.prev)) = spent_fits h (nothing_at i.prev) texts (omega arith) (All-nil (λ (b : ℕ). b < 256)) (lit< tt) i refl in
    subst (λ (o : Option Transaction). IfSome o (IsParent i)) e fits.whole

-- what is due beside an input is the transaction that it spends from
pub due_is_parent : (h : History) (i : TxIn) (s : Spent) (t : Transaction) → HasTexts h → IsSpent i s → due_for h (i, s) ≡ Some t → IsParent i t
due_is_parent h i s t texts fits e = by s.whole fits.whole e
  where
    by : (o : Option Transaction) → IfSome o (IsParent i) → option_or o (parent_of h i.prev) ≡ Some t → IsParent i t
    by None f is = book_parent h i t texts is
    by (Some w) f is = subst (IsParent i) (same_Some w t is) f

-- an input is completed by the transaction that is due beside it, where that has the output that stands there
pub completed_is : (h : History) (i : TxIn) (s : Spent) (t : Transaction) (x : Spent) → HasTexts h → IsSpent i s → due_for h (i, s) ≡ Some t → HasTold (i, s) t → x.whole ≡ Some t → x.paid ≡ s.paid → IsCompletedInput h (i, s) x
completed_is h i s t x texts fits due told shown paid = record { whole = t; is_due = due; parent = due_is_parent h i s t texts fits due; told = told; shown = shown; paid = paid }

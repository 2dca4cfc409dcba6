-- A PSBT is made whole in one way, or isn't for one fault.
use Rattle.std.proofs.Common.{◌≡◌, ◌∙◌, ℕ, List, [], ◌∷◌, ◌++◌, length, min, Option, Some, refl, sym, ap, subst, arith}
use Rattle.std.specs.Prelude.{All, IfSome, slice_get}
use Rattle.std.specs.List.{AllZip, zip}
use Rattle.std.specs.Option.{option_or}
use Rattle.std.proofs.lemmas.List.Elements.{All-nil, All-cons, All-head, All-tail}
use Rattle.std.proofs.lemmas.Option.{none-some, same_Some}
use Rattle.std.proofs.lemmas.Slice.Zip.{AllZip-long, length-zip}
use Rattle.coin_book.specs.Coins.{parent_of}
use Rattle.coin_book.specs.History.{History}
use Rattle.fund_base.specs.declared.outpoint.OutPoint.{OutPoint}
use Rattle.psbt_codec.specs.PartialTransaction.{PartialTransaction}
use Rattle.psbt_codec.specs.Psbt.{IsPaid, IsParent, IsPsbt, IsSpent, IsUnsigned}
use Rattle.psbt_codec.specs.declared.psbt.Spent.{Spent}
use Rattle.tx_codec.specs.Transaction.{Transaction}
use Rattle.tx_codec.specs.TransactionText.{IsTransaction}
use Rattle.tx_codec.specs.declared.tx.TxIn.{TxIn}
use Rattle.tx_codec.specs.declared.tx.TxOut.{TxOut}
use Rattle.command_complete.specs.Completed.{HasTold, IsCompleted, IsCompletedInput, Known, due_for, known_of}
use Rattle.command_complete.specs.Faults.{CanBeCompleted, IsFirstFault, IsInputFault}
use Rattle.command_complete.specs.declared.fault.CompleteFault.{CompleteFault}
use Rattle.command_complete.specs.declared.fault.CompleteFault.TheVariants.{Missing, OtherOutput, Memory}

-- ---- one input

same_spent : (x y : Spent) → x.whole ≡ y.whole → x.paid ≡ y.paid → x ≡ y
same_spent x y w p =
    let by_whole : Option Transaction → Spent = λ o. record { whole = o; paid = x.paid } in
    let by_paid : Option TxOut → Spent = λ o. record { whole = y.whole; paid = o } in
    ap by_whole w ∙ ap by_paid p

one_due : (h : History) (k : Known) (t u : Transaction) → due_for h k ≡ Some t → due_for h k ≡ Some u → t ≡ u
one_due h k t u a b = same_Some t u (sym a ∙ b)

one_input : (h : History) (k : Known) (x y : Spent) → IsCompletedInput h k x → IsCompletedInput h k y → x ≡ y
one_input h k x y a b = same_spent x y (a.shown ∙ ap (λ (t : Transaction). Some t) (one_due h k a.whole b.whole a.is_due b.is_due) ∙ sym b.shown) (a.paid ∙ sym b.paid)

-- what an input shows is the output that stands beside it
told_is : (k : Known) (t : Transaction) (told : TxOut) → HasTold k t → k.1.paid ≡ Some told → slice_get t.outputs k.0.prev.index ≡ Some told
told_is k t told h e = let P : Option TxOut → Type 0 = λ o. IfSome o (λ (x : TxOut). slice_get t.outputs k.0.prev.index ≡ Some x) in subst P e h

-- an input that can be completed has no fault
not_both : (h : History) (n : ℕ) (k : Known) (s : Spent) (e : CompleteFault) → IsCompletedInput h k s → IsInputFault h n k e → ⊥
not_both h n k s (Missing index coin) a w = none-some a.whole (sym w.2 ∙ a.is_due)
not_both h n k s (OtherOutput index coin) a w =
    let same : a.whole ≡ w.2.whole = one_due h k a.whole w.2.whole a.is_due w.2.is_due in
    w.2.other (told_is k w.2.whole w.2.told (subst (HasTold k) same a.told) w.2.stands)
not_both h n k s Memory a w = w

one_fault : (h : History) (n : ℕ) (k : Known) (e f : CompleteFault) → IsInputFault h n k e → IsInputFault h n k f → e ≡ f
one_fault h n k (Missing i o) (Missing j p) a b = ap (λ (x : ℕ). Missing x o) (a.0 ∙ sym b.0) ∙ ap (λ (x : OutPoint). Missing j x) (a.1 ∙ sym b.1)
one_fault h n k (Missing i o) (OtherOutput j p) a b = absurd (none-some b.2.whole (sym a.2 ∙ b.2.is_due))
one_fault h n k (Missing i o) Memory a b = absurd b
one_fault h n k (OtherOutput i o) (Missing j p) a b = absurd (none-some a.2.whole (sym b.2 ∙ a.2.is_due))
one_fault h n k (OtherOutput i o) (OtherOutput j p) a b = ap (λ (x : ℕ). OtherOutput x o) (a.0 ∙ sym b.0) ∙ ap (λ (x : OutPoint). OtherOutput j x) (a.1 ∙ sym b.1)
one_fault h n k (OtherOutput i o) Memory a b = absurd b
one_fault h n k Memory f a b = absurd a

-- ---- all inputs

one_list : (h : History) (ks : List Known) (xs ys : List Spent) → AllZip (IsCompletedInput h) ks xs → AllZip (IsCompletedInput h) ks ys → xs ≡ ys
one_list h [] [] [] a b = refl
one_list h [] [] (y ∷ ys) a b = absurd b
one_list h [] (x ∷ xs) ys a b = absurd a
one_list h (k ∷ ks) [] ys a b = absurd a
one_list h (k ∷ ks) (x ∷ xs) [] a b = absurd b
one_list h (k ∷ ks) (x ∷ xs) (y ∷ ys) a b = ap (λ (s : Spent). s ∷ xs) (one_input h k x y a.0 b.0) ∙ ap (λ (l : List Spent). y ∷ l) (one_list h ks xs ys a.1 b.1)

partial : Transaction → List Spent → PartialTransaction
partial tx spent = record { tx = tx; spent = spent }

pub one_completed : (h : History) (p q r : PartialTransaction) → IsCompleted h p q → IsCompleted h p r → q ≡ r
unfolding partial
one_completed h p q r a b =
    ap (λ (t : Transaction). partial t q.spent) (a.tx ∙ sym b.tx) ∙ ap (partial r.tx) (one_list h (known_of p) q.spent r.spent a.inputs b.inputs)

-- each input of those that are completed can be
completed_at : (h : History) (before : List Known) (k : Known) (after : List Known) (xs : List Spent) → AllZip (IsCompletedInput h) (before ++ k ∷ after) xs → CanBeCompleted h k
completed_at h [] k after [] a = absurd a
completed_at h [] k after (x ∷ xs) a = (x, a.0)
completed_at h (b ∷ before) k after [] a = absurd a
completed_at h (b ∷ before) k after (x ∷ xs) a = completed_at h before k after xs a.1

pub no_fault : (h : History) (p q : PartialTransaction) (e : CompleteFault) → IsCompleted h p q → IsFirstFault h (known_of p) e → ⊥
no_fault h p q e a w =
    let at : CanBeCompleted h w.input = completed_at h w.before w.input w.after q.spent (subst (λ (ks : List Known). AllZip (IsCompletedInput h) ks q.spent) w.parts a.inputs) in
    not_both h (length w.before) w.input at.0 e at.1 w.wrong

-- ---- the first fault

-- something is wrong with an input
HasFault : History → Known → Type 0
HasFault h k = (n : ℕ) × (e : CompleteFault) × IsInputFault h n k e

same_head : (x y : Known) (xs ys : List Known) → x ∷ xs ≡ y ∷ ys → x ≡ y
same_head x y xs ys e = cc

same_tail : (x y : Known) (xs ys : List Known) → x ∷ xs ≡ y ∷ ys → xs ≡ ys
same_tail x y xs ys e = cc

-- two inputs of one list that are the first with which something is wrong are one
one_place : (h : History) (a : List Known) (k : Known) (ar : List Known) (b : List Known) (l : Known) (br : List Known) → a ++ k ∷ ar ≡ b ++ l ∷ br → All (CanBeCompleted h) a → All (CanBeCompleted h) b → HasFault h k → HasFault h l → (length a ≡ length b) × (k ≡ l)
unfolding HasFault
one_place h [] k ar [] l br e ca cb fk fl = (refl, same_head k l ar br e)
one_place h [] k ar (y ∷ b) l br e ca cb fk fl =
    let can : CanBeCompleted h k = subst (CanBeCompleted h) (sym (same_head k y ar (b ++ l ∷ br) e)) (All-head (CanBeCompleted h) y b cb) in
    absurd (not_both h fk.0 k can.0 fk.1 can.1 fk.2)
one_place h (x ∷ a) k ar [] l br e ca cb fk fl =
    let can : CanBeCompleted h l = subst (CanBeCompleted h) (same_head x l (a ++ k ∷ ar) br e) (All-head (CanBeCompleted h) x a ca) in
    absurd (not_both h fl.0 l can.0 fl.1 can.1 fl.2)
one_place h (x ∷ a) k ar (y ∷ b) l br e ca cb fk fl =
    let rest = one_place h a k ar b l br (same_tail x y (a ++ k ∷ ar) (b ++ l ∷ br) e) (All-tail (CanBeCompleted h) x a ca) (All-tail (CanBeCompleted h) y b cb) fk fl in
    (omega (arith, rest.0), rest.1)

pub one_first : (h : History) (ks : List Known) (e f : CompleteFault) → IsFirstFault h ks e → IsFirstFault h ks f → e ≡ f
unfolding HasFault
one_first h ks e f a b =
    let place = one_place h a.before a.input a.after b.before b.input b.after (sym a.parts ∙ b.parts) a.complete b.complete (length a.before, e, a.wrong) (length b.before, f, b.wrong) in
    one_fault h (length b.before) b.input e f (subst (λ (k : Known). IsInputFault h (length b.before) k e) place.1 (subst (λ (n : ℕ). IsInputFault h n a.input e) place.0 a.wrong)) b.wrong

-- ---- what is made whole is a PSBT

abbrev Fits : Known → Type 0
Fits k = IsSpent k.0 k.1

spent_still : (h : History) (k : Known) (x : Spent) → IsCompletedInput h k x → Fits k → IsSpent k.0 x
spent_still h k x a f = record {
  whole = subst (λ (o : Option Transaction). IfSome o (IsParent k.0)) (sym a.shown) a.parent;
  paid = subst (λ (o : Option TxOut). IfSome o IsPaid) (sym a.paid) f.paid;
}

all_still : (h : History) (is : List TxIn) (ss xs : List Spent) → length ss ≡ length is → AllZip (IsCompletedInput h) (zip is ss) xs → All Fits (zip is ss) → All Fits (zip is xs)
all_still h [] ss xs len a f = All-nil Fits
all_still h (i ∷ is) [] xs len a f = absurd (omega (arith, len))
all_still h (i ∷ is) (s ∷ ss) [] len a f = absurd a
all_still h (i ∷ is) (s ∷ ss) (x ∷ xs) len a f =
    All-cons Fits (i, x) (zip is xs) (spent_still h (i, s) x a.0 (All-head Fits (i, s) (zip is ss) f)) (all_still h is ss xs (omega (arith, len)) a.1 (All-tail Fits (i, s) (zip is ss) f))

pub still_psbt : (h : History) (p q : PartialTransaction) → IsPsbt p → IsCompleted h p q → IsPsbt q
still_psbt h p q s a =
    let long : length q.spent ≡ length (zip p.tx.inputs p.spent) = AllZip-long (IsCompletedInput h) (known_of p) q.spent a.inputs in
    let pairs : length (zip p.tx.inputs p.spent) ≡ min (length p.tx.inputs) (length p.spent) = length-zip p.tx.inputs p.spent in
    let same : length q.spent ≡ length p.tx.inputs = omega (arith, long, pairs, s.spent_len) in
    record {
      text = subst IsTransaction (sym a.tx) s.text;
      unsigned = subst (λ (t : Transaction). All IsUnsigned t.inputs) (sym a.tx) s.unsigned;
      spent_len = subst (λ (t : Transaction). length q.spent ≡ length t.inputs) (sym a.tx) same;
      spent = subst (λ (t : Transaction). All Fits (zip t.inputs q.spent)) (sym a.tx) (all_still h p.tx.inputs p.spent q.spent s.spent_len a.inputs s.spent);
    }

-- ---- what is whole stays

stays_at : (h g : History) (i : TxIn) (s x : Spent) → IsCompletedInput h (i, s) x → IsCompletedInput g (i, x) x
stays_at h g i s x a = record {
  whole = a.whole;
  is_due = ap (λ (o : Option Transaction). option_or o (parent_of g i.prev)) a.shown;
  parent = a.parent;
  told = let P : Option TxOut → Type 0 = λ o. IfSome o (λ (told : TxOut). slice_get a.whole.outputs i.prev.index ≡ Some told) in subst P (sym a.paid) a.told;
  shown = a.shown;
  paid = refl;
}

all_stay : (h g : History) (is : List TxIn) (ss xs : List Spent) → AllZip (IsCompletedInput h) (zip is ss) xs → AllZip (IsCompletedInput g) (zip is xs) xs
all_stay h g [] ss [] a = tt
all_stay h g [] ss (x ∷ xs) a = absurd a
all_stay h g (i ∷ is) [] [] a = tt
all_stay h g (i ∷ is) [] (x ∷ xs) a = absurd a
all_stay h g (i ∷ is) (s ∷ ss) [] a = absurd a
all_stay h g (i ∷ is) (s ∷ ss) (x ∷ xs) a = (stays_at h g i s x a.0, all_stay h g is ss xs a.1)

pub stays : (h g : History) (p q : PartialTransaction) → IsCompleted h p q → IsCompleted g q q
stays h g p q a = record {
  tx = refl;
  inputs = subst (λ (t : Transaction). AllZip (IsCompletedInput g) (zip t.inputs q.spent) q.spent) (sym a.tx) (all_stay h g p.tx.inputs p.spent q.spent a.inputs);
}

pub same_again : (h g : History) (p q r : PartialTransaction) → IsCompleted h p q → IsCompleted g q r → r ≡ q
same_again h g p q r a b = one_completed g q r q b (stays h g p q a)

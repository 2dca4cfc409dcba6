-- The inputs of a PSBT, one after another.
use Rattle.std.proofs.Common.{◌≡◌, ◌∙◌, ℕ, zero, suc, ◌+◌, ◌<◌, ◌≤◌, List, [], ◌∷◌, ◌++◌, Err, length, min, take, drop, get_or, sym, ap, subst, arith, drop-cons}
use Rattle.std.specs.Prelude.{All, Result}
use Rattle.std.specs.List.{AllZip, zip}
use Rattle.std.proofs.lemmas.List.{length-take-le, take-append-drop, take_all, take_more}
use Rattle.std.proofs.lemmas.List.Elements.{All-cons, All-get_or, All-nil}
use Rattle.std.proofs.lemmas.Slice.Zip.{all_zipped_more, get_or-zip, length-zip}
use Rattle.coin_book.specs.History.{History}
use Rattle.psbt_codec.specs.Psbt.{IsSpent}
use Rattle.psbt_codec.specs.declared.psbt.Spent.{Spent}
use Rattle.tx_codec.specs.declared.tx.TxIn.{TxIn}
use Rattle.command_complete.specs.Completed.{IsCompletedInput, Known}
use Rattle.command_complete.specs.Faults.{CanBeCompleted, FirstCanBeCompleted, IsFirstFault, IsInputFault}
use Rattle.command_complete.specs.declared.fault.CompleteFault.{CompleteFault}
use Rattle.command_complete.specs.declared.fault.CompleteFault.TheVariants.{Memory}

abbrev Fits : Known → Type 0
Fits k = IsSpent k.0 k.1

abbrev is_fault : {T : Type 0} → CompleteFault → Result T CompleteFault
is_fault e = Err e

-- an error that is out of memory is that, whatever a value would have been
pub same_fault : {T : Type 0} (e : CompleteFault) → is_fault {T = T} e ≡ is_fault Memory → e ≡ Memory
same_fault e is = cc

pub all_can : (h : History) (ks : List Known) (xs : List Spent) → AllZip (IsCompletedInput h) ks xs → All (CanBeCompleted h) ks
all_can h [] xs a = All-nil (CanBeCompleted h)
all_can h (k ∷ ks) [] a = absurd a
all_can h (k ∷ ks) (x ∷ xs) a = All-cons (CanBeCompleted h) k ks (x, a.0) (all_can h ks xs a.1)

-- nothing is wrong with the first of inputs that were completed
pub first_done : (h : History) (ks : List Known) (xs : List Spent) → AllZip (IsCompletedInput h) ks xs → FirstCanBeCompleted h ks
first_done h [] xs a = tt
first_done h (k ∷ ks) [] a = absurd a
first_done h (k ∷ ks) (x ∷ xs) a = (x, a.0)

-- nor with that of inputs of which those before one were completed, and that one can be
first_here : (h : History) (ks : List Known) (n : ℕ) (k : Known) → get_or ks n k ≡ k → (xs : List Spent) → AllZip (IsCompletedInput h) (take n ks) xs → CanBeCompleted h k → FirstCanBeCompleted h ks
first_here h [] n k e xs a can = tt
first_here h (j ∷ ks) zero k e xs a can = subst (CanBeCompleted h) (sym e) can
first_here h (j ∷ ks) (suc n) k e xs a can = first_done h (j ∷ take n ks) xs a

module _ (h : History) (is : List TxIn) (ss : List Spent) (n : ℕ) (i : TxIn) (s : Spent) (within : n < length is) (len : length ss ≡ length is) (here : i ≡ get_or is n i) (beside : s ≡ get_or ss n s) where
  pairs_long : length (zip is ss) ≡ length is
  pairs_long = let pairs : length (zip is ss) ≡ min (length is) (length ss) = length-zip is ss in omega (arith, pairs, len)

  pair_at : get_or (zip is ss) n (i, s) ≡ (i, s)
  pair_at =
      let within' : n < length ss = omega (arith, within, len) in
      let by_input : TxIn → Known = λ x. (x, get_or ss n s) in
      let by_spent : Spent → Known = λ x. (i, x) in
      get_or-zip is ss n (i, s) within within' ∙ ap by_input (sym here) ∙ ap by_spent (sym beside)

  pub input_fits : All Fits (zip is ss) → IsSpent i s
  input_fits f = let at : n < length (zip is ss) = omega (arith, within, pairs_long) in subst Fits pair_at (All-get_or Fits (zip is ss) n (i, s) at f)

  pub one_more : (xs : List Spent) (x : Spent) → AllZip (IsCompletedInput h) (take n (zip is ss)) xs → IsCompletedInput h (i, s) x → AllZip (IsCompletedInput h) (take (n + 1) (zip is ss)) (xs ++ x ∷ [])
  one_more xs x a b =
      let at : n < length (zip is ss) = omega (arith, within, pairs_long) in
      subst (λ (ks : List Known). AllZip (IsCompletedInput h) ks (xs ++ x ∷ [])) (sym (take_more (zip is ss) n (i, s) at ∙ ap (λ (k : Known). take n (zip is ss) ++ k ∷ []) pair_at))
      (all_zipped_more (IsCompletedInput h) (take n (zip is ss)) xs (i, s) x a b)

  pub first_at : (xs : List Spent) (e : CompleteFault) → AllZip (IsCompletedInput h) (take n (zip is ss)) xs → IsInputFault h n (i, s) e → IsFirstFault h (zip is ss) e
  first_at xs e a w =
      let at : n < length (zip is ss) = omega (arith, within, pairs_long) in
      record {
        before = take n (zip is ss);
        input = (i, s);
        after = drop (suc n) (zip is ss);
        parts = sym (take-append-drop n (zip is ss)) ∙ ap (λ (l : List Known). take n (zip is ss) ++ l) (drop-cons (zip is ss) n (i, s) at ∙ ap (λ (k : Known). k ∷ drop (suc n) (zip is ss)) pair_at);
        complete = all_can h (take n (zip is ss)) xs a;
        wrong = subst (λ (m : ℕ). IsInputFault h m (i, s) e) (sym (length-take-le n (zip is ss) (omega (arith, at)))) w;
      }

  pub first_can : (xs : List Spent) → AllZip (IsCompletedInput h) (take n (zip is ss)) xs → CanBeCompleted h (i, s) → FirstCanBeCompleted h (zip is ss)
  first_can xs a can = first_here h (zip is ss) n (i, s) pair_at xs a can

pub all_done : (h : History) (is : List TxIn) (ss : List Spent) (n : ℕ) (xs : List Spent) → length is ≤ n → length ss ≡ length is → AllZip (IsCompletedInput h) (take n (zip is ss)) xs → AllZip (IsCompletedInput h) (zip is ss) xs
all_done h is ss n xs over len a =
    let pairs : length (zip is ss) ≡ min (length is) (length ss) = length-zip is ss in
    subst (λ (ks : List Known). AllZip (IsCompletedInput h) ks xs) (take_all n (zip is ss) (omega (arith, over, len, pairs))) a

-- Lists of spends, put after others and taken away again.
use Rattle.std.proofs.Common.{◌≡◌, ◌∙◌, ℕ, zero, suc, ◌+◌, ◌-◌, Bool, true, false, cond, List, [], ◌∷◌, ◌++◌, length, take, Option, Some, Result, Ok, Err, IfErr, IfOk, IsErr, refl, sym, ap, arith, append_assoc, true≢false}
use Rattle.std.specs.Prelude.{slice_get}
use Rattle.std.specs.List.{AllByRecursion, IsDistinct}
use Rattle.std.specs.Map.{keys_of, lookup}
use Rattle.std.specs.Option.{option_map_or, option_to_list}
use Rattle.std.proofs.Math.Seq.{take-append_seam}
use Rattle.std.proofs.lemmas.Grind.{flat_map-append}
use Rattle.std.proofs.lemmas.List.{append-nil, length-append}
use Rattle.std.proofs.lemmas.Map.Keys.{IsDistinct-head, IsDistinct-tail}
use Rattle.fund_base.specs.Outpoints.{same_outpoint}
use Rattle.fund_base.specs.declared.outpoint.OutPoint.{OutPoint}
use Rattle.fund_base.proofs.OutpointLaws.{same_outpoint-Decides}
use Rattle.coin_book.specs.Places.{all_in, spends_in}
use Rattle.coin_book.specs.declared.coin.Spend.{Spend}

-- what holds where a call ends well
pub on_ok : {A E P Q : Type 0} (r : Result A E) → IfOk r (λ _. P) → (P → Q) → IfOk r (λ _. Q)
on_ok (Ok a) said f = f said
on_ok (Err e) said f = said

pub on_err : {A E Q : Type 0} (r : Result A E) → Q → IfErr r (λ _. Q)
on_err (Ok a) q = _
on_err (Err e) q = q

pub only_err : {A E : Type 0} (Q : Type 0) (r : Result A E) → IsErr r → IfOk r (λ _. Q)
only_err Q (Ok a) bad = absurd (true≢false (sym bad))
only_err Q (Err e) bad = _

-- the first of a list, and one more
pub take_next : {X : Type 0} (xs : List X) (i : ℕ) (x : X) → slice_get xs i ≡ Some x → take (i + 1) xs ≡ take i xs ++ x ∷ []
take_next [] i x is = absurd cc
take_next {X = X} (y ∷ ys) zero x is = ap (λ (o : Option X). option_to_list o) is
take_next {X = X} (y ∷ ys) (suc i) x is = let n : suc i + 1 ≡ suc (i + 1) = omega arith in ap (λ k. take k (y ∷ ys)) n ∙ ap (λ (l : List X). y ∷ l) (take_next ys i x is)

abbrev Entries : Type 0
Entries = List (OutPoint × List Spend)

abbrev listed : OutPoint → OutPoint × List Spend → List Spend
listed o e = cond (same_outpoint e.0 o) e.1 []

all_more : (es : Entries) (i : ℕ) (e : OutPoint × List Spend) (o : OutPoint) → slice_get es i ≡ Some e → all_in (take (i + 1) es) o ≡ all_in (take i es) o ++ listed o e
all_more es i e o is =
    ap (λ (l : Entries). all_in l o) (take_next es i e is) ∙ flat_map-append (listed o) (take i es) (e ∷ [])
    ∙ ap (λ (l : List Spend). all_in (take i es) o ++ l) (append-nil (listed o e))

-- one entry's spends after the others
pub one_list : (es : Entries) (i : ℕ) (p : OutPoint) (list front old new : List Spend) (o : OutPoint) → slice_get es i ≡ Some (p, list) → old ≡ front ++ all_in (take i es) o → new ≡ old ++ cond (same_outpoint p o) list []
    → new ≡ front ++ all_in (take (i + 1) es) o
one_list es i p list front old new o is so_far more =
    more
    ∙ ap (λ (l : List Spend). l ++ listed o (p, list)) so_far
    ∙ append_assoc front (all_in (take i es) o) (listed o (p, list))
    ∙ ap (λ (l : List Spend). front ++ l) (sym (all_more es i (p, list) o is))

cut_back : (xs ys : List Spend) → take (length (xs ++ ys) - length ys) (xs ++ ys) ≡ xs
cut_back xs ys = let n = length-append xs ys in let m : length (xs ++ ys) - length ys ≡ length xs = omega arith in ap (λ k. take k (xs ++ ys)) m ∙ take-append_seam xs ys

-- so many spends taken away again that were put after others
pub cut_again : (b : Bool) (kept list cut : List Spend) (count : ℕ) → count ≡ length list → cut ≡ kept ++ cond b list [] → cond b (take (length cut - count) cut) cut ≡ kept
cut_again true kept list cut count many is = (λ k. take (length (is k) - many k) (is k)) ∙ cut_back kept list
cut_again false kept list cut count many is = is ∙ append-nil kept

-- one entry's spends taken away again
pub cut_one : (es : Entries) (i : ℕ) (p : OutPoint) (list : List Spend) (count : ℕ) (front old new : List Spend) (o : OutPoint) → slice_get es i ≡ Some (p, list) → count ≡ length list
    → old ≡ front ++ all_in (take (i + 1) es) o → new ≡ cond (same_outpoint p o) (take (length old - count) old) old → new ≡ front ++ all_in (take i es) o
cut_one es i p list count front old new o is many so_far cut =
    cut
    ∙ cut_again (same_outpoint p o) (front ++ all_in (take i es) o) list old count many
    (so_far ∙ ap (λ (l : List Spend). front ++ l) (all_more es i (p, list) o is) ∙ sym (append_assoc front (all_in (take i es) o) (listed o (p, list))))

-- ---- where each outpoint has one entry

none_of : (es : Entries) (k o : OutPoint) → AllByRecursion (λ y. same_outpoint k y ≡ false) (keys_of es) → k ≡ o → all_in es o ≡ []
none_of [] k o others is = refl
none_of (e ∷ es) k o others is =
    (λ j. cond (other j) e.1 [] ++ none_of es k o others.1 is j)
  where
    other : same_outpoint e.0 o ≡ false
    other = by (same_outpoint e.0 o) refl
      where
        by : (b : Bool) → same_outpoint e.0 o ≡ b → b ≡ false
        by false e = refl
        by true here = absurd (true≢false (sym ((same_outpoint-Decides k e.0).1 (is ∙ sym ((same_outpoint-Decides e.0 o).0 here))) ∙ others.0))

flip : (a b : OutPoint) (x : Bool) → same_outpoint a b ≡ x → same_outpoint b a ≡ x
flip a b true here = (same_outpoint-Decides b a).1 (sym ((same_outpoint-Decides a b).0 here))
flip a b false there = by (same_outpoint b a) refl
  where
    by : (x : Bool) → same_outpoint b a ≡ x → x ≡ false
    by false e = refl
    by true here = absurd (true≢false (sym ((same_outpoint-Decides a b).1 (sym ((same_outpoint-Decides b a).0 here))) ∙ there))

abbrev or_none : Option (List Spend) → List Spend
or_none o = option_map_or (λ (l : List Spend). l) o []

pub all_is_one : (es : Entries) (o : OutPoint) → IsDistinct same_outpoint (keys_of es) → all_in es o ≡ spends_in es o
all_is_one [] o apart = refl
all_is_one (e ∷ es) o apart = by (same_outpoint e.0 o) refl (all_is_one es o (IsDistinct-tail same_outpoint e.0 (keys_of es) apart))
  where
    by : (b : Bool) → same_outpoint e.0 o ≡ b → all_in es o ≡ spends_in es o → listed o e ++ all_in es o ≡ or_none (cond (same_outpoint o e.0) (Some e.1) (lookup (same_outpoint o) es))
    by true here rest =
        (λ j. cond (here j) e.1 [] ++ none_of es e.0 o (IsDistinct-head same_outpoint e.0 (keys_of es) apart) ((same_outpoint-Decides e.0 o).0 here) j)
        ∙ append-nil e.1
        ∙ ap (λ (b : Bool). or_none (cond b (Some e.1) (lookup (same_outpoint o) es))) (sym (flip e.0 o true here))
    by false there rest =
        (λ j. cond (there j) e.1 [] ++ all_in es o)
        ∙ rest
        ∙ ap (λ (b : Bool). or_none (cond b (Some e.1) (lookup (same_outpoint o) es))) (sym (flip e.0 o false there))

-- ---- spends of one outpoint, put one by one

pub put_none : (b : Bool) (old : List Spend) → old ≡ old ++ cond b [] []
put_none true old = sym (append-nil old)
put_none false old = sym (append-nil old)

pub put_more : (b : Bool) (old front : List Spend) (s : Spend) → (old ++ cond b front []) ++ cond b (s ∷ []) [] ≡ old ++ cond b (front ++ s ∷ []) []
put_more true old front s = append_assoc old front (s ∷ [])
put_more false old front s = append-nil (old ++ [])

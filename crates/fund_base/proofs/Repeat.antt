-- Reading one item after the other, as a loop over a count does.
use Rattle.std.proofs.Common.{◌≡◌, ◌≢◌, ℕ, zero, suc, ◌-◌, ◌+◌, ◌^◌, ◌≤◌, ◌<◌, List, [], ◌∷◌, ◌++◌, length, All, Result, Ok, Err, refl, sym, ap, subst, ◌∙◌, append_assoc, arith}
use Rattle.std.specs.List.{flat_map, AllByRecursion}
use Rattle.std.proofs.lemmas.List.{append-nil}
use Rattle.std.proofs.lemmas.List.Concat.{flat_map-cons}
use Rattle.std.proofs.lemmas.List.Elements.{All-from_recursion, recursion_from_All}
use Rattle.fund_base.specs.declared.cursor.CutFault.{CutFault}
use Rattle.fund_base.specs.CompactSize.{compact, counted}
use Rattle.fund_base.specs.Cursor.{At, IsBytes, compact_at}
use Rattle.fund_base.specs.Parsing.{many_from, many_at, counted_at}
use Rattle.fund_base.proofs.Laws.{bind_ok, bind_is, told_ok, told_is, ok_is, Takes, takes_then, takes_none, Again, Reads}
use Rattle.fund_base.proofs.LawsOfNumbers.{count_reads}

-- What a loop over a count, which began where nothing was read, has read after i items: reading goes on
-- from here as it would have from there.
pub record SoFar {X E : Type 0} (item : List X → At → Result (X × At) E) (count : ℕ) (from : At) (done : List X) (i : ℕ) (now : At) : Type 0 where
  pub goes_on : many_from item (count - i) done now ≡ many_from item count [] from

pub so_far_none : {X E : Type 0} (item : List X → At → Result (X × At) E) (count : ℕ) (from : At) → SoFar item count from [] 0 from
so_far_none item count from =
    let k : count - 0 ≡ count = omega arith in
    record { goes_on = ap (λ (n : ℕ). many_from item n [] from) k }

pub so_far_more : {X E : Type 0} (item : List X → At → Result (X × At) E) (count : ℕ) (from : At) (done : List X) (i : ℕ) (now : At) (x : X) (next : At)
    → i < count → item done now ≡ Ok (x, next) → SoFar item count from done i now → SoFar item count from (done ++ x ∷ []) (i + 1) next
unfolding many_from
so_far_more item count from done i now x next lt h so_far =
    let k : count - i ≡ suc (count - (i + 1)) = omega arith in
    let one : many_from item (count - i) done now ≡ many_from item (count - (i + 1)) (done ++ x ∷ []) next = rw (k, h) refl in
    record { goes_on = sym one ∙ so_far.goes_on }

pub so_far_all : {X E : Type 0} (item : List X → At → Result (X × At) E) (count : ℕ) (from : At) (done : List X) (i : ℕ) (now : At)
    → count ≤ i → SoFar item count from done i now → many_from item count [] from ≡ Ok (done, now)
unfolding many_from
so_far_all item count from done i now le so_far =
    let k : count - i ≡ 0 = omega arith in
    let one : many_from item (count - i) done now ≡ Ok (done, now) = rw k refl in
    sym so_far.goes_on ∙ one

pub so_far_fails : {X E : Type 0} (item : List X → At → Result (X × At) E) (count : ℕ) (from : At) (done : List X) (i : ℕ) (now : At) (memory e : E)
    → i < count → (e ≢ memory → item done now ≡ Err e) → SoFar item count from done i now → e ≢ memory → many_from item count [] from ≡ Err e
unfolding many_from
so_far_fails item count from done i now memory e lt h so_far other =
    let k : count - i ≡ suc (count - (i + 1)) = omega arith in
    let one : many_from item (count - i) done now ≡ Err e = rw (k, h other) refl in
    sym so_far.goes_on ∙ one

-- ---- the laws of items one behind the other

-- each item fits behind those before it
abbrev pub AllFrom : {X : Type 0} → (List X → X → Type 0) → List X → List X → Type 0
AllFrom Fits before [] = Unit {0}
AllFrom Fits before (x ∷ xs) = Fits before x × AllFrom Fits (before ++ x ∷ []) xs

-- the items that were read behind those before them
pub record TakesMany {X : Type 0} (text : X → List ℕ) (Fits : List X → X → Type 0) (n : ℕ) (before : List X) (at : At) (x : List X × At) : Type 0 where
  pub items : List X
  pub whole : x.0 ≡ before ++ items
  pub takes : Takes at (flat_map text items) x.1
  pub count : length items ≡ n
  pub fits : AllFrom Fits before items

pub many_take : {X E : Type 0} (item : List X → At → Result (X × At) E) (text : X → List ℕ) (Fits : List X → X → Type 0) → ((before : List X) → Reads (item before) text (Fits before))
    → (n : ℕ) (before : List X) (at : At) (x : List X × At) → IsBytes at.rest → many_from item n before at ≡ Ok x → TakesMany text Fits n before at x
unfolding many_from
many_take {X = X} item text Fits laws zero before at x fits e =
    subst (λ (y : List X × At). TakesMany text Fits 0 before at y) (ok_is (before, at) x _ refl e) (record { items = []; whole = sym (append-nil before); takes = takes_none at fits; count = refl; fits = tt })
many_take {X = X} item text Fits laws (suc n) before at x fits e =
    let a = bind_ok _ _ x e in
    let first = (laws before).takes at a.0 fits a.1 in
    let others = many_take item text Fits laws n (before ++ a.0.0 ∷ []) a.0.1 x first.0.rest_fits a.2 in
    record {
      items = a.0.0 ∷ others.items;
      whole = others.whole ∙ append_assoc before (a.0.0 ∷ []) others.items;
      takes = rw flat_map-cons (takes_then at a.0.1 x.1 (text a.0.0) (flat_map text others.items) first.0 others.takes);
      count = ap suc others.count;
      fits = (first.1, others.fits);
    }

pub many_again : {X E : Type 0} (item : List X → At → Result (X × At) E) (text : X → List ℕ) (Fits : List X → X → Type 0) → ((before : List X) → Reads (item before) text (Fits before))
    → (xs before : List X) (at : At) (rest : List ℕ) → AllFrom Fits before xs → at.rest ≡ flat_map text xs ++ rest → Again (many_from item (length xs) before at) (before ++ xs) rest
unfolding many_from
many_again item text Fits laws [] before at rest fits is =
    record { next = at; reads = rw (append-nil before) refl; left = is }
many_again {X = X} {E = E} item text Fits laws (x ∷ xs) before at rest fits is =
    let parted : at.rest ≡ text x ++ (flat_map text xs ++ rest) = is ∙ ap (λ (l : List ℕ). l ++ rest) (flat_map-cons text x xs) ∙ append_assoc (text x) (flat_map text xs) rest in
    let a = (laws before).again x at (flat_map text xs ++ rest) fits.0 parted in
    let b = many_again item text Fits laws xs (before ++ x ∷ []) a.next rest fits.1 a.left in
    let whole : (before ++ x ∷ []) ++ xs ≡ before ++ x ∷ xs = append_assoc before (x ∷ []) xs in
    record { next = b.next; reads = bind_is _ _ _ _ a.reads (b.reads ∙ ap (λ (l : List X). Ok (l, b.next)) whole); left = b.left }

-- where an item fits by itself
pub all_from : {X : Type 0} (Fits : X → Type 0) (before xs : List X) → AllByRecursion Fits xs → AllFrom (λ _. Fits) before xs
all_from Fits before [] fits = tt
all_from Fits before (x ∷ xs) fits = (fits.0, all_from Fits (before ++ x ∷ []) xs fits.1)

pub from_all : {X : Type 0} (Fits : X → Type 0) (before xs : List X) → AllFrom (λ _. Fits) before xs → AllByRecursion Fits xs
from_all Fits before [] fits = tt
from_all Fits before (x ∷ xs) fits = (fits.0, from_all Fits (before ++ x ∷ []) xs fits.1)

pub many_reads : {X E : Type 0} (item : At → Result (X × At) E) (text : X → List ℕ) (Fits : X → Type 0) → Reads item text Fits → (n : ℕ) → Reads (many_at item n) (flat_map text) (λ xs. (length xs ≡ n) × All Fits xs)
many_reads {X = X} item text Fits laws n = record {
  takes = λ at x fits e.
      let t = many_take (λ _. item) text (λ _. Fits) (λ _. laws) n [] at x fits e in
      subst (λ (l : List X). Takes at (flat_map text l) x.1 × ((length l ≡ n) × All Fits l)) (sym t.whole) (t.takes, (t.count, All-from_recursion Fits t.items (from_all Fits [] t.items t.fits)));
  again = λ xs at rest fits is.
      let a = many_again (λ _. item) text (λ _. Fits) (λ _. laws) xs [] at rest (all_from Fits [] xs (recursion_from_All Fits xs fits.1)) is in
      record { next = a.next; reads = ap (λ (k : ℕ). many_from (λ _. item) k [] at) (sym fits.0) ∙ a.reads; left = a.left };
}

pub counted_reads : {X E : Type 0} (tell : CutFault → E) (item : At → Result (X × At) E) (text : X → List ℕ) (Fits : X → Type 0) → Reads item text Fits → Reads (counted_at tell item) (counted text) (λ xs. All Fits xs × (length xs < 2 ^ 64))
unfolding counted_at
counted_reads {X = X} tell item text Fits laws = record {
  takes = λ at x fits e.
      let a = bind_ok _ _ x e in
      let n = count_reads.takes at a.0 fits (told_ok tell (compact_at at) a.0 a.1) in
      let m = (many_reads item text Fits laws a.0.0).takes a.0.1 x n.0.rest_fits a.2 in
      let both : Takes at (counted text x.0) x.1 = rw (m.1.0) (takes_then at a.0.1 x.1 (compact a.0.0) (flat_map text x.0) n.0 m.0) in
      (both, (m.1.1, omega (arith, m.1.0, n.1)));
  again = λ xs at rest fits is.
      let a = count_reads.again (length xs) at (flat_map text xs ++ rest) fits.1 (is ∙ append_assoc (compact (length xs)) (flat_map text xs) rest) in
      let b = (many_reads item text Fits laws (length xs)).again xs a.next rest (refl, fits.0) a.left in
      record { next = b.next; reads = bind_is _ _ _ _ (told_is tell (compact_at at) (length xs, a.next) a.reads) b.reads; left = b.left };
}

-- Maps that are read one after the other, as many as a count says.
use Rattle.std.proofs.Common.{◌≡◌, ℕ, zero, suc, List, [], ◌∷◌, ◌++◌, length, Result, Ok, refl, sym, ap, subst, ◌∙◌, append_assoc}
use Rattle.std.specs.List.{flat_map, AllZip}
use Rattle.std.proofs.lemmas.List.{append-nil}
use Rattle.std.proofs.lemmas.List.Concat.{flat_map-cons}
use Rattle.fund_base.specs.Cursor.{At, IsBytes}
use Rattle.fund_base.specs.Parsing.{many_from}
use Rattle.fund_base.proofs.Laws.{bind_ok, bind_is, ok_is, Takes, takes_then, takes_none, Again}
use Rattle.fund_base.proofs.Repeat.{AllFrom}
use Rattle.psbt_codec.specs.declared.fault.PsbtFault.{PsbtFault}
use Rattle.psbt_codec.specs.Psbt.{Pair, map_text}

-- a map that was read behind others, and what it tells
pub record OneTaken {X : Type 0} (Is : X → List Pair → Type 0) (Fits : List X → X → Type 0) (before : List X) (at : At) (x : X × At) : Type 0 where
  pub pairs : List Pair
  pub takes : Takes at (map_text pairs) x.1
  pub is : Is x.0 pairs
  pub fits : Fits before x.0

pub record ManyTaken {X : Type 0} (Is : X → List Pair → Type 0) (Fits : List X → X → Type 0) (n : ℕ) (before : List X) (at : At) (x : List X × At) : Type 0 where
  pub items : List X
  pub maps : List (List Pair)
  pub whole : x.0 ≡ before ++ items
  pub takes : Takes at (flat_map map_text maps) x.1
  pub count : length items ≡ n
  pub are : AllZip Is items maps
  pub fits : AllFrom Fits before items

pub many_take : {X : Type 0} (item : List X → At → Result (X × At) PsbtFault) (Is : X → List Pair → Type 0) (Fits : List X → X → Type 0)
    → ((before : List X) (at : At) (x : X × At) → IsBytes at.rest → item before at ≡ Ok x → OneTaken Is Fits before at x)
    → (n : ℕ) (before : List X) (at : At) (x : List X × At) → IsBytes at.rest → many_from item n before at ≡ Ok x → ManyTaken Is Fits n before at x
unfolding many_from
many_take {X = X} item Is Fits one zero before at x fits e =
    subst (λ (y : List X × At). ManyTaken Is Fits 0 before at y) (ok_is (before, at) x (Ok (before, at)) refl e) (record { items = []; maps = []; whole = sym (append-nil before); takes = takes_none at fits; count = refl; are = tt; fits = tt })
many_take item Is Fits one (suc n) before at x fits e =
    let a = bind_ok _ _ x e in
    let first = one before at a.0 fits a.1 in
    let others = many_take item Is Fits one n (before ++ a.0.0 ∷ []) a.0.1 x first.takes.rest_fits a.2 in
    record {
      items = a.0.0 ∷ others.items;
      maps = first.pairs ∷ others.maps;
      whole = others.whole ∙ append_assoc before (a.0.0 ∷ []) others.items;
      takes = rw flat_map-cons (takes_then at a.0.1 x.1 (map_text first.pairs) (flat_map map_text others.maps) first.takes others.takes);
      count = ap (λ (k : ℕ). suc k) others.count;
      are = (first.is, others.are);
      fits = (first.fits, others.fits);
    }

pub many_again : {X : Type 0} (item : List X → At → Result (X × At) PsbtFault) (Is : X → List Pair → Type 0) (Fits : List X → X → Type 0)
    → ((before : List X) (x : X) (pairs : List Pair) (at : At) (rest : List ℕ) → Is x pairs → Fits before x → at.rest ≡ map_text pairs ++ rest → Again (item before at) x rest)
    → (items : List X) (maps : List (List Pair)) (before : List X) (at : At) (rest : List ℕ) → AllZip Is items maps → AllFrom Fits before items → at.rest ≡ flat_map map_text maps ++ rest → Again (many_from item (length items) before at) (before ++ items) rest
unfolding many_from
many_again item Is Fits one [] [] before at rest are fits parts = record { next = at; reads = rw (append-nil before) refl; left = parts }
many_again item Is Fits one [] (m ∷ maps) before at rest are fits parts = absurd are
many_again item Is Fits one (x ∷ items) [] before at rest are fits parts = absurd are
many_again {X = X} item Is Fits one (x ∷ items) (m ∷ maps) before at rest are fits parts =
    let parted : at.rest ≡ map_text m ++ (flat_map map_text maps ++ rest) = parts ∙ ap (λ (l : List ℕ). l ++ rest) (flat_map-cons map_text m maps) ∙ append_assoc (map_text m) (flat_map map_text maps) rest in
    let a = one before x m at (flat_map map_text maps ++ rest) are.0 fits.0 parted in
    let b = many_again item Is Fits one items maps (before ++ x ∷ []) a.next rest are.1 fits.1 a.left in
    let whole : (before ++ x ∷ []) ++ items ≡ before ++ x ∷ items = append_assoc before (x ∷ []) items in
    record { next = b.next; reads = bind_is _ _ _ _ a.reads (b.reads ∙ ap (λ (l : List X). Ok (l, b.next)) whole); left = b.left }

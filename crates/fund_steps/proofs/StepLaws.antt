-- One value more of a list, as loops go over it.
use Rattle.std.proofs.Common.{◌≡◌, ◌∙◌, ℕ, suc, ◌+◌, ◌<◌, ◌≤◌, Bool, true, false, cond, List, [], ◌∷◌, length, take, drop, get_or, Option, Some, None, refl, sym, ap, add-one, drop-cons}
use Rattle.std.specs.Prelude.{◌||◌, find}
use Rattle.std.specs.List.{list_any}
use Rattle.std.proofs.Math.ListN.{drop_of_length-le}
use Rattle.std.proofs.lemmas.List.Folds.{list_any_more}

next_of : {X : Type 0} (xs : List X) (i : ℕ) (x : X) → i < length xs → x ≡ get_or xs i x → drop i xs ≡ x ∷ drop (i + 1) xs
next_of {X = X} xs i x lt is = rw add-one (drop-cons xs i x lt ∙ ap (λ (y : X). y ∷ drop (suc i) xs) (sym is))

-- ---- values in a set

or_cond : (a b : Bool) → cond b true a ≡ (a || b)
or_cond true true = refl
or_cond true false = refl
or_cond false true = refl
or_cond false false = refl

pub set_more : {X : Type 0} (p : X → Bool) (xs : List X) (i : ℕ) (x : X) (old new : Bool) → i < length xs → x ≡ get_or xs i x → new ≡ cond (p x) true old → old ≡ list_any p (take i xs) → new ≡ list_any p (take (i + 1) xs)
set_more p xs i x old new lt is put was =
    put
    ∙ ap (λ (b : Bool). cond (p x) true b) was
    ∙ or_cond (list_any p (take i xs)) (p x)
    ∙ ap (λ (b : Bool). list_any p (take i xs) || b) (ap p is)
    ∙ sym (list_any_more p xs i x lt)

-- ---- the first that passes a test

-- two tests that agree find the same
pub find_same : {X : Type 0} (p q : X → Bool) (xs : List X) → ((x : X) → p x ≡ q x) → find p xs ≡ find q xs
find_same p q [] same = refl
find_same {X = X} p q (x ∷ xs) same = ap (λ (b : Bool). cond b (Some x) (find p xs)) (same x) ∙ ap (λ (o : Option X). cond (q x) (Some x) o) (find_same p q xs same)

pub find_on : {X : Type 0} (p : X → Bool) (xs : List X) (i : ℕ) (x : X) (total : Option X) → i < length xs → x ≡ get_or xs i x → p x ≡ false → find p (drop i xs) ≡ total → find p (drop (i + 1) xs) ≡ total
find_on {X = X} p xs i x total lt is fails so_far =
    ap (λ (b : Bool). cond b (Some x) (find p (drop (i + 1) xs))) (sym fails) ∙ ap (find p) (sym (next_of xs i x lt is)) ∙ so_far

pub find_here : {X : Type 0} (p : X → Bool) (xs : List X) (i : ℕ) (x : X) (total : Option X) → i < length xs → x ≡ get_or xs i x → p x ≡ true → find p (drop i xs) ≡ total → Some x ≡ total
find_here {X = X} p xs i x total lt is passes so_far =
    ap (λ (b : Bool). cond b (Some x) (find p (drop (i + 1) xs))) (sym passes) ∙ ap (find p) (sym (next_of xs i x lt is)) ∙ so_far

pub find_end : {X : Type 0} (p : X → Bool) (xs : List X) (i : ℕ) (total : Option X) → length xs ≤ i → find p (drop i xs) ≡ total → None ≡ total
find_end {X = X} p xs i total le so_far = ap (find p) (sym (drop_of_length-le xs le)) ∙ so_far

-- Facts about lists.
use Rattle.std.proofs.Common.{◌≡◌, ◌≢◌, ◌∙◌, ◌⊎◌, inl, inr, ℕ, suc, ◌<◌, ◌++◌, Bool, true, false, cond, List, [], ◌∷◌, map, get_or, Some, refl, sym, ap, arith, Contains, All, AllPairs}
use Rattle.std.specs.Prelude.{find}
use Rattle.std.specs.List.{list_any}
use Rattle.std.proofs.lemmas.Bool.{cases_order}
use Rattle.std.proofs.lemmas.List.{get_or-map, get_or_default, length-map}
use Rattle.std.proofs.lemmas.List.Elements.{All-append, All-contains_itself, All-weaker}
use Rattle.std.proofs.lemmas.List.Folds.{list_any-from_Any}
use Rattle.std.proofs.lemmas.List.Kept.{AllPairs-cons}
use Rattle.std.proofs.lemmas.Option.{same_Some}
use Rattle.fund_base.proofs.Lists.{cons_cases, in_tail}

-- a test of which one is true finds some
pub some_passes : {X : Type 0} (p : X → Bool) (xs : List X) (x : X) → Contains xs x → p x ≡ true → list_any p xs ≡ true
some_passes p xs x c h = list_any-from_Any p xs (c.0, x, c.1, c.2, h)

-- what is found passes the test, and is there
pub found_in : {X : Type 0} (p : X → Bool) (xs : List X) (x : X) → find p xs ≡ Some x → (p x ≡ true) × Contains xs x
found_in p [] x e = absurd cc
found_in {X = X} p (y ∷ xs) x e = by (p y) refl e (λ f. found_in p xs x f)
  where
    by : (b : Bool) → p y ≡ b → cond b (Some y) (find p xs) ≡ Some x → (find p xs ≡ Some x → (p x ≡ true) × Contains xs x) → (p x ≡ true) × Contains (y ∷ xs) x
    by true is same rest = let e = same_Some y x same in (ap p (sym e) ∙ is, (0, omega arith, e))
    by false is same rest = let r = rest same in (r.0, in_tail y xs x r.1)

-- of elements with different keys there is one of each
pub one_of_key : {X Y : Type 0} (key : X → Y) (xs : List X) (a b : X) → AllPairs (λ (x y : X). key x ≢ key y) xs → Contains xs a → Contains xs b → key a ≡ key b → a ≡ b
one_of_key key xs a b apart in_a in_b same = by (cases_order in_a.0 in_b.0)
  where
    at : (c : Contains xs b) → get_or xs c.0 a ≡ b
    at c = get_or_default xs c.0 a b c.1 ∙ c.2

    by : (in_a.0 ≡ in_b.0) ⊎ ((in_a.0 < in_b.0) ⊎ (in_b.0 < in_a.0)) → a ≡ b
    by (inl e) = sym in_a.2 ∙ ap (λ (k : ℕ). get_or xs k a) e ∙ at in_b
    by (inr (inl lt)) = absurd (apart in_a.0 in_b.0 a lt in_b.1 (ap key in_a.2 ∙ same ∙ sym (ap key (at in_b))))
    by (inr (inr lt)) = absurd (apart in_b.0 in_a.0 a lt in_a.1 (ap key (at in_b) ∙ sym same ∙ sym (ap key in_a.2)))

-- ---- mapped lists

pub map_has : {X Y : Type 0} (f : X → Y) (xs : List X) (x : X) → Contains xs x → Contains (map f xs) (f x)
map_has f xs x there =
    let n = length-map xs f in
    let lt = there.1 in
    (there.0, omega arith, get_or-map f xs there.0 x (f x) lt ∙ ap f there.2)

pub map_from : {X Y : Type 0} (f : X → Y) (xs : List X) (y : Y) → Contains (map f xs) y → (x : X) × Contains xs x × (f x ≡ y)
map_from f [] y c = let lt = c.1 in absurd (omega arith)
map_from {X = X} {Y = Y} f (x ∷ xs) y c = by (cons_cases (f x) (map f xs) y c) (λ h. map_from f xs y h)
  where
    by : (f x ≡ y) ⊎ Contains (map f xs) y → (Contains (map f xs) y → (z : X) × Contains xs z × (f z ≡ y)) → (z : X) × Contains (x ∷ xs) z × (f z ≡ y)
    by (inl e) rest = (x, (0, omega arith, refl), e)
    by (inr h) rest = let r = rest h in (r.0, in_tail x xs r.0 r.1, r.2)

-- ---- lists of different elements

pub apart_head : {X : Type 0} (R : X → X → Type 0) (x : X) (xs : List X) → AllPairs R (x ∷ xs) → All (R x) xs
apart_head R x xs h k d below = h 0 (suc k) d (omega arith) (omega (arith, below))

pub apart_tail : {X : Type 0} (R : X → X → Type 0) (x : X) (xs : List X) → AllPairs R (x ∷ xs) → AllPairs R xs
apart_tail R x xs h i j d up below = h (suc i) (suc j) d (omega arith) (omega (arith, below))

pub apart_both : {X : Type 0} (R : X → X → Type 0) (xs ys : List X) → AllPairs R xs → AllPairs R ys → ((a b : X) → Contains xs a → Contains ys b → R a b) → AllPairs R (xs ++ ys)
apart_both R [] ys hx hy cross = hy
apart_both R (x ∷ xs) ys hx hy cross =
    let here : All (R x) (xs ++ ys) =
    All-append (R x) xs ys (apart_head R x xs hx) (All-weaker (Contains ys) (R x) (λ b there. cross x b (0, omega arith, refl) there) ys (All-contains_itself ys)) in
    AllPairs-cons R x (xs ++ ys) here (apart_both R xs ys (apart_tail R x xs hx) hy (λ a b first second. cross a b (in_tail x xs a first) second))

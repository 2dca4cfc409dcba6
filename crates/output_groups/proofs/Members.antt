-- Elements of lists, filters and maps.
use Rattle.std.specs.Prelude.{◌≡◌, ◌<◌, Bool, true, false, List, [], ◌∷◌, map, filter, All, Contains, get_or}
use Rattle.std.proofs.Common.{subst, cond, ap, ◌∙◌, arith, inl, inr}
use Rattle.std.proofs.lemmas.List.Elements.{All-contains, All-contains_itself, All-filter, Contains-append_left, Contains-get_or, Contains-push, filter_passes}
use Rattle.fund_base.proofs.Lists.{in_tail, cons_cases}

pub head_in : {X : Type 0} (x : X) (xs : List X) → Contains (x ∷ xs) x
head_in x xs = Contains-append_left (x ∷ []) xs x (Contains-push [] x)

pub none_in : {X : Type 0} (x : X) → Contains [] x → ⊥
none_in x h = let low : h.0 < 0 = h.1 in omega arith

-- what holds of each element, by membership
pub all_from : {X : Type 0} (P : X → Type 0) (xs : List X) → ((x : X) → Contains xs x → P x) → All P xs
all_from P xs each k d below = each (get_or xs k d) (Contains-get_or xs k d below)

pub from_filter : {X : Type 0} (p : X → Bool) (xs : List X) (x : X) → Contains (filter p xs) x → Contains xs x × (p x ≡ true)
from_filter {X} p xs x h =
    let In : X → Type 0 = λ y. Contains xs y in
    let Passes : X → Type 0 = λ y. p y ≡ true in
    (All-contains In (filter p xs) x (All-filter p In xs (All-contains_itself xs)) h, All-contains Passes (filter p xs) x (filter_passes p xs) h)

kept_tail : {X : Type 0} (b : Bool) (y : X) (ys : List X) (x : X) → Contains ys x → Contains (cond b (y ∷ ys) ys) x
kept_tail true y ys x h = in_tail y ys x h
kept_tail false y ys x h = h

pub in_filter : {X : Type 0} (p : X → Bool) (xs : List X) (x : X) → Contains xs x → p x ≡ true → Contains (filter p xs) x
in_filter p [] x h passes = h
in_filter {X} p (y ∷ ys) x h passes =
    elim (cons_cases y ys x h) [
      | inl e ↦ let here : p y ≡ true = ap p e ∙ passes in rw here (subst (λ (z : X). Contains (y ∷ filter p ys) z) e (head_in y (filter p ys)))
      | inr r ↦ kept_tail (p y) y (filter p ys) x (in_filter p ys x r passes)
    ]

-- what a map has at a place comes from the list's place
pub from_map : {X Y : Type 0} (f : X → Y) (xs : List X) (y : Y) → Contains (map f xs) y → (x : X) × Contains xs x × (f x ≡ y)
from_map f [] y h = absurd (none_in y h)
from_map f (x ∷ xs) y h =
    elim (cons_cases (f x) (map f xs) y h) [
      | inl e ↦ (x, head_in x xs, e)
      | inr r ↦ let deep = from_map f xs y r in (deep.0, in_tail x xs deep.0 deep.1, deep.2)
    ]

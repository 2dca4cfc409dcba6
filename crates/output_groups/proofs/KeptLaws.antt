-- What is gathered of those elements of a list that pass a test.
use Rattle.std.specs.Prelude.{ℕ, ◌≡◌, ◌+◌, ◌<◌, Bool, true, false, List, [], ◌∷◌, ◌++◌, filter, get_or, length, map, take}
use Rattle.std.proofs.Common.{◌∙◌, ap, cond, refl}
use Rattle.std.proofs.lemmas.List.{map-append}
use Rattle.std.proofs.lemmas.List.Elements.{filter_more}

-- with one element more
pub kept_more : {X Y : Type 0} (f : X → Y) (p : X → Bool) (xs : List X) (i : ℕ) (d : X) → i < length xs
    → map f (filter p (take (i + 1) xs)) ≡ map f (filter p (take i xs)) ++ cond (p (get_or xs i d)) (f (get_or xs i d) ∷ []) []
kept_more {X = X} {Y = Y} f p xs i d lt =
    ap (map f) (filter_more p xs i d lt)
    ∙ map-append f (filter p (take i xs)) (cond (p (get_or xs i d)) (get_or xs i d ∷ []) [])
    ∙ ap (λ (ys : List Y). map f (filter p (take i xs)) ++ ys) (by (p (get_or xs i d)))
  where
    by : (b : Bool) → map f (cond b (get_or xs i d ∷ []) []) ≡ cond b (f (get_or xs i d) ∷ []) []
    by true = refl
    by false = refl

-- A list from a place on, and its first element.
use Rattle.std.specs.Prelude.{ℕ, suc, ◌≡◌, ◌+◌, ◌-◌, ◌<◌, ◌≤◌, List, [], ◌∷◌, length, take, drop}
use Rattle.std.proofs.Common.{sym, ap, ◌∙◌, arith, add-one, drop-cons, get_or}
use Rattle.std.proofs.lemmas.List.{length-drop, take_all}

-- from a place on there is what stands there, and what comes behind it
pub drop_step : {X : Type 0} (xs : List X) (i : ℕ) (x : X) → i < length xs → x ≡ get_or xs i x → drop i xs ≡ x ∷ drop (i + 1) xs
drop_step {X = X} xs i x h e =
    drop-cons xs i x h ∙ (ap (λ (y : X). y ∷ drop (suc i) xs) (sym e) ∙ ap (λ (n : ℕ). x ∷ drop n xs) (sym (add-one i)))

-- a list is its first element and the rest
pub opened : {X : Type 0} (xs : List X) (x : X) → 1 ≤ length xs → x ≡ get_or xs 0 x → xs ≡ x ∷ take (length xs - 1) (drop 1 xs)
opened [] x h e = absurd (omega (arith, h))
opened {X = X} (y ∷ ys) x h e =
    ap (λ (z : X). z ∷ ys) (sym e) ∙ ap (λ (zs : List X). x ∷ zs) (sym (take_all (length (y ∷ ys) - 1) ys (omega arith)))

-- what stands from a place on is as long as what is left
pub rest_is : {X : Type 0} (xs : List X) (i : ℕ) → take (length xs - i) (drop i xs) ≡ drop i xs
rest_is xs i = take_all (length xs - i) (drop i xs) (omega (arith, length-drop i xs))

-- One piece more of a list that is made of pieces.
use Rattle.std.proofs.Common.{◌≡◌, ℕ, ◌+◌, ◌<◌, List, [], ◌∷◌, ◌++◌, length, get_or, take, ap, sym, ◌∙◌}
use Rattle.std.proofs.lemmas.List.{flat_map_more, take_more}
use Rattle.std.specs.List.{flat_map}

pub one_piece_more : {X A : Type 0} (f : X → List A) (xs : List X) (i : ℕ) (x : X) (so_far after : List A) → i < length xs → x ≡ get_or xs i x → so_far ≡ flat_map f (take i xs) → after ≡ so_far ++ f x → after ≡ flat_map f (take (i + 1) xs)
one_piece_more {X} {A} f xs i x so_far after lt is before made =
    let all : after ≡ flat_map f (take i xs) ++ f x = made ∙ ap (λ (l : List A). l ++ f x) before in
    let taken : take (i + 1) xs ≡ take i xs ++ x ∷ [] = take_more xs i x lt ∙ ap (λ (y : X). take i xs ++ y ∷ []) (sym is) in
    all ∙ flat_map_more f [] (take i xs) x ∙ ap (λ (l : List X). flat_map f l) (sym taken)

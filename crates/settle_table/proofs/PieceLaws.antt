-- One line more of a text that is made of lines.
use Rattle.std.proofs.Common.{◌≡◌, ℕ, ◌+◌, ◌<◌, List, [], ◌∷◌, ◌++◌, length, get_or, take, ap, sym, ◌∙◌}
use Rattle.std.proofs.lemmas.List.{flat_map_more, take_more}
use Rattle.std.specs.List.{flat_map}

pub one_piece_more : {X : Type 0} (f : X → List ℕ) (xs : List X) (i : ℕ) (x : X) (front so_far said after : List ℕ) → i < length xs → x ≡ get_or xs i x → so_far ≡ front ++ flat_map f (take i xs) → after ≡ so_far ++ said → said ≡ f x → after ≡ front ++ flat_map f (take (i + 1) xs)
one_piece_more {X} f xs i x front so_far said after lt is before made says =
    let all : after ≡ (front ++ flat_map f (take i xs)) ++ f x = made ∙ ap (λ (l : List ℕ). l ++ said) before ∙ ap (λ (l : List ℕ). (front ++ flat_map f (take i xs)) ++ l) says in
    let taken : take (i + 1) xs ≡ take i xs ++ x ∷ [] = take_more xs i x lt ∙ ap (λ (y : X). take i xs ++ y ∷ []) (sym is) in
    all ∙ flat_map_more f front (take i xs) x ∙ ap (λ (l : List X). front ++ flat_map f l) (sym taken)

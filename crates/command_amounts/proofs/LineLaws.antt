-- Lines put after lines.
use Rattle.std.proofs.Common.{◌≡◌, ◌∙◌, ◌+◌, ◌<◌, ℕ, List, [], ◌∷◌, ◌++◌, length, get_or, map, take, refl, sym, ap, append_assoc}
use Rattle.std.proofs.lemmas.List.{map-append, take_more}
use Rattle.command_end.specs.LinesText.{lines_text}

pub lines_append : (xs ys : List (List ℕ)) → lines_text (xs ++ ys) ≡ lines_text xs ++ lines_text ys
lines_append [] ys = refl
lines_append (line ∷ xs) ys =
    ap (λ (l : List ℕ). line ++ (10 ∷ l)) (lines_append xs ys)
    ∙ sym (append_assoc line (10 ∷ lines_text xs) (lines_text ys))

-- the line of one element more
pub lines_more : {X : Type 0} (line : X → List ℕ) (xs : List X) (i : ℕ) (x : X) (old text : List ℕ) → i < length xs → x ≡ get_or xs i x → text ≡ old ++ lines_text (map line (take i xs)) → text ++ (line x ++ 10 ∷ []) ≡ old ++ lines_text (map line (take (i + 1) xs))
lines_more {X} line xs i x old text lt is so_far =
    ap (λ (l : List ℕ). l ++ (line x ++ 10 ∷ [])) so_far
    ∙ append_assoc old (lines_text (map line (take i xs))) (line x ++ 10 ∷ [])
    ∙ ap (λ (l : List ℕ). old ++ l) (sym (lines_append (map line (take i xs)) (line x ∷ [])))
    ∙ ap (λ (l : List (List ℕ)). old ++ lines_text l) (sym (map-append line (take i xs) (x ∷ [])))
    ∙ ap (λ (l : List X). old ++ lines_text (map line l)) (sym (take_more xs i x lt ∙ ap (λ (d : X). take i xs ++ d ∷ []) (sym is)))

-- a line, and lines after it put one after another
pub lines_from : (line : List ℕ) (xs ys : List (List ℕ)) → ((line ++ 10 ∷ []) ++ lines_text xs) ++ lines_text ys ≡ lines_text (line ∷ (xs ++ ys))
lines_from line xs ys =
    ap (λ (l : List ℕ). l ++ lines_text ys) (append_assoc line (10 ∷ []) (lines_text xs))
    ∙ append_assoc line (10 ∷ lines_text xs) (lines_text ys)
    ∙ ap (λ (l : List ℕ). line ++ (10 ∷ l)) (sym (lines_append xs ys))

-- Words that are added one after the other.
use Rattle.std.proofs.Common.{◌≡◌, ◌∙◌, ℕ, List, [], ◌∷◌, ◌++◌, ap, append_assoc}

pub three_parts : (old a b whole rest : List (List ℕ)) (first second : List ℕ) → a ≡ old ++ first ∷ [] → b ≡ a ++ second ∷ [] → whole ≡ b ++ rest → whole ≡ old ++ (first ∷ second ∷ rest)
three_parts old a b whole rest first second one two three =
    three ∙ ap (λ t. t ++ rest) (two ∙ ap (λ t. t ++ second ∷ []) one) ∙ append_assoc (old ++ first ∷ []) (second ∷ []) rest ∙ append_assoc old (first ∷ []) (second ∷ rest)

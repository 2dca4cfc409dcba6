-- A map that has every due pair gets none.
use Rattle.std.proofs.Common.{◌≡◌, ◌∙◌, ◌⊎◌, List, [], ◌∷◌, All, refl, sym, ap, subst, inl, inr}
use Rattle.std.specs.Prelude.{AllPairs, Contains}
use Rattle.std.proofs.lemmas.List.Elements.{All-contains}
use Rattle.psbt_codec.specs.Psbt.{HaveOtherKeys, Pair}
use Rattle.psbt_keys.specs.Extended.{IsExtended, IsSubsequence}
use Rattle.psbt_keys.proofs.PlaceLaws.{first_or, has_first, has_later, has_none, pairs_head, pairs_tail}

part_has : {X : Type 0} → (part xs : List X) (q : X) → IsSubsequence part xs → Contains part q → Contains xs q
part_has {X} part [] q h c = absurd (has_none q (subst (λ (l : List X). Contains l q) h c))
part_has {X} part (x ∷ xs) q (inl h) c = has_later x xs q (part_has part xs q h c)
part_has {X} part (x ∷ xs) q (inr h) c =
    elim (first_or x h.0 q (subst (λ (l : List X). Contains l q) h.1 c)) [
      | inl there ↦ has_later x xs q (part_has h.0 xs q h.2 there)
      | inr same ↦ subst (λ (y : X). Contains (x ∷ xs) y) same (has_first x xs)
    ]

-- what is in the list behind its first pair isn't that pair
not_first : (x : Pair) (xs rest : List Pair) (q : Pair) → AllPairs HaveOtherKeys (x ∷ xs) → Contains xs q → Contains rest q ⊎ (x ≡ q) → Contains rest q
not_first x xs rest q alone c (inl there) = there
not_first x xs rest q alone c (inr same) = absurd (All-contains (HaveOtherKeys x) xs q (pairs_head HaveOtherKeys x xs alone) c (ap (λ (p : Pair). p.key) same))

pub nothing_new : (old new : List Pair) → IsSubsequence old new → ((q : Pair) → Contains new q → Contains old q) → AllPairs HaveOtherKeys new → new ≡ old
nothing_new old [] h each alone = sym h
nothing_new old (x ∷ xs) (inl h) each alone = absurd (All-contains (HaveOtherKeys x) xs x (pairs_head HaveOtherKeys x xs alone) (part_has old xs x h (each x (has_first x xs))) refl)
nothing_new old (x ∷ xs) (inr h) each alone =
    ap (λ (l : List Pair). x ∷ l)
    (nothing_new h.0 xs h.2
    (λ q c. not_first x xs h.0 q alone c (first_or x h.0 q (subst (λ (l : List Pair). Contains l q) h.1 (each q (has_later x xs q c)))))
    (pairs_tail HaveOtherKeys x xs alone))
    ∙ sym h.1

pub adds_nothing : (due old new : List Pair) → All (Contains old) due → IsExtended due old new → new ≡ old
adds_nothing due old new have g = nothing_new old new g.kept (λ q n. elim ((g.each q).0 n) [ inl a ↦ a | inr b ↦ All-contains (Contains old) due q have b ]) g.alone

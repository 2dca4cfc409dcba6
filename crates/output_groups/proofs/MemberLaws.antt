-- Coins of groups, gathered one after another.
use Rattle.std.specs.Prelude.{ℕ, ◌≡◌, ◌+◌, ◌<◌, List, [], ◌∷◌, ◌++◌, get_or, length, map, slice_index_or, take}
use Rattle.std.proofs.Common.{sym, ap, ◌∙◌, append_assoc}
use Rattle.std.proofs.lemmas.List.{append-nil, get_or-map, take_more}
use Rattle.coin_candidates.specs.declared.candidate.Candidate.{Candidate}
use Rattle.output_groups.specs.Formed.{coins_at}
use Rattle.output_groups.specs.Places.{members}
use Rattle.output_groups.specs.declared.formed.Formed.{Formed}

members_push : (groups : List (List Candidate)) (places : List ℕ) (j : ℕ) → members groups (places ++ j ∷ []) ≡ members groups places ++ slice_index_or groups j []
members_push groups [] j = append-nil (slice_index_or groups j [])
members_push groups (k ∷ places) j =
    ap (λ (cs : List Candidate). slice_index_or groups k [] ++ cs) (members_push groups places j) ∙ sym (append_assoc (slice_index_or groups k []) (members groups places) (slice_index_or groups j []))

-- the coins of one place more
members_more : (groups : List (List Candidate)) (places : List ℕ) (i : ℕ) → i < length places → members groups (take (i + 1) places) ≡ members groups (take i places) ++ slice_index_or groups (get_or places i 0) []
members_more groups places i below = ap (members groups) (take_more places i 0 below) ∙ members_push groups (take i places) (get_or places i 0)

-- the same of groups that stand in a list of coins
pub members_step : (coins : List Candidate) (kept : List Formed) (places : List ℕ) (i : ℕ) (f : Formed) (old new : List Candidate) → i < length places → get_or places i 0 < length kept → f ≡ get_or kept (get_or places i 0) f
    → new ≡ old ++ coins_at coins f → old ≡ members (map (coins_at coins) kept) (take i places) → new ≡ members (map (coins_at coins) kept) (take (i + 1) places)
members_step coins kept places i f old new below there is put was =
    let j = get_or places i 0 in
    let groups = map (coins_at coins) kept in
    put
    ∙ ap (λ (cs : List Candidate). cs ++ coins_at coins f) was
    ∙ ap (λ (cs : List Candidate). members groups (take i places) ++ cs) (ap (coins_at coins) is ∙ sym (get_or-map (coins_at coins) kept j f [] there))
    ∙ sym (members_more groups places i below)

-- The root and the mutation that are worked out are those of the levels.
use Rattle.std.proofs.Common.{◌≡◌, ℕ, zero, suc, ◌+◌, ◌*◌, ◌≤◌, ◌<◌, true, false, ltb, List, [], ◌∷◌, length, get_or, refl, sym, ap, subst, ◌∙◌, arith, inl, inr, add-one}
use Rattle.std.specs.Prelude.{◌||◌, bytes_eq}
use Rattle.std.proofs.lemmas.Bool.{cases_Bool, lt-ltb, le-ltb, ltb-true, ltb-false, or_cases, both_ways, or_right, or_left}
use Rattle.std.proofs.lemmas.Slice.Eq.{bytes_eq-Decides}
use Rattle.block_feed.specs.Merkle.{level_above, level, has_twins, root_within, merkle_root, mutated_within, is_mutated, IsRoot, IsMutated}
use Rattle.block_feed.proofs.Trees.{shorter}

some_above : (hashes : List (List ℕ)) → 0 < length hashes → 0 < length (level_above hashes)
some_above [] some = some
some_above (last ∷ []) some = omega arith
some_above (left ∷ right ∷ hashes) some = omega arith

-- what holds of the hashes and of each level above them that is not the top
below_more : (P : List (List ℕ) → Type 0) (steps : ℕ) (hashes : List (List ℕ)) → P hashes → ((lower : ℕ) → lower < steps → P (level lower (level_above hashes))) → (lower : ℕ) → lower < suc steps → P (level lower hashes)
below_more P steps hashes here above zero lt = here
below_more P steps hashes here above (suc lower) lt = above lower (omega arith)

-- ---- the root

root_of_one : (n : ℕ) (root : List ℕ) → root_within n (root ∷ []) ≡ root
unfolding root_within
root_of_one zero root = refl
root_of_one (suc n) root = refl

root_above : (n : ℕ) (hashes : List (List ℕ)) → 1 < length hashes → root_within (suc n) hashes ≡ root_within n (level_above hashes)
unfolding root_within
root_above n hashes more = let test : ltb 1 (length hashes) ≡ true = lt-ltb 1 (length hashes) more in rw test refl

one_root : (n : ℕ) (hashes : List (List ℕ)) → 0 < length hashes → length hashes ≤ 1 → IsRoot hashes (root_within n hashes)
one_root n [] some few = absurd (omega arith)
one_root n (last ∷ []) some few = record { steps = 0; top = ap (λ (r : List ℕ). r ∷ []) (sym (root_of_one n last)); below = λ lower lt. absurd (omega arith) }
one_root n (left ∷ right ∷ hashes) some few = absurd (omega arith)

root_lower : (hashes : List (List ℕ)) (root : List ℕ) → 1 < length hashes → IsRoot (level_above hashes) root → IsRoot hashes root
root_lower hashes root more is = record { steps = suc is.steps; top = is.top; below = below_more (λ l. 1 < length l) is.steps hashes more is.below }

within_root : (n : ℕ) (hashes : List (List ℕ)) → 0 < length hashes → length hashes ≤ suc n → IsRoot hashes (root_within n hashes)
within_root zero hashes some few = one_root zero hashes some few
within_root (suc n) hashes some few =
    elim (cases_Bool (ltb 1 (length hashes))) [
      | inl test ↦
          let more = ltb-true 1 (length hashes) test in
          let l = shorter hashes more in
          subst (λ (r : List ℕ). IsRoot hashes r) (sym (root_above n hashes more)) (root_lower hashes (root_within n (level_above hashes)) more (within_root n (level_above hashes) (some_above hashes some) (omega arith)))
      | inr test ↦ one_root (suc n) hashes some (ltb-false 1 (length hashes) test)
    ]

-- the root that is worked out is the root
pub merkle_root_is : (hashes : List (List ℕ)) → 0 < length hashes → IsRoot hashes (merkle_root hashes)
merkle_root_is hashes some = within_root (length hashes) hashes some (omega arith)

root_unique : (n steps : ℕ) (hashes : List (List ℕ)) (root : List ℕ) → length hashes ≤ suc n → level steps hashes ≡ root ∷ [] → ((lower : ℕ) → lower < steps → 1 < length (level lower hashes)) → root_within n hashes ≡ root
root_unique n zero hashes root few top below = ap (λ (l : List (List ℕ)). root_within n l) top ∙ root_of_one n root
root_unique zero (suc steps) hashes root few top below = absurd (let h = below 0 (omega arith) in omega arith)
root_unique (suc n) (suc steps) hashes root few top below =
    let more = below 0 (omega arith) in
    let l = shorter hashes more in
    root_above n hashes more ∙ root_unique n steps (level_above hashes) root (omega arith) top (λ lower lt. below (suc lower) (omega arith))

-- and there is no other
pub root_is : (hashes : List (List ℕ)) (root : List ℕ) → IsRoot hashes root → merkle_root hashes ≡ root
root_is hashes root is = root_unique (length hashes) is.steps hashes root (omega arith) is.top is.below

-- ---- mutated levels

-- equal hashes at an even place of a level and the next
record Twins (hashes : List (List ℕ)) : Type 0 where
  place : ℕ
  there : 2 * place + 1 < length hashes
  equal : get_or hashes (2 * place) [] ≡ get_or hashes (2 * place + 1) []

twice : (n : ℕ) → 2 * suc n ≡ suc (suc (2 * n))
twice n = omega arith

twins_behind : (left right : List ℕ) (hashes : List (List ℕ)) → Twins hashes → Twins (left ∷ right ∷ hashes)
twins_behind left right hashes t = record {
  place = suc t.place;
  there = let h = t.there in omega arith;
  equal = rw (twice t.place, add-one) (rw add-one at t.equal);
}

twins_found : (hashes : List (List ℕ)) → has_twins hashes ≡ true → Twins hashes
twins_found [] e = absurd cc
twins_found (last ∷ []) e = absurd cc
twins_found (left ∷ right ∷ hashes) e =
    elim (or_cases (bytes_eq left right) (has_twins hashes) e) [
      | inl same ↦ record { place = 0; there = omega arith; equal = (bytes_eq-Decides left right).0 same }
      | inr later ↦ twins_behind left right hashes (twins_found hashes later)
    ]

twins_seen : (hashes : List (List ℕ)) (place : ℕ) → 2 * place + 1 < length hashes → get_or hashes (2 * place) [] ≡ get_or hashes (2 * place + 1) [] → has_twins hashes ≡ true
twins_seen [] place there equal = absurd (omega arith)
twins_seen (last ∷ []) place there equal = absurd (omega arith)
twins_seen (left ∷ right ∷ hashes) zero there equal = or_left (bytes_eq left right) (has_twins hashes) ((bytes_eq-Decides left right).1 equal)
twins_seen (left ∷ right ∷ hashes) (suc place) there equal =
    let later : get_or hashes (2 * place) [] ≡ get_or hashes (2 * place + 1) [] = rw add-one (rw (twice place, add-one) at equal) in
    or_right (bytes_eq left right) (has_twins hashes) (twins_seen hashes place (omega arith) later)

mutated_above : (n : ℕ) (hashes : List (List ℕ)) → 1 < length hashes → mutated_within (suc n) hashes ≡ (has_twins hashes || mutated_within n (level_above hashes))
unfolding mutated_within
mutated_above n hashes more = let test : ltb 1 (length hashes) ≡ true = lt-ltb 1 (length hashes) more in rw test refl

mutated_top : (n : ℕ) (hashes : List (List ℕ)) → length hashes ≤ 1 → mutated_within n hashes ≡ false
unfolding mutated_within
mutated_top zero hashes few = refl
mutated_top (suc n) hashes few = let test : ltb 1 (length hashes) ≡ false = le-ltb 1 (length hashes) few in rw test refl

mutated_none : (hashes : List (List ℕ)) → mutated_within 0 hashes ≡ false
unfolding mutated_within
mutated_none hashes = refl

mutated_here : (hashes : List (List ℕ)) → Twins hashes → IsMutated hashes
mutated_here hashes t = record { steps = 0; place = t.place; below = λ lower lt. absurd (omega arith); there = t.there; equal = t.equal }

mutated_lower : (hashes : List (List ℕ)) → 1 < length hashes → IsMutated (level_above hashes) → IsMutated hashes
mutated_lower hashes more is = record { steps = suc is.steps; place = is.place; below = below_more (λ l. 1 < length l) is.steps hashes more is.below; there = is.there; equal = is.equal }

within_mutated : (n : ℕ) (hashes : List (List ℕ)) → mutated_within n hashes ≡ true → IsMutated hashes
within_mutated zero hashes e = absurd (both_ways (mutated_within 0 hashes) (mutated_none hashes) e)
within_mutated (suc n) hashes e =
    elim (cases_Bool (ltb 1 (length hashes))) [
      | inl test ↦
          let more = ltb-true 1 (length hashes) test in
          elim (or_cases (has_twins hashes) (mutated_within n (level_above hashes)) (sym (mutated_above n hashes more) ∙ e)) [
            | inl here ↦ mutated_here hashes (twins_found hashes here)
            | inr above ↦ mutated_lower hashes more (within_mutated n (level_above hashes) above)
          ]
      | inr test ↦ absurd (both_ways (mutated_within (suc n) hashes) (mutated_top (suc n) hashes (ltb-false 1 (length hashes) test)) e)
    ]

mutated_seen : (n steps place : ℕ) (hashes : List (List ℕ)) → length hashes ≤ suc n → ((lower : ℕ) → lower < steps → 1 < length (level lower hashes)) → 2 * place + 1 < length (level steps hashes) → get_or (level steps hashes) (2 * place) [] ≡ get_or (level steps hashes) (2 * place + 1) []
    → mutated_within n hashes ≡ true
mutated_seen zero zero place hashes few below there equal = absurd (omega arith)
mutated_seen zero (suc steps) place hashes few below there equal = absurd (let h = below 0 (omega arith) in omega arith)
mutated_seen (suc n) zero place hashes few below there equal =
    mutated_above n hashes (omega arith) ∙ or_left (has_twins hashes) (mutated_within n (level_above hashes)) (twins_seen hashes place there equal)
mutated_seen (suc n) (suc steps) place hashes few below there equal =
    let more = below 0 (omega arith) in
    let l = shorter hashes more in
    mutated_above n hashes more ∙ or_right (has_twins hashes) (mutated_within n (level_above hashes)) (mutated_seen n steps place (level_above hashes) (omega arith) (λ lower lt. below (suc lower) (omega arith)) there equal)

-- what is found mutated is
pub mutated_is : (hashes : List (List ℕ)) → is_mutated hashes ≡ true → IsMutated hashes
mutated_is hashes e = within_mutated (length hashes) hashes e

-- and what is mutated is found
pub is_found : (hashes : List (List ℕ)) → IsMutated hashes → is_mutated hashes ≡ true
is_found hashes is = mutated_seen (length hashes) is.steps is.place hashes (omega arith) is.below is.there is.equal

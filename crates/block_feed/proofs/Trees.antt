-- A level and the one above it have one root, and are mutated together unless the lower one is.
use Rattle.std.proofs.Common.{◌≡◌, ℕ, zero, suc, ◌+◌, ◌*◌, ◌≤◌, ◌<◌, Bool, true, false, ltb, List, [], ◌∷◌, length, refl, sym, ap, ◌∙◌, arith, inl, inr}
use Rattle.std.specs.Prelude.{◌||◌}
use Rattle.std.proofs.lemmas.Bool.{cases_Bool, lt-ltb, le-ltb}
use Rattle.block_feed.specs.Merkle.{level_above, has_twins, first_hash, root_within, merkle_root, mutated_within, is_mutated}

-- a level is about half as long as the one below
pub length-level_above : (hashes : List (List ℕ)) → 2 * length (level_above hashes) ≤ length hashes + 1
length-level_above [] = omega arith
length-level_above (last ∷ []) = omega arith
length-level_above (left ∷ right ∷ hashes) = let h = length-level_above hashes in omega arith

-- and shorter, where it is of two or more
pub shorter : (hashes : List (List ℕ)) → 1 < length hashes → length (level_above hashes) < length hashes
shorter hashes more = let l = length-level_above hashes in omega arith

-- more steps than a level is long change nothing
root_enough : (n m : ℕ) (hashes : List (List ℕ)) → length hashes ≤ suc n → length hashes ≤ suc m → root_within n hashes ≡ root_within m hashes
unfolding root_within
root_enough zero zero hashes h k = refl
root_enough zero (suc m) hashes h k = let few : ltb 1 (length hashes) ≡ false = le-ltb 1 (length hashes) h in rw few refl
root_enough (suc n) zero hashes h k = let few : ltb 1 (length hashes) ≡ false = le-ltb 1 (length hashes) k in rw few refl
root_enough (suc n) (suc m) hashes h k =
    elim (cases_Bool (ltb 1 (length hashes))) [
      | inl more ↦ let l = length-level_above hashes in rw more (root_enough n m (level_above hashes) (omega arith) (omega arith))
      | inr few ↦ rw few refl
    ]

mutated_enough : (n m : ℕ) (hashes : List (List ℕ)) → length hashes ≤ suc n → length hashes ≤ suc m → mutated_within n hashes ≡ mutated_within m hashes
unfolding mutated_within
mutated_enough zero zero hashes h k = refl
mutated_enough zero (suc m) hashes h k = let few : ltb 1 (length hashes) ≡ false = le-ltb 1 (length hashes) h in rw few refl
mutated_enough (suc n) zero hashes h k = let few : ltb 1 (length hashes) ≡ false = le-ltb 1 (length hashes) k in rw few refl
mutated_enough (suc n) (suc m) hashes h k =
    elim (cases_Bool (ltb 1 (length hashes))) [
      | inl more ↦ let l = length-level_above hashes in rw more (ap (λ (b : Bool). has_twins hashes || b) (mutated_enough n m (level_above hashes) (omega arith) (omega arith)))
      | inr few ↦ rw few refl
    ]

-- what the levels from here on say of the whole tree, where some below were mutated or none
pub record SameTree (hashes now : List (List ℕ)) (twins : Bool) : Type 0 where
  pub root : merkle_root now ≡ merkle_root hashes
  pub mutated : (twins || is_mutated now) ≡ is_mutated hashes

pub same_none : (hashes : List (List ℕ)) → SameTree hashes hashes false
same_none hashes = record { root = refl; mutated = refl }

root_step : (hashes : List (List ℕ)) → 1 < length hashes → merkle_root (level_above hashes) ≡ merkle_root hashes
unfolding root_within
root_step [] more = absurd (omega arith)
root_step (first ∷ hashes) more =
    let above : List (List ℕ) = level_above (first ∷ hashes) in
    let l = length-level_above (first ∷ hashes) in
    let test : ltb 1 (suc (length hashes)) ≡ true = lt-ltb 1 (suc (length hashes)) (omega arith) in
    rw test (root_enough (length above) (length hashes) above (omega arith) (omega arith))

mutated_step : (hashes : List (List ℕ)) → 1 < length hashes → (has_twins hashes || is_mutated (level_above hashes)) ≡ is_mutated hashes
unfolding mutated_within
mutated_step [] more = absurd (omega arith)
mutated_step (first ∷ hashes) more =
    let above : List (List ℕ) = level_above (first ∷ hashes) in
    let l = length-level_above (first ∷ hashes) in
    let test : ltb 1 (suc (length hashes)) ≡ true = lt-ltb 1 (suc (length hashes)) (omega arith) in
    rw test (ap (λ (b : Bool). has_twins (first ∷ hashes) || b) (mutated_enough (length above) (length hashes) above (omega arith) (omega arith)))

or_assoc : (a b c : Bool) → ((a || b) || c) ≡ (a || (b || c))
or_assoc true b c = refl
or_assoc false b c = refl

or_false : (a : Bool) → (a || false) ≡ a
or_false true = refl
or_false false = refl

pub same_more : (hashes now : List (List ℕ)) (twins : Bool) → 1 < length now → SameTree hashes now twins → SameTree hashes (level_above now) (twins || has_twins now)
same_more hashes now twins more same = record {
  root = root_step now more ∙ same.root;
  mutated = or_assoc twins (has_twins now) (is_mutated (level_above now)) ∙ ap (λ (b : Bool). twins || b) (mutated_step now more) ∙ same.mutated;
}

top_root : (now : List (List ℕ)) → length now ≤ 1 → merkle_root now ≡ first_hash now
unfolding root_within
top_root [] few = refl
top_root (last ∷ []) few = refl
top_root (left ∷ right ∷ hashes) few = absurd (omega arith)

top_whole : (now : List (List ℕ)) → length now ≤ 1 → is_mutated now ≡ false
unfolding mutated_within
top_whole [] few = refl
top_whole (last ∷ []) few = refl
top_whole (left ∷ right ∷ hashes) few = absurd (omega arith)

-- a level of one hash or none is the top
pub same_all : (hashes now : List (List ℕ)) (twins : Bool) → length now ≤ 1 → SameTree hashes now twins → (first_hash now ≡ merkle_root hashes) × (twins ≡ is_mutated hashes)
same_all hashes now twins few same = (
  sym (top_root now few) ∙ same.root,
  sym (or_false twins) ∙ ap (λ (b : Bool). twins || b) (sym (top_whole now few)) ∙ same.mutated,
)

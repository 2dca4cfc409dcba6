-- The pool of a row as a function is the pool of that row.
use Rattle.std.specs.Prelude.{◌≡◌, ℕ, zero, suc, ◌+◌, ◌<◌, Bool, true, false, List, [], ◌∷◌, map, filter, count_by, length, get_or, IsPermutation, IsSorted, IsSortedBy, if◌then◌else◌}
use Rattle.std.specs.Cmp.{IsStrictWeakOrder}
use Rattle.std.specs.Ordering.{is_lt}
use Rattle.std.proofs.Common.{refl, sym, subst, cond, ◌∙◌, arith, inl, inr}
use Rattle.std.proofs.lemmas.Bool.{cases_Bool}
use Rattle.std.proofs.lemmas.List.{get_or-map, length-map}
use Rattle.std.proofs.lemmas.List.Kept.{IsSortedBy-filter}
use Rattle.std.proofs.lemmas.List.Sorted.{Contains-permutation, IsPermutation-cons, IsPermutation-map, IsPermutation-refl, IsPermutation-swap, IsPermutation-sym, IsPermutation-trans, ranks_by, sum_by-IsPermutation}
use Rattle.coin_candidates.specs.Candidates.{AreCandidates}
use Rattle.coin_candidates.specs.declared.candidate.Candidate.{Candidate}
use Rattle.output_groups.specs.Counting.{parts_in}
use Rattle.output_groups.specs.Forming.{AreParts}
use Rattle.output_groups.specs.Measures.{is_useful}
use Rattle.output_groups.specs.PlainPool.{PlainPool}
use Rattle.output_groups.specs.Pool.{IsPool, group_cmp, keeps}
use Rattle.output_groups.specs.PoolOf.{formed_of, placed, pool_of, sorted}
use Rattle.output_groups.specs.Part.{Part}
use Rattle.output_groups.specs.declared.rows.Row.{Row}
use Rattle.output_groups.proofs.CountLaws.{same_parts}
use Rattle.output_groups.proofs.FormedLaws.{are_parts}
use Rattle.output_groups.proofs.OrderLaws.{group_total, sorted_tail, sorted_unique, tied}
use Rattle.output_groups.proofs.PartLaws.{filter_all}
use Rattle.output_groups.proofs.UniqueLaws.{parts_tie, pool_unique}

-- the first part comes before the second
abbrev pub part_lt : ℕ → ℕ → Part → Part → Bool
part_lt rate long_term p q = is_lt (group_cmp rate long_term p.coins q.coins)

part_order : (rate long_term : ℕ) → IsStrictWeakOrder (part_lt rate long_term)
part_order rate long_term = ranks_by (group_total rate long_term) (λ (p : Part). p.coins)

-- an element stands before a list, or is left out
kept_cons : {X : Type 0} (b : Bool) (q : X) (xs ys : List X) → IsPermutation xs ys → IsPermutation (cond b (q ∷ xs) xs) (cond b (q ∷ ys) ys)
kept_cons true q xs ys same = IsPermutation-cons q xs ys same
kept_cons false q xs ys same = same

kept_flip : {X : Type 0} (b d : Bool) (p q : X) (xs : List X) → IsPermutation (cond b (p ∷ cond d (q ∷ xs) xs) (cond d (q ∷ xs) xs)) (cond d (q ∷ cond b (p ∷ xs) xs) (cond b (p ∷ xs) xs))
kept_flip true true p q xs = IsPermutation-swap (p ∷ q ∷ xs) (q ∷ p ∷ xs) 0 1 (omega arith) (omega arith) refl
kept_flip true false p q xs = IsPermutation-refl (p ∷ xs)
kept_flip false true p q xs = IsPermutation-refl (q ∷ xs)
kept_flip false false p q xs = IsPermutation-refl xs

-- of a part that is placed among others the row keeps the same
placed_filter : (k : Part → Bool) (rate long_term : ℕ) (p : Part) (qs : List Part) → IsPermutation (filter k (p ∷ qs)) (filter k (placed rate long_term p qs))
placed_filter k rate long_term p [] = IsPermutation-refl (filter k (p ∷ []))
placed_filter k rate long_term p (q ∷ qs) =
    let rest = placed_filter k rate long_term p qs in
    let flipped = kept_flip (k p) (k q) p q (filter k qs) in
    let moved = kept_cons (k q) q (filter k (p ∷ qs)) (filter k (placed rate long_term p qs)) rest in
    elim (cases_Bool (is_lt (group_cmp rate long_term q.coins p.coins))) [
      | inl before ↦ rw before (IsPermutation-trans (filter k (p ∷ q ∷ qs)) (filter k (q ∷ p ∷ qs)) (filter k (q ∷ placed rate long_term p qs)) flipped moved)
      | inr after ↦ rw after (IsPermutation-refl (filter k (p ∷ q ∷ qs)))
    ]

sorted_filter : (k : Part → Bool) (rate long_term : ℕ) (ps : List Part) → IsPermutation (filter k ps) (filter k (sorted rate long_term ps))
sorted_filter k rate long_term [] = IsPermutation-refl []
sorted_filter k rate long_term (p ∷ ps) =
    let there = sorted rate long_term ps in
    let more = kept_cons (k p) p (filter k ps) (filter k there) (sorted_filter k rate long_term ps) in
    IsPermutation-trans (filter k (p ∷ ps)) (filter k (p ∷ there)) (filter k (placed rate long_term p there)) more (placed_filter k rate long_term p there)

sorted_cons : {X : Type 0} (lt : X → X → Bool) (x y : X) (ys : List X) → lt y x ≡ false → IsSortedBy lt (y ∷ ys) → IsSortedBy lt (x ∷ y ∷ ys)
sorted_cons lt x y ys first up zero d low below = first
sorted_cons lt x y ys first up (suc k) d low below =
    let next : suc (k + 1) ≡ suc k + 1 = omega arith in
    let P : ℕ → Type 0 = λ n. lt (get_or (x ∷ y ∷ ys) n d) (get_or (y ∷ ys) k d) ≡ false in
    subst P next (up k d (omega arith) (omega (arith, below)))

-- a part that doesn't come before the first of sorted ones is placed behind it
placed_behind : (rate long_term : ℕ) (q p : Part) (qs : List Part) → part_lt rate long_term p q ≡ false → IsSortedBy (part_lt rate long_term) (q ∷ qs) → IsSortedBy (part_lt rate long_term) (placed rate long_term p qs)
    → IsSortedBy (part_lt rate long_term) (q ∷ placed rate long_term p qs)
placed_behind rate long_term q p [] first up rest = sorted_cons (part_lt rate long_term) q p [] first rest
placed_behind rate long_term q p (r ∷ rs) first up rest =
    let lt = part_lt rate long_term in
    let next : lt r q ≡ false = up 0 q (omega arith) (omega arith) in
    let P : List Part → Type 0 = λ ps. IsSortedBy lt ps → IsSortedBy lt (q ∷ ps) in
    by_cases P (is_lt (group_cmp rate long_term r.coins p.coins)) (r ∷ placed rate long_term p rs) (p ∷ r ∷ rs)
    (λ h. sorted_cons lt q r (placed rate long_term p rs) next h) (λ h. sorted_cons lt q p (r ∷ rs) first h) rest
  where
    by_cases : (P : List Part → Type 0) (b : Bool) (x y : List Part) → P x → P y → P (if b then x else y)
    by_cases P true x y yes_x yes_y = yes_x
    by_cases P false x y yes_x yes_y = yes_y

placed_sorted : (rate long_term : ℕ) (p : Part) (qs : List Part) → IsSortedBy (part_lt rate long_term) qs → IsSortedBy (part_lt rate long_term) (placed rate long_term p qs)
placed_sorted rate long_term p [] up = λ k d low below. absurd (omega (arith, below))
placed_sorted rate long_term p (q ∷ qs) up =
    let lt = part_lt rate long_term in
    let behind : IsSortedBy lt (placed rate long_term p qs) = placed_sorted rate long_term p qs (sorted_tail lt q qs up) in
    elim (cases_Bool (is_lt (group_cmp rate long_term q.coins p.coins))) [
      | inl before ↦ rw before (placed_behind rate long_term q p qs ((part_order rate long_term).one_way q p before) up behind)
      | inr after ↦ rw after (sorted_cons lt p q qs after up)
    ]

sorted_up : (rate long_term : ℕ) (ps : List Part) → IsSortedBy (part_lt rate long_term) (sorted rate long_term ps)
sorted_up rate long_term [] = λ k d low below. absurd (omega (arith, below))
sorted_up rate long_term (p ∷ ps) = placed_sorted rate long_term p (sorted rate long_term ps) (sorted_up rate long_term ps)

-- sorted parts are the same parts
sorted_whole : (rate long_term : ℕ) (ps : List Part) → IsPermutation ps (sorted rate long_term ps)
sorted_whole rate long_term ps =
    let any : Part → Bool = λ p. true in
    let there = sorted rate long_term ps in
    let whole : (qs : List Part) → filter any qs ≡ qs = λ qs. filter_all any qs (λ k d below. refl) in
    subst (λ (xs : List Part). IsPermutation ps xs) (whole there) (subst (λ (xs : List Part). IsPermutation xs (filter any there)) (whole ps) (sorted_filter any rate long_term ps))

-- the groups that useful candidates form, in order, are one list, however they were formed
pub formed_one : (group : Bool) (rate long_term : ℕ) (cs : List Candidate) (parts now : List Part) → AreCandidates cs → AreParts group (filter (is_useful rate) cs) parts → IsPermutation parts now → IsSortedBy (part_lt rate long_term) now → now ≡ formed_of group rate long_term cs
unfolding formed_of
formed_one group rate long_term cs parts now are formed moved up =
    let all = parts_in group (filter (is_useful rate) cs) in
    let there = sorted rate long_term all in
    let formed_too = are_parts group (filter (is_useful rate) cs) in
    let same = same_parts group (filter (is_useful rate) cs) parts all formed formed_too in
    let moved_too = sorted_whole rate long_term all in
    let counts : (t : Part → Bool) → count_by t now ≡ count_by t there =
    λ t. sum_by-IsPermutation (λ p. cond (t p) 1 0) parts now moved ∙ same.counts t ∙ sym (sum_by-IsPermutation (λ p. cond (t p) 1 0) all there moved_too) in
    sorted_unique (part_lt rate long_term) (part_order rate long_term) now there up (sorted_up rate long_term all) counts
    (λ p q held held_too below above.
    parts_tie group rate long_term cs parts all are formed formed_too p q (Contains-permutation now parts p (IsPermutation-sym parts now moved) held) (Contains-permutation there all q (IsPermutation-sym all there moved_too) held_too)
    (tied (group_cmp rate long_term p.coins q.coins) (group_cmp rate long_term q.coins p.coins) ((group_total rate long_term).antisymm p.coins q.coins) below above))

coins_sorted : (rate long_term : ℕ) (ps : List Part) → IsSortedBy (part_lt rate long_term) ps → IsSorted (group_cmp rate long_term) (map (λ (p : Part). p.coins) ps)
coins_sorted rate long_term [] up k d low below = absurd (omega (arith, below))
coins_sorted rate long_term (x ∷ xs) up k d low below =
    let coins : Part → List Candidate = λ p. p.coins in
    let short : k + 1 < length (x ∷ xs) = omega (arith, below, length-map (x ∷ xs) coins) in
    rw (get_or-map coins (x ∷ xs) k x d (omega arith), get_or-map coins (x ∷ xs) (k + 1) x d short) (up k x low short)

pub is_pool : (group : Bool) (row : Row) (rate long_term : ℕ) (cs : List Candidate) → IsPool group row rate long_term cs (pool_of group row rate long_term cs)
unfolding pool_of formed_of
is_pool group row rate long_term cs =
    let coins : Part → List Candidate = λ p. p.coins in
    let parts = parts_in group (filter (is_useful rate) cs) in
    let kept = filter (keeps row) parts in
    let there = sorted rate long_term parts in
    let lt = part_lt rate long_term in
    record {
      kept = map coins kept;
      are_kept = record { parts = parts; formed = are_parts group (filter (is_useful rate) cs); kept_are = refl };
      moved = IsPermutation-map coins kept (filter (keeps row) there) (sorted_filter (keeps row) rate long_term parts);
      order = coins_sorted rate long_term (filter (keeps row) there) (IsSortedBy-filter lt (part_order rate long_term) (keeps row) there (sorted_up rate long_term parts));
      items_are = refl;
    }

pub only_pool : (group : Bool) (row : Row) (rate long_term : ℕ) (cs : List Candidate) (p : PlainPool) → AreCandidates cs → IsPool group row rate long_term cs p → p ≡ pool_of group row rate long_term cs
only_pool group row rate long_term cs p are is = pool_unique group row rate long_term cs p (pool_of group row rate long_term cs) are is (is_pool group row rate long_term cs)

-- No output stands twice in a pool.
use Rattle.std.specs.Prelude.{◌≡◌, ◌≢◌, ℕ, zero, suc, ◌+◌, ◌*◌, ◌<◌, Bool, true, false, List, [], ◌∷◌, map, filter, All, AllPairs, Contains, IsPermutation, length, get_or, eqb}
use Rattle.std.specs.Int.{div_ceil}
use Rattle.std.specs.List.{swap}
use Rattle.std.proofs.Common.{refl, sym, subst, cond, ap, ◌∙◌, arith, inl, inr}
use Rattle.std.proofs.lemmas.Bool.{cases_lt}
use Rattle.std.proofs.lemmas.Bool.Decides.{nat_tests}
use Rattle.std.proofs.lemmas.Grind.{common_steps}
use Rattle.std.proofs.lemmas.List.{get_or-map, length-map}
use Rattle.std.proofs.lemmas.List.Edits.{swapped_from_swap}
use Rattle.std.proofs.lemmas.List.Elements.{All-contains_itself, All-filter, All-map, All-weaker, Contains-get_or}
use Rattle.std.proofs.lemmas.List.FromFn.{get_or-map-range_with_len, length-map-range_with_len}
use Rattle.std.proofs.lemmas.List.Kept.{AllPairs-filter}
use Rattle.std.proofs.lemmas.List.Sorted.{IsPermutation-keeps}
use Rattle.coin_candidates.specs.Candidates.{AreCandidates}
use Rattle.coin_candidates.specs.declared.candidate.Candidate.{Candidate}
use Rattle.output_groups.specs.Forming.{AreParts, alone, hundred, of_script, part_at, parts_of, pays_to, starts_with}
use Rattle.output_groups.specs.Measures.{is_useful}
use Rattle.output_groups.specs.PlainPool.{PlainPool}
use Rattle.output_groups.specs.Pool.{AreOnce, AreSeparate, IsPool, keeps}
use Rattle.output_groups.specs.Part.{Part}
use Rattle.output_groups.specs.declared.rows.Row.{Row}
use Rattle.output_groups.proofs.GroupLaws.{first_script, formed_full, part_placed}
use Rattle.output_groups.proofs.Members.{all_from, in_filter}
use Rattle.output_groups.proofs.PartLaws.{IsFull}
use Rattle.output_groups.proofs.PoolLaws.{kept_all}
use Rattle.output_groups.proofs.PlaceLaws.{AreApart, hundred_of, in_hundred, one_coin, one_hundred, only, place_of, stands_at}

-- ---- pairs of elements, in whatever order they stand

record Loose {X : Type 0} (R : X → X → Type 0) (xs : List X) : Type 0 where
  at : (i j : ℕ) (d : X) → (i ≡ j → ⊥) → i < length xs → j < length xs → R (get_or xs i d) (get_or xs j d)

loosened : {X : Type 0} (R : X → X → Type 0) (back : (x y : X) → R x y → R y x) (xs : List X) → AllPairs R xs → Loose R xs
loosened R back xs pairs = record {
  at = λ i j d apart within within_too.
      elim (cases_lt i j) [
        | inl before ↦ pairs i j d before within_too
        | inr upto ↦ elim (cases_lt j i) [ inl after ↦ back (get_or xs j d) (get_or xs i d) (pairs j i d after within) | inr both ↦ absurd (apart (omega arith)) ]
      ];
}

-- where the element at k stood before the ones at i and j were swapped
abbrev moved_from : ℕ → ℕ → ℕ → ℕ
moved_from i j k = cond (eqb k i) j (cond (eqb k j) i k)

moved_back : (i j k : ℕ) → moved_from i j (moved_from i j k) ≡ k
moved_back i j k = grind (arith, nat_tests)

moved_within : (i j k n : ℕ) → i < n → j < n → k < n → moved_from i j k < n
moved_within i j k n first second third = grind (arith, nat_tests)

swapped_at : {X : Type 0} (xs : List X) (i j k : ℕ) (d : X) → i < length xs → j < length xs → get_or (swap xs i j) k d ≡ get_or xs (moved_from i j k) d
swapped_at xs i j k d within within_too =
    let s = swapped_from_swap xs (swap xs i j) i j d within within_too refl in
    grind (arith, nat_tests, s.0, s.1, s.2 k)

loose_swapped : {X : Type 0} (R : X → X → Type 0) (xs : List X) (i j : ℕ) → i < length xs → j < length xs → Loose R xs → Loose R (swap xs i j)
loose_swapped R xs i j within within_too loose = record {
  at = λ x y d apart low low_too.
      let long : length (swap xs i j) ≡ length xs = grind (arith, common_steps) in
      let other : moved_from i j x ≡ moved_from i j y → ⊥ = λ e. apart (sym (moved_back i j x) ∙ ap (moved_from i j) e ∙ moved_back i j y) in
      rw (swapped_at xs i j x d within within_too, swapped_at xs i j y d within within_too)
      (loose.at (moved_from i j x) (moved_from i j y) d other (moved_within i j x (length xs) within within_too (omega (arith, low, long))) (moved_within i j y (length xs) within within_too (omega (arith, low_too, long))));
}

-- what holds of each two elements holds of them in another order
pub pairs_permuted : {X : Type 0} (R : X → X → Type 0) (back : (x y : X) → R x y → R y x) (xs ys : List X) → IsPermutation xs ys → AllPairs R xs → AllPairs R ys
pairs_permuted {X} R back xs ys moved pairs =
    let P : List X → Type 0 = λ zs. Loose R zs in
    let loose : Loose R ys = IsPermutation-keeps xs P (loosened R back xs pairs) (λ l i j within within_too h. loose_swapped R l i j within within_too h) ys moved in
    λ i j d before within. loose.at i j d (λ e. omega arith) (omega arith) within

pairs_mapped : {X Y : Type 0} (R : Y → Y → Type 0) (f : X → Y) (xs : List X) → AllPairs (λ x y. R (f x) (f y)) xs → AllPairs R (map f xs)
pairs_mapped R f [] pairs i j d before within = absurd (omega (arith, within))
pairs_mapped R f (x ∷ xs) pairs i j d before within =
    let low : j < length (x ∷ xs) = omega (arith, within, length-map (x ∷ xs) f) in
    rw (get_or-map f (x ∷ xs) i x d (omega arith), get_or-map f (x ∷ xs) j x d low) (pairs i j x before low)

-- ---- the coins of groups

hundred_apart : (cs : List Candidate) (k : ℕ) → AreApart cs → AreApart (hundred cs k)
hundred_apart cs k apart i j d before within =
    let first = stands_at cs 100 (100 * k) i d (omega (arith, before, within)) in
    let second = stands_at cs 100 (100 * k) j d within in
    rw (first.same, second.same) (apart (100 * k + i) (100 * k + j) d (omega arith) second.within)

-- ---- the groups

separate_back : (g h : List Candidate) → AreSeparate g h → AreSeparate h g
separate_back g h apart a b held held_too same = apart b a held_too held (sym same)

hundreds_separate : (cs : List Candidate) (i j : ℕ) → AreApart cs → (i ≡ j → ⊥) → AreSeparate (hundred cs i) (hundred cs j)
hundreds_separate cs i j apart other a b held held_too same =
    let e : a ≡ b = one_coin cs a b apart (in_hundred cs i a held) (in_hundred cs j b held_too) same in
    other (one_hundred cs i j a apart held (subst (λ (c : Candidate). Contains (hundred cs j) c) (sym e) held_too))

places_separate : (cs : List Candidate) → AreApart cs → AllPairs (λ (p q : Part). AreSeparate p.coins q.coins) (parts_of cs)
unfolding parts_of
places_separate cs apart i j d before within =
    let n = div_ceil (length cs) 100 in
    let low : j < n = omega (arith, within, length-map-range_with_len (part_at cs) 0 n) in
    rw (get_or-map-range_with_len (part_at cs) 0 n i i d (omega arith) (omega arith), get_or-map-range_with_len (part_at cs) 0 n j j d low (omega arith))
    (hundreds_separate cs i j apart (λ e. omega arith))

pairs_tail : {X : Type 0} (R : X → X → Type 0) (b : Bool) (x : X) (xs : List X) → AllPairs R (cond b (x ∷ xs) xs) → AllPairs R xs
pairs_tail R true x xs pairs i j d before within = pairs (suc i) (suc j) d (omega (arith, before)) (omega (arith, within))
pairs_tail R false x xs pairs i j d before within = pairs i j d before within

-- what holds of each two elements that pass a test holds at their places in the whole list
pair_at : {X : Type 0} (p : X → Bool) (R : X → X → Type 0) (xs : List X) → AllPairs R (filter p xs) → (i j : ℕ) (d : X) → i < j → j < length xs → p (get_or xs i d) ≡ true → p (get_or xs j d) ≡ true → R (get_or xs i d) (get_or xs j d)
pair_at p R [] pairs i j d before within first second = absurd (omega (arith, within))
pair_at p R (x ∷ xs) pairs i zero d before within first second = absurd (omega (arith, before))
pair_at {X} p R (x ∷ xs) pairs zero (suc j) d before within first second =
    let y = get_or xs j d in
    let found : Contains (filter p xs) y = in_filter p xs y (Contains-get_or xs j d (omega (arith, within))) second in
    let whole : filter p (x ∷ xs) ≡ x ∷ filter p xs = rw first refl in
    let all : AllPairs R (x ∷ filter p xs) = subst (λ (zs : List X). AllPairs R zs) whole pairs in
    subst (λ (z : X). R x z) found.2 (all 0 (suc found.0) y (omega arith) (omega (arith, found.1)))
pair_at p R (x ∷ xs) pairs (suc i) (suc j) d before within first second =
    pair_at p R xs (pairs_tail R (p x) x (filter p xs) pairs) i j d (omega (arith, before)) (omega (arith, within)) first second

abbrev Apart_parts : Part → Part → Type 0
Apart_parts p q = AreSeparate p.coins q.coins

singles_separate : (x y : Candidate) → x.coin ≢ y.coin → AreSeparate (x ∷ []) (y ∷ [])
singles_separate x y apart a b held held_too same =
    apart (ap (λ (c : Candidate). c.coin) (only x a held) ∙ same ∙ sym (ap (λ (c : Candidate). c.coin) (only y b held_too)))

parts_separate : (group : Bool) (cs : List Candidate) (parts : List Part) → AreApart cs → AreParts group cs parts → AllPairs Apart_parts parts
parts_separate true cs parts apart formed i j d before within a b held held_too same =
    let at = hundred_of cs parts (get_or parts i d) a formed (Contains-get_or parts i d (omega (arith, before, within))) held in
    let at_too = hundred_of cs parts (get_or parts j d) b formed (Contains-get_or parts j d within) held_too in
    let e : a ≡ b = one_coin cs a b apart at.held at_too.held same in
    let starts : Part → Bool = λ p. starts_with a.script p.coins in
    let second : starts (get_or parts j d) ≡ true = subst (λ (c : Candidate). starts_with c.script (get_or parts j d).coins ≡ true) (sym e) at_too.starts in
    let mine : AreApart (of_script a.script cs) = AllPairs-filter (λ (x y : Candidate). x.coin ≢ y.coin) (pays_to a.script) cs apart in
    let pairs : AllPairs Apart_parts (filter starts parts) = subst (λ (ps : List Part). AllPairs Apart_parts ps) (sym (formed.each a.script)) (places_separate (of_script a.script cs) mine) in
    pair_at starts Apart_parts parts pairs i j d before within at.starts second a b held held_too same
parts_separate false cs parts apart formed i j d before within a b held held_too same =
    let singles : AllPairs Apart_parts (map alone cs) = pairs_mapped Apart_parts alone cs (λ k l e first second. singles_separate (get_or cs k e) (get_or cs l e) (apart k l e first second)) in
    let whole : AllPairs Apart_parts parts = subst (λ (ps : List Part). AllPairs Apart_parts ps) (sym formed) singles in
    whole i j d before within a b held held_too same

parts_apart : (group : Bool) (cs : List Candidate) (parts : List Part) → AreApart cs → AreParts group cs parts → All (λ (p : Part). AreApart p.coins) parts
parts_apart true cs parts apart formed =
    all_from (λ (p : Part). AreApart p.coins) parts (λ p held.
    let script = first_script p.coins in
    let found = place_of (of_script script cs) p (part_placed cs parts p formed held) in
    subst (λ (q : Part). AreApart q.coins) found.1 (hundred_apart (of_script script cs) found.0 (AllPairs-filter (λ (x y : Candidate). x.coin ≢ y.coin) (pays_to script) cs apart)))
parts_apart false cs parts apart formed =
    subst (λ (ps : List Part). All (λ (p : Part). AreApart p.coins) ps) (sym formed)
    (All-map (λ (p : Part). AreApart p.coins) alone cs (λ k d below i j e before within. absurd (omega (arith, before, within))))

pub pool_once : (group : Bool) (row : Row) (rate long_term : ℕ) (cs : List Candidate) (pool : PlainPool) → AreCandidates cs → IsPool group row rate long_term cs pool → AreOnce cs pool.groups
pool_once group row rate long_term cs pool are is =
    let useful = filter (is_useful rate) cs in
    let parts = is.are_kept.parts in
    let formed = is.are_kept.formed in
    let apart : AreApart useful = AllPairs-filter (λ (x y : Candidate). x.coin ≢ y.coin) (is_useful rate) cs are.distinct in
    let In : Candidate → Type 0 = λ c. Contains cs c in
    let inside : All In useful = All-filter (is_useful rate) In cs (All-contains_itself cs) in
    let full = formed_full In group useful parts inside formed in
    let pairs = pairs_mapped AreSeparate (λ (p : Part). p.coins) (filter (keeps row) parts) (AllPairs-filter Apart_parts (keeps row) parts (parts_separate group useful parts apart formed)) in
    record {
      held =
          kept_all (λ g. All In g) group row rate long_term cs pool is
          (All-filter (keeps row) (λ (p : Part). All In p.coins) parts (All-weaker (λ (p : Part). IsFull In p.coins) (λ (p : Part). All In p.coins) (λ p f. f.each) parts full));
      within = kept_all AreApart group row rate long_term cs pool is (All-filter (keeps row) (λ (p : Part). AreApart p.coins) parts (parts_apart group useful parts apart formed));
      between = pairs_permuted AreSeparate separate_back is.kept pool.groups is.moved (rw is.are_kept.kept_are pairs);
    }

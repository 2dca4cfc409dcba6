-- A row keeps the groups that it takes.
use Rattle.std.specs.Prelude.{◌≡◌, ◌⊎◌, ℕ, ◌<◌, ◌≤◌, ◌||◌, ◌↔◌, Bool, true, false, not, List, [], ◌∷◌, min, max, fold, All, IsTrue, length, nat_le, if◌then◌else◌}
use Rattle.std.proofs.Common.{refl, arith, rules, inl, inr}
use Rattle.std.proofs.lemmas.Bool.{and_parts, and_from, leb-true, le-leb, or_cases, both_ways, false_from_ne_true}
use Rattle.std.proofs.lemmas.List.Elements.{All-head, All-tail, All-weaker}
use Rattle.std.proofs.lemmas.List.Sums.{AllPass-from_list_all, list_all-from_AllPass}
use Rattle.coin_candidates.specs.declared.candidate.Candidate.{Candidate}
use Rattle.output_groups.specs.Ladder.{GrowLaxer, IsLaxer, ladder_of}
use Rattle.output_groups.specs.Measures.{ancestors_of, depth_of, descendants_of, is_mine, is_safe}
use Rattle.output_groups.specs.Pool.{group_meets, keeps}
use Rattle.output_groups.specs.Taken.{AreMine, IsTaken}
use Rattle.output_groups.specs.Part.{Part}
use Rattle.output_groups.specs.declared.rows.Row.{Row}
use Rattle.output_groups.proofs.MeetLaws.{depth_below, most_above}

-- what is no deeper than the first and each other coin is no deeper than the least depth
above_least : (n a : ℕ) (cs : List Candidate) → n ≤ a → All (λ (c : Candidate). n ≤ c.depth) cs → n ≤ fold (λ m (c : Candidate). min m c.depth) a cs
above_least n a [] low each = low
above_least n a (c ∷ cs) low each =
    let P : Candidate → Type 0 = λ x. n ≤ x.depth in
    let here : n ≤ c.depth = All-head P c cs each in
    above_least n (min a c.depth) cs (omega (arith, low, here)) (All-tail P c cs each)

deep_all : (n : ℕ) (g : List Candidate) → 0 < length g → All (λ (c : Candidate). n ≤ c.depth) g → n ≤ depth_of g
deep_all n [] some each = absurd (omega (arith, some))
deep_all n (c ∷ cs) some each =
    let P : Candidate → Type 0 = λ x. n ≤ x.depth in
    above_least n c.depth cs (All-head P c cs each) (All-tail P c cs each)

all_deep : (n : ℕ) (g : List Candidate) → n ≤ depth_of g → All (λ (c : Candidate). n ≤ c.depth) g
all_deep n g low = All-weaker (λ (c : Candidate). depth_of g ≤ c.depth) (λ (c : Candidate). n ≤ c.depth) (λ c h. omega (arith, h, low)) g (depth_below g)

below_most : (n a : ℕ) (cs : List Candidate) → a ≤ n → All (λ (c : Candidate). c.descendants ≤ n) cs → fold (λ m (c : Candidate). max m c.descendants) a cs ≤ n
below_most n a [] low each = low
below_most n a (c ∷ cs) low each =
    let P : Candidate → Type 0 = λ x. x.descendants ≤ n in
    let here : c.descendants ≤ n = All-head P c cs each in
    below_most n (max a c.descendants) cs (omega (arith, low, here)) (All-tail P c cs each)

all_few : (n : ℕ) (g : List Candidate) → descendants_of g ≤ n → All (λ (c : Candidate). c.descendants ≤ n) g
all_few n g low = All-weaker (λ (c : Candidate). c.descendants ≤ descendants_of g) (λ (c : Candidate). c.descendants ≤ n) (λ c h. omega (arith, h, low)) g (most_above 0 g).1

-- the depth that is asked for, by whether all coins are mine
own_part : (mine : Bool) (own foreign depth : ℕ) → (if mine then own else foreign) ≤ depth → mine ≡ true → own ≤ depth
own_part true own foreign depth h e = omega (arith, h)
own_part false own foreign depth h e = absurd cc

foreign_part : (mine : Bool) (own foreign depth : ℕ) → (if mine then own else foreign) ≤ depth → mine ≡ false → foreign ≤ depth
foreign_part true own foreign depth h e = absurd cc
foreign_part false own foreign depth h e = omega (arith, h)

asked : (mine : Bool) (own foreign depth : ℕ) → (mine ≡ true → own ≤ depth) → (mine ≡ false → foreign ≤ depth) → (if mine then own else foreign) ≤ depth
asked true own foreign depth mine_too other = mine_too refl
asked false own foreign depth mine_too other = other refl

or_from : (a b : Bool) → (a ≡ true) ⊎ (b ≡ true) → (a || b) ≡ true
or_from true b h = refl
or_from false true h = refl
or_from false false h = elim h [ inl l ↦ absurd cc | inr r ↦ absurd cc ]

not_implies : (a b : Bool) → (not a || b) ≡ true → a ≡ true → b ≡ true
not_implies true b h e = h
not_implies false b h e = absurd cc

implies_not : (a b : Bool) → (a ≡ true → b ≡ true) → (not a || b) ≡ true
implies_not true b h = h refl
implies_not false b h = refl

mine_from : (g : List Candidate) → AreMine g → is_mine g ≡ true
mine_from g all = list_all-from_AllPass (λ (c : Candidate). c.mine) g all

mine_all : (g : List Candidate) → is_mine g ≡ true → AreMine g
mine_all g h = AllPass-from_list_all (λ (c : Candidate). c.mine) g h

pub taken_kept : (row : Row) (p : Part) → 0 < length p.coins → IsTaken row p → keeps row p ≡ true
taken_kept row p some taken =
    let g = p.coins in
    let deep = asked (is_mine g) row.own row.foreign (depth_of g)
    (λ e. deep_all row.own g some (taken.own (mine_all g e)))
    (λ e. deep_all row.foreign g some (taken.foreign (λ all. both_ways (is_mine g) e (mine_from g all)))) in
    let safe = or_from (is_safe g) row.unsafe_too (elim taken.safe [ inl all ↦ inl (list_all-from_AllPass (λ (c : Candidate). c.safe) g all) | inr too ↦ inr too ]) in
    and_from (not p.partial || row.partial) (group_meets row g)
    (implies_not p.partial row.partial taken.partial)
    (and_from _ (is_safe g || row.unsafe_too)
    (and_from _ (nat_le (descendants_of g) row.descendants)
    (and_from (nat_le (if is_mine g then row.own else row.foreign) (depth_of g)) (nat_le (ancestors_of g) row.ancestors) (le-leb _ _ deep) (le-leb _ _ taken.ancestors))
    (le-leb _ _ (below_most row.descendants 0 g (omega arith) taken.descendants)))
    safe)

pub kept_taken : (row : Row) (p : Part) → keeps row p ≡ true → IsTaken row p
kept_taken row p h =
    let g = p.coins in
    let both = and_parts (not p.partial || row.partial) (group_meets row g) h in
    let d_part = and_parts _ (is_safe g || row.unsafe_too) both.1 in
    let c_part = and_parts _ (nat_le (descendants_of g) row.descendants) d_part.0 in
    let b_part = and_parts (nat_le (if is_mine g then row.own else row.foreign) (depth_of g)) (nat_le (ancestors_of g) row.ancestors) c_part.0 in
    let deep : (if is_mine g then row.own else row.foreign) ≤ depth_of g = leb-true _ _ b_part.0 in
    record {
      partial = not_implies p.partial row.partial both.0;
      own = λ all. all_deep row.own g (own_part (is_mine g) row.own row.foreign (depth_of g) deep (mine_from g all));
      foreign = λ other. all_deep row.foreign g (foreign_part (is_mine g) row.own row.foreign (depth_of g) deep (false_from_ne_true (is_mine g) (λ e. other (mine_all g e))));
      ancestors = leb-true _ _ b_part.1;
      descendants = all_few row.descendants g (leb-true _ _ c_part.1);
      safe = elim (or_cases (is_safe g) row.unsafe_too d_part.1) [ inl all ↦ inl (AllPass-from_list_all (λ (c : Candidate). c.safe) g all) | inr too ↦ inr too ];
    }

pub kept_where_taken : (row : Row) (p : Part) → 0 < length p.coins → (IsTrue (keeps row p) ↔ IsTaken row p)
kept_where_taken row p some = (kept_taken row p, taken_kept row p some)

-- ---- rows one behind the other

pub grow_laxer : (zero_conf include_unsafe : Bool) → GrowLaxer (ladder_of zero_conf include_unsafe)
grow_laxer false include_unsafe = (search rules, tt)
grow_laxer true false = (search rules, (search rules, (search rules, (search rules, (search rules, tt)))))
grow_laxer true true = (search rules, (search rules, (search rules, (search rules, (search rules, (search rules, tt))))))

-- what a row takes a laxer one takes
taken_laxer : (a b : Row) (p : Part) → IsLaxer a b → IsTaken a p → IsTaken b p
taken_laxer a b p lax taken = record {
  partial = λ h. lax.partial (taken.partial h);
  own = λ all. All-weaker (λ (c : Candidate). a.own ≤ c.depth) (λ (c : Candidate). b.own ≤ c.depth) (λ c h. omega (arith, h, lax.own)) p.coins (taken.own all);
  foreign = λ other. All-weaker (λ (c : Candidate). a.foreign ≤ c.depth) (λ (c : Candidate). b.foreign ≤ c.depth) (λ c h. omega (arith, h, lax.foreign)) p.coins (taken.foreign other);
  ancestors = omega (arith, taken.ancestors, lax.ancestors);
  descendants = All-weaker (λ (c : Candidate). c.descendants ≤ a.descendants) (λ (c : Candidate). c.descendants ≤ b.descendants) (λ c h. omega (arith, h, lax.descendants)) p.coins taken.descendants;
  safe = elim taken.safe [ inl all ↦ inl all | inr too ↦ inr (lax.unsafe_too too) ];
}

pub kept_laxer : (a b : Row) (p : Part) → 0 < length p.coins → IsLaxer a b → IsTrue (keeps a p) → IsTrue (keeps b p)
kept_laxer a b p some lax kept = taken_kept b p some (taken_laxer a b p lax (kept_taken a p kept))

-- Each coin of a group that meets a row meets it.
use Rattle.std.specs.Prelude.{◌≡◌, ℕ, ◌≤◌, ◌⊎◌, ◌||◌, Bool, true, false, List, [], ◌∷◌, min, max, fold, All, get_or, nat_le, if◌then◌else◌, IsTrue}
use Rattle.std.proofs.Common.{refl, arith, inl, inr}
use Rattle.std.proofs.lemmas.Bool.{leb-true, and_parts}
use Rattle.std.proofs.lemmas.List.Elements.{All-cons, All-nil}
use Rattle.std.proofs.lemmas.List.Sums.{AllPass-from_list_all, get_or-le-sum_by}
use Rattle.coin_candidates.specs.declared.candidate.Candidate.{Candidate}
use Rattle.output_groups.specs.Ladder.{Meets}
use Rattle.output_groups.specs.Measures.{ancestors_of, depth_of, descendants_of, is_mine, is_safe}
use Rattle.output_groups.specs.Pool.{group_meets}
use Rattle.output_groups.specs.declared.rows.Row.{Row}

-- a least depth is no greater than where it begins, nor than any depth
least_below : (a : ℕ) (cs : List Candidate) → (fold (λ m (c : Candidate). min m c.depth) a cs ≤ a) × All (λ (c : Candidate). fold (λ m (x : Candidate). min m x.depth) a cs ≤ c.depth) cs
least_below a [] = (omega arith, All-nil _)
least_below a (c ∷ cs) =
    let rest = least_below (min a c.depth) cs in
    (omega (arith, rest.0), All-cons (λ (x : Candidate). fold (λ m (y : Candidate). min m y.depth) (min a c.depth) cs ≤ x.depth) c cs (omega (arith, rest.0)) rest.1)

pub most_above : (a : ℕ) (cs : List Candidate) → (a ≤ fold (λ m (c : Candidate). max m c.descendants) a cs) × All (λ (c : Candidate). c.descendants ≤ fold (λ m (x : Candidate). max m x.descendants) a cs) cs
most_above a [] = (omega arith, All-nil _)
most_above a (c ∷ cs) =
    let rest = most_above (max a c.descendants) cs in
    (omega (arith, rest.0), All-cons (λ (x : Candidate). x.descendants ≤ fold (λ m (y : Candidate). max m y.descendants) (max a c.descendants) cs) c cs (omega (arith, rest.0)) rest.1)

pub depth_below : (g : List Candidate) → All (λ (c : Candidate). depth_of g ≤ c.depth) g
depth_below [] = All-nil _
depth_below (c ∷ cs) =
    let rest = least_below c.depth cs in
    All-cons (λ (x : Candidate). fold (λ m (y : Candidate). min m y.depth) c.depth cs ≤ x.depth) c cs rest.0 rest.1

deep_enough : (all_mine mine : Bool) (own foreign least depth : ℕ) → own ≤ foreign → (all_mine ≡ true → mine ≡ true) → (if all_mine then own else foreign) ≤ least → least ≤ depth → (if mine then own else foreign) ≤ depth
deep_enough true mine own foreign least depth fair each deep below = rw (each refl) (omega (arith, deep, below))
deep_enough false true own foreign least depth fair each deep below = omega (arith, fair, deep, below)
deep_enough false false own foreign least depth fair each deep below = omega (arith, deep, below)

safe_enough : (all_safe safe unsafe_too : Bool) → (all_safe ≡ true → safe ≡ true) → (all_safe || unsafe_too) ≡ true → IsTrue safe ⊎ IsTrue unsafe_too
safe_enough true safe unsafe_too each h = inl (each refl)
safe_enough false safe unsafe_too each h = inr h

pub group_each : (row : Row) (g : List Candidate) → row.own ≤ row.foreign → group_meets row g ≡ true → All (Meets row) g
group_each row g fair meets k d below =
    let c = get_or g k d in
    let d_part = and_parts _ (is_safe g || row.unsafe_too) meets in
    let c_part = and_parts _ (nat_le (descendants_of g) row.descendants) d_part.0 in
    let b_part = and_parts (nat_le (if is_mine g then row.own else row.foreign) (depth_of g)) (nat_le (ancestors_of g) row.ancestors) c_part.0 in
    let deep : (if is_mine g then row.own else row.foreign) ≤ depth_of g = leb-true _ _ b_part.0 in
    let ancestors : ancestors_of g ≤ row.ancestors = leb-true _ _ b_part.1 in
    let descendants : descendants_of g ≤ row.descendants = leb-true _ _ c_part.1 in
    record {
      deep = deep_enough (is_mine g) c.mine row.own row.foreign (depth_of g) c.depth fair (λ all. AllPass-from_list_all (λ (x : Candidate). x.mine) g all k d below) deep (depth_below g k d below);
      few_ancestors = omega (arith, get_or-le-sum_by (λ (x : Candidate). x.ancestors) g k d below, ancestors);
      few_descendants = omega (arith, (most_above 0 g).1 k d below, descendants);
      safe_enough = safe_enough (is_safe g) c.safe row.unsafe_too (λ all. AllPass-from_list_all (λ (x : Candidate). x.safe) g all k d below) d_part.1;
    }

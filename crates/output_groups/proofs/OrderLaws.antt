-- The order of groups, and lists that it sorts.
use Rattle.std.specs.Prelude.{◌≡◌, ℕ, suc, ◌+◌, Bool, true, false, List, [], ◌∷◌, count_by, Contains, length, get_or, IsSortedBy}
use Rattle.std.specs.Cmp.{IsStrictWeakOrder, IsTotalOrder}
use Rattle.std.specs.Ordering.{int_cmp, is_lt, nat_cmp, ordering_reverse}
use Rattle.std.specs.declared.cmp.Ordering.{Ordering}
use Rattle.std.specs.declared.cmp.Ordering.TheVariants.{Less, Equal, Greater}
use Rattle.std.proofs.Common.{refl, sym, subst, cond, ap, ◌∙◌, arith}
use Rattle.std.proofs.lemmas.Cmp.{back_total, int_cmp_total, nat_cmp_total, on_total, then_total}
use Rattle.std.proofs.lemmas.List.Sorted.{ranks_by, sorted_far}
use Rattle.std.proofs.lemmas.List.Sums.{length-filter, sum_by-cons}
use Rattle.fund_base.proofs.OutpointLaws.{outpoint_total, then_equal, outpoint_equal}
use Rattle.fund_base.proofs.Lists.{in_tail}
use Rattle.coin_candidates.specs.declared.candidate.Candidate.{Candidate}
use Rattle.output_groups.specs.Measures.{cost_of, least_of, value_of, weight_of}
use Rattle.output_groups.specs.Pool.{group_cmp}
use Rattle.output_groups.proofs.Members.{head_in}
use Rattle.output_groups.proofs.PartLaws.{filter_none}

pub group_total : (rate long_term : ℕ) → IsTotalOrder (group_cmp rate long_term)
group_total rate long_term =
    then_total (on_total (value_of rate) (back_total nat_cmp_total))
    (then_total (on_total weight_of nat_cmp_total) (then_total (on_total (cost_of rate long_term) int_cmp_total) (on_total least_of outpoint_total)))

pub group_order : (rate long_term : ℕ) → IsStrictWeakOrder (λ a b. is_lt (group_cmp rate long_term a b))
group_order rate long_term = ranks_by (group_total rate long_term) (λ (g : List Candidate). g)

-- neither is below the other: they tie
pub tied : (r s : Ordering) → r ≡ ordering_reverse s → is_lt r ≡ false → is_lt s ≡ false → r ≡ Equal
tied Less s e h k = absurd cc
tied Equal s e h k = refl
tied Greater Less e h k = absurd cc
tied Greater Equal e h k = absurd cc
tied Greater Greater e h k = absurd cc

-- groups that the order doesn't tell apart have one least outpoint
pub tie_least : (rate long_term : ℕ) (a b : List Candidate) → group_cmp rate long_term a b ≡ Equal → least_of a ≡ least_of b
tie_least rate long_term a b h =
    let by_value = then_equal (nat_cmp (value_of rate b) (value_of rate a)) _ h in
    let by_weight = then_equal (nat_cmp (weight_of a) (weight_of b)) _ by_value.1 in
    let by_cost = then_equal (int_cmp (cost_of rate long_term a) (cost_of rate long_term b)) _ by_weight.1 in
    outpoint_equal (least_of a) (least_of b) by_cost.1

-- no element of a sorted list is below the first
none_below : {X : Type 0} (lt : X → X → Bool) (order : IsStrictWeakOrder lt) (x : X) (xs : List X) → IsSortedBy lt (x ∷ xs) → count_by (λ y. lt y x) (x ∷ xs) ≡ 0
none_below {X} lt order x xs up =
    let below : X → Bool = λ y. lt y x in
    sym (length-filter below (x ∷ xs)) ∙ ap length (filter_none below (x ∷ xs) (λ k d within. sorted_far lt order (x ∷ xs) up 0 k d (omega arith) within))

pub sorted_tail : {X : Type 0} (lt : X → X → Bool) (x : X) (xs : List X) → IsSortedBy lt (x ∷ xs) → IsSortedBy lt xs
sorted_tail lt x xs up k d low below =
    let next : suc k + 1 ≡ suc (k + 1) = omega arith in
    let P : ℕ → Type 0 = λ n. lt (get_or (x ∷ xs) n d) (get_or xs k d) ≡ false in
    subst P next (up (suc k) d (omega arith) (omega (arith, below)))

abbrev one_if : Bool → ℕ
one_if b = cond b 1 0

zero_false : (b : Bool) → one_if b ≡ 0 → b ≡ false
zero_false true h = absurd (omega (arith, h))
zero_false false h = refl

-- what no element of the one list passes, the head of the other doesn't
head_fails : {X : Type 0} (p : X → Bool) (x : X) (xs ys : List X) → count_by p (x ∷ xs) ≡ count_by p ys → count_by p ys ≡ 0 → p x ≡ false
head_fails {X} p x xs ys same none =
    let f : X → ℕ = λ y. cond (p y) 1 0 in
    zero_false (p x) (omega (arith, same, none, sum_by-cons f x xs))

tails_same : {X : Type 0} (p : X → Bool) (x y : X) (xs ys : List X) → x ≡ y → count_by p (x ∷ xs) ≡ count_by p (y ∷ ys) → count_by p xs ≡ count_by p ys
tails_same {X} p x y xs ys e same =
    let f : X → ℕ = λ z. cond (p z) 1 0 in
    let heads : f x ≡ f y = ap f e in
    omega (arith, same, heads, sum_by-cons f x xs, sum_by-cons f y ys)

some_counted : {X : Type 0} (x : X) (xs : List X) → count_by (λ (y : X). true) (x ∷ xs) ≡ 0 → ⊥
some_counted {X} x xs none = omega (arith, none, sum_by-cons (λ (y : X). cond true 1 0) x xs)

-- two sorted lists of the same elements, of which none tie but equal ones, are one
pub sorted_unique : {X : Type 0} (lt : X → X → Bool) (order : IsStrictWeakOrder lt) (xs ys : List X) → IsSortedBy lt xs → IsSortedBy lt ys → ((p : X → Bool) → count_by p xs ≡ count_by p ys)
    → ((x y : X) → Contains xs x → Contains ys y → lt x y ≡ false → lt y x ≡ false → x ≡ y) → xs ≡ ys
sorted_unique lt order [] [] up up_too same ties = refl
sorted_unique lt order [] (y ∷ ys) up up_too same ties = absurd (some_counted y ys (sym (same (λ z. true))))
sorted_unique lt order (x ∷ xs) [] up up_too same ties = absurd (some_counted x xs (same (λ z. true)))
sorted_unique {X} lt order (x ∷ xs) (y ∷ ys) up up_too same ties =
    let not_below : lt x y ≡ false = head_fails (λ z. lt z y) x xs (y ∷ ys) (same (λ z. lt z y)) (none_below lt order y ys up_too) in
    let not_above : lt y x ≡ false = head_fails (λ z. lt z x) y ys (x ∷ xs) (sym (same (λ z. lt z x))) (none_below lt order x xs up) in
    let e : x ≡ y = ties x y (head_in x xs) (head_in y ys) not_below not_above in
    let rest : xs ≡ ys =
    sorted_unique lt order xs ys (sorted_tail lt x xs up) (sorted_tail lt y ys up_too) (λ p. tails_same p x y xs ys e (same p))
    (λ a b held held_too. ties a b (in_tail x xs a held) (in_tail y ys b held_too)) in
    ap (λ (z : X). z ∷ xs) e ∙ ap (λ (zs : List X). y ∷ zs) rest

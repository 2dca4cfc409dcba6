-- The listed coins of a plan are one list.
use Rattle.std.specs.Prelude.{ℕ, suc, ◌≡◌, ◌≢◌, ◌⊎◌, List, [], ◌∷◌, AllPairs, Contains}
use Rattle.std.specs.Ordering.{ordering_reverse}
use Rattle.std.specs.declared.cmp.Ordering.TheVariants.{Less}
use Rattle.std.proofs.Common.{refl, sym, ap, subst, ◌∙◌, inl, inr, arith, get_or}
use Rattle.std.proofs.lemmas.Bool.{cases_order}
use Rattle.std.proofs.lemmas.List.{get_or_default}
use Rattle.std.proofs.lemmas.List.Elements.{All-contains}
use Rattle.fund_base.proofs.OutpointLaws.{outpoint_total}
use Rattle.fund_base.proofs.Lists.{in_tail, cons_cases}
use Rattle.fund_base.specs.Outpoints.{outpoint_cmp}
use Rattle.coin_candidates.specs.declared.candidate.Candidate.{Candidate}
use Rattle.fund_base.specs.declared.outpoint.OutPoint.{OutPoint}
use Rattle.fund_steps.specs.Listed.{AreListed}
use Rattle.fund_steps.specs.Plan.{IsEligible, IsPlan, PlainPlan}
use Rattle.fund_steps.specs.Selection.{AreSorted}

-- ---- two lists in order with the same coins are one

one_way : (a b : OutPoint) → outpoint_cmp a b ≡ Less → outpoint_cmp b a ≡ Less → ⊥
one_way a b up down = let e = sym up ∙ outpoint_total.antisymm a b ∙ ap ordering_reverse down in absurd (cc)

sorted_rest : (c : Candidate) (cs : List Candidate) → AreSorted (c ∷ cs) → AreSorted cs
sorted_rest c cs h = λ i j d lt in'. h (suc i) (suc j) d (omega arith) (omega arith)

-- the first stands before each other
first_less : (c : Candidate) (cs : List Candidate) (e : Candidate) → AreSorted (c ∷ cs) → Contains cs e → outpoint_cmp c.coin e.coin ≡ Less
first_less c cs e h (k, lt, is) = subst (λ (x : Candidate). outpoint_cmp c.coin x.coin ≡ Less) is (h 0 (suc k) e (omega arith) (omega (arith, lt)))

abbrev pub Within : List Candidate → List Candidate → Type 0
Within xs ys = (c : Candidate) → Contains xs c → Contains ys c

first_same : (x y : Candidate) (xs ys : List Candidate) → AreSorted (x ∷ xs) → AreSorted (y ∷ ys) → (y ≡ x) ⊎ Contains ys x → (x ≡ y) ⊎ Contains xs y → x ≡ y
first_same x y xs ys sx sy (inl e) there = sym e
first_same x y xs ys sx sy (inr here) (inl e) = e
first_same x y xs ys sx sy (inr here) (inr there) = absurd (one_way x.coin y.coin (first_less x xs y sx there) (first_less y ys x sy here))

rest_within : (x y : Candidate) (xs ys : List Candidate) → x ≡ y → AreSorted (x ∷ xs) → Within (x ∷ xs) (y ∷ ys) → Within xs ys
rest_within x y xs ys same sx h c there = by_case (cons_cases y ys c (h c (in_tail x xs c there)))
  where
    by_case : (y ≡ c) ⊎ Contains ys c → Contains ys c
    by_case (inl e) = let less = subst (λ (z : Candidate). outpoint_cmp x.coin z.coin ≡ Less) (sym (same ∙ e)) (first_less x xs c sx there) in absurd (one_way x.coin x.coin less less)
    by_case (inr h') = h'

pub one_list : (xs ys : List Candidate) → AreSorted xs → AreSorted ys → Within xs ys → Within ys xs → xs ≡ ys
one_list [] [] sx sy there back = refl
one_list [] (y ∷ ys) sx sy there back = let h = back y (0, omega arith, refl) in absurd (omega (arith, h.1))
one_list (x ∷ xs) [] sx sy there back = let h = there x (0, omega arith, refl) in absurd (omega (arith, h.1))
one_list (x ∷ xs) (y ∷ ys) sx sy there back =
    let same : x ≡ y = first_same x y xs ys sx sy (cons_cases y ys x (there x (0, omega arith, refl))) (cons_cases x xs y (back y (0, omega arith, refl))) in
    let rest = one_list xs ys (sorted_rest x xs sx) (sorted_rest y ys sy) (rest_within x y xs ys same sx there) (rest_within y x ys xs (sym same) sy back) in
    ap (λ (z : Candidate). z ∷ xs) same ∙ ap (λ (l : List Candidate). y ∷ l) rest

-- ---- the coins that are listed are told by the plan

-- candidates of one outpoint are one
pub one_candidate : (cs : List Candidate) (a b : Candidate) → AllPairs (λ (x y : Candidate). x.coin ≢ y.coin) cs → Contains cs a → Contains cs b → a.coin ≡ b.coin → a ≡ b
one_candidate cs a b h (i, lt, is) (j, lt', is') same =
    let point : Candidate → OutPoint = λ c. c.coin in
    let b_there : get_or cs j a ≡ b = get_or_default cs j a b lt' ∙ is' in
    let a_there : get_or cs i b ≡ a = get_or_default cs i b a lt ∙ is in
    elim (cases_order i j) as (λ _. a ≡ b) [
      | inl e ↦ sym is ∙ ap (λ (k : ℕ). get_or cs k a) e ∙ b_there
      | inr o ↦ elim o as (λ _. a ≡ b) [
        | inl up ↦ absurd (h i j a up lt' (ap point is ∙ same ∙ ap point (sym b_there)))
        | inr down ↦ absurd (h j i b down lt (ap point is' ∙ sym same ∙ ap point (sym a_there)))
      ]
    ]

listed_within : (p : PlainPlan) (xs ys : List Candidate) → IsPlan p → AreListed p xs → AreListed p ys → Within xs ys
listed_within p xs ys h lx ly c there =
    let listed = All-contains (λ (d : Candidate). Contains p.request.coins d.coin) xs c lx.only there in
    let other = All-contains (λ point. (d : Candidate) × Contains ys d × (d.coin ≡ point)) p.request.coins c.coin ly.all listed in
    let mine = All-contains (IsEligible p) xs c lx.eligible there in
    let theirs = All-contains (IsEligible p) ys other.0 ly.eligible other.1 in
    subst (Contains ys) (one_candidate p.candidates other.0 c h.candidates.distinct theirs.candidate mine.candidate other.2) other.1

pub one_listed : (p : PlainPlan) (xs ys : List Candidate) → IsPlan p → AreListed p xs → AreListed p ys → xs ≡ ys
one_listed p xs ys h lx ly = one_list xs ys lx.sorted ly.sorted (listed_within p xs ys h lx ly) (listed_within p ys xs h ly lx)

-- A branch that is closed has only selections that the answer beats.
use Rattle.std.specs.Prelude.{◌≡◌, ℕ, ◌+◌, ◌-◌, ◌*◌, ◌<◌, ◌≤◌, Bool, true, ◌||◌, List, [], ◌∷◌, ◌++◌, length, pos, ◌+ℤ◌, ◌≤ℤ◌, Contains, Option, Some, None, IsSomeAnd, bytes_eq}
use Rattle.std.proofs.Common.{arith, refl, sym, ap, subst, inl, inr, ◌∙◌}
use Rattle.std.proofs.lemmas.Int.{ints}
use Rattle.std.proofs.lemmas.List.{append-nil}
use Rattle.std.proofs.lemmas.List.Elements.{All-contains}
use Rattle.std.proofs.Math.Nat.{mul-le-mul_right}
use Rattle.std.proofs.lemmas.Bool.{or_left, or_right}
use Rattle.fund_base.proofs.Lists.{same_bytes}
use Rattle.pick_problem.specs.declared.item.Kind.{Kind}
use Rattle.pick_problem.specs.declared.item.Kind.TheVariants.{Changeless, Lean}
use Rattle.pick_problem.specs.declared.token.Reason.{Reason}
use Rattle.pick_problem.specs.declared.token.Reason.TheVariants.{Short, Over, Heavy, NoRoom, Worse, Heavier, Far, Hit}
use Rattle.pick_problem.specs.Pool.{IsItem, item_at}
use Rattle.pick_problem.specs.Problem.{PlainProblem, IsProblem, Rising, value_of, weight_of, cost_of}
use Rattle.pick_problem.specs.Admissible.{Fits, IsAdmissible}
use Rattle.pick_problem.specs.Score.{IsBelow, IsSame, score_by}
use Rattle.pick_problem.specs.Best.{comes_before}
use Rattle.pick_problem.specs.Later.{later_value, least_weight, NoNegative}
use Rattle.pick_problem.specs.Steps.{Closes, IsAbove, IsNoBetterThan, met_behind, needed}
use Rattle.pick_problem.specs.SoFar.{ComesAfter, IsBeaten}
use Rattle.pick_problem.proofs.Deciding.{cases_z}
use Rattle.pick_problem.proofs.OrderLaws.{member_behind}
use Rattle.pick_problem.proofs.SumLaws.{value-append, weight-append, cost-append, item_is}
use Rattle.pick_problem.proofs.RisingLaws.{Rising-value, Rising-weight, Rising-most, Rising-some, Rising-front, least_weight-le, needed-le, cost-nonneg}
use Rattle.pick_problem.proofs.OpenLaws.{Extends}

-- what is added where it is needed
room_for : (p : PlainProblem) (t : ℕ) (more : List ℕ) (below : ℕ) → Rising (length p.items) t more → below < p.lo → p.lo ≤ below + value_of p more → least_weight p t ≤ weight_of p more
room_for p t [] below h low enough = absurd (omega arith)
room_for p t (j ∷ more) below h low enough = omega (arith, least_weight-le p t j h.0 h.1)

module _ (p : PlainProblem) (is : IsProblem p) (chosen : List ℕ) (t : ℕ) (q : List ℕ) (x : Extends (length p.items) chosen t q) (good : IsAdmissible p q) where
  value_is : value_of p q ≡ value_of p chosen + value_of p x.more
  value_is = ap (value_of p) x.is ∙ value-append p chosen x.more

  weight_is : weight_of p q ≡ weight_of p chosen + weight_of p x.more
  weight_is = ap (weight_of p) x.is ∙ weight-append p chosen x.more

  cost_is : cost_of p q ≡ cost_of p chosen +ℤ cost_of p x.more
  cost_is = ap (cost_of p) x.is ∙ cost-append p chosen x.more

  not_short : value_of p chosen + later_value p t < p.lo → ⊥
  not_short h = omega (arith, value_is, good.reaches, Rising-value p t x.more x.rising)

  not_over : p.kind ≡ Changeless → p.hi < value_of p chosen → ⊥
  not_over k h =
      let fits : Fits Changeless p q = subst (λ (z : Kind). Fits z p q) k good.fits in
      omega (arith, value_is, fits.0)

  not_heavy : p.most_weight < weight_of p chosen → ⊥
  not_heavy h = omega (arith, weight_is, good.light)

  has_room : value_of p chosen < p.lo → p.most_weight < weight_of p chosen + least_weight p t → ⊥
  has_room low h = omega (arith, weight_is, good.light, room_for p t x.more (value_of p chosen) x.rising low (omega (arith, value_is, good.reaches)))

  wastes_more : (best : List ℕ) (met : Bool) → NoNegative p → (met ≡ true → comes_before best q ≡ true) → IsAbove met (cost_of p chosen +ℤ pos (value_of p chosen - p.lo)) (score_by Changeless p best).first → IsBeaten Changeless p (Some best) met q
  wastes_more best met none after above =
      let rest : pos 0 ≤ℤ cost_of p x.more = cost-nonneg p t x.more none x.rising in
      let enough : (cost_of p chosen +ℤ pos (value_of p chosen - p.lo)) ≤ℤ (score_by Changeless p q).first = omega (arith, ints, rest, value_is, cost_is, good.reaches) in
      elim above [
        | inl l ↦ inl (inl (omega (arith, ints, l, enough)))
        | inr e ↦
            elim (cases_z (score_by Changeless p best).first (score_by Changeless p q).first) [
              | inl l ↦ inl (inl l)
              | inr k ↦
                  elim k [
                    | inl same ↦ inr (e.1, (same, refl), inr (after e.1))
                    | inr g ↦ absurd (omega (arith, ints, e.0, enough, g))
                  ]
            ]
      ]

  is_heavier : (best : List ℕ) (met : Bool) → weight_of p best < weight_of p chosen → IsBeaten Lean p (Some best) met q
  is_heavier best met h = inl (inl (omega (arith, ints, h, weight_is)))

  is_far_off : (best : List ℕ) (met : Bool) → value_of p chosen < p.lo → t < length p.items → weight_of p best < weight_of p chosen + needed (p.lo - value_of p chosen) (item_at p.items t).value * least_weight p t → IsBeaten Lean p (Some best) met q
  is_far_off best met low below h =
      let item : IsItem (item_at p.items t) = item_is p t is below in
      let most : value_of p x.more ≤ length x.more * (item_at p.items t).value = Rising-most p is t t x.more (omega arith) x.rising in
      let count : needed (p.lo - value_of p chosen) (item_at p.items t).value ≤ length x.more = needed-le (p.lo - value_of p chosen) (item_at p.items t).value (length x.more) (omega (arith, item.value)) (omega (arith, most, value_is, good.reaches)) in
      let light : length x.more * least_weight p t ≤ weight_of p x.more = Rising-weight p t t x.more (omega arith) x.rising in
      let all : needed (p.lo - value_of p chosen) (item_at p.items t).value * least_weight p t ≤ length x.more * least_weight p t = mul-le-mul_right (least_weight p t) count in
      inl (inl (omega (arith, ints, h, light, all, weight_is)))

  -- nothing is added after the branch
  hit_itself : (k : Kind) (best : List ℕ) (met : Bool) → p.kind ≡ k → q ≡ chosen → (met ≡ true → comes_before best q ≡ true) → IsNoBetterThan p met chosen best → IsBeaten k p (Some best) (met || bytes_eq chosen best) q
  hit_itself k best met kind same after worse =
      elim worse [
        | inl e ↦
            let is_it : q ≡ best = same ∙ e in
            inr (or_right met (bytes_eq chosen best) (same_bytes chosen best e), subst (λ (r : List ℕ). IsSame (score_by k p r) (score_by k p q)) is_it (refl, refl), inl is_it)
        | inr l ↦
            elim l [
              | inl below ↦ inl (subst (λ (r : List ℕ). IsBelow (score_by k p best) (score_by k p r)) (sym same) (subst (λ (z : Kind). IsBelow (score_by z p best) (score_by z p chosen)) kind below))
              | inr e ↦
                  inr (
                    or_left met (bytes_eq chosen best) e.1,
                    subst (λ (r : List ℕ). IsSame (score_by k p best) (score_by k p r)) (sym same) (subst (λ (z : Kind). IsSame (score_by z p best) (score_by z p chosen)) kind e.0),
                    inr (after e.1),
                  )
            ]
      ]

  -- for Changeless nothing can be added to what reaches lo
  hit_and_more : (j : ℕ) (r : List ℕ) → p.kind ≡ Changeless → x.more ≡ j ∷ r → p.lo ≤ value_of p chosen → ⊥
  hit_and_more j r kind e reached =
      let fits : Fits Changeless p q = subst (λ (z : Kind). Fits z p q) kind good.fits in
      let whole : q ≡ chosen ++ j ∷ r = x.is ∙ ap (λ (m : List ℕ). chosen ++ m) e in
      let there : Contains q j = subst (λ (m : List ℕ). Contains m j) (sym whole) (member_behind chosen r j) in
      let short : value_of p q - (item_at p.items j).value < p.lo = All-contains (λ (i : ℕ). value_of p q - (item_at p.items i).value < p.lo) q j fits.1 there in
      let sum : value_of p x.more ≡ value_of p (j ∷ r) = ap (value_of p) e in
      omega (arith, short, sum, value_is)

  -- for Lean what is added weighs something
  lean_and_more : (best : List ℕ) (met met' : Bool) (j : ℕ) (r : List ℕ) → p.kind ≡ Lean → x.more ≡ j ∷ r → IsNoBetterThan p met chosen best → IsBeaten Lean p (Some best) met' q
  lean_and_more best met met' j r kind e worse =
      let rises : Rising (length p.items) t (j ∷ r) = subst (λ (m : List ℕ). Rising (length p.items) t m) e x.rising in
      let some : (0 < value_of p (j ∷ r)) × (0 < weight_of p (j ∷ r)) = Rising-some p is t j r rises in
      let sum : weight_of p x.more ≡ weight_of p (j ∷ r) = ap (weight_of p) e in
      elim worse [
        | inl same ↦ inl (inl (let w : weight_of p chosen ≡ weight_of p best = ap (weight_of p) same in omega (arith, ints, w, some.1, sum, weight_is)))
        | inr l ↦
            elim l [
              | inl below ↦
                  let lean : IsBelow (score_by Lean p best) (score_by Lean p chosen) = subst (λ (z : Kind). IsBelow (score_by z p best) (score_by z p chosen)) kind below in
                  elim lean [
                    | inl m ↦ inl (inl (omega (arith, ints, m, some.1, sum, weight_is)))
                    | inr m ↦ inl (inl (omega (arith, ints, m.0, some.1, sum, weight_is)))
                  ]
              | inr k ↦
                  let lean : IsSame (score_by Lean p best) (score_by Lean p chosen) = subst (λ (z : Kind). IsSame (score_by z p best) (score_by z p chosen)) kind k.0 in
                  inl (inl (omega (arith, ints, lean.0, some.1, sum, weight_is)))
            ]
      ]

  some_chosen : (c : List ℕ) → p.lo ≤ value_of p c → 0 < length c
  some_chosen [] reached = absurd (omega (arith, is.some))
  some_chosen (j ∷ c) reached = omega arith

  -- what reaches lo is admissible for Lean where something is added to it
  chosen_admissible : p.kind ≡ Lean → p.lo ≤ value_of p chosen → IsAdmissible p chosen
  chosen_admissible kind reached =
      record {
        some = some_chosen chosen reached;
        rising = Rising-front (length p.items) 0 chosen x.more (subst (λ (m : List ℕ). Rising (length p.items) 0 m) x.is good.rising);
        reaches = reached;
        light = omega (arith, weight_is, good.light);
        fits = subst (λ (z : Kind). Fits z p chosen) (sym kind) tt;
      }

  same_as_chosen : x.more ≡ [] → q ≡ chosen
  same_as_chosen e = x.is ∙ (ap (λ (m : List ℕ). chosen ++ m) e ∙ append-nil chosen)

  hit_by : (k : Kind) (a : Option (List ℕ)) (met : Bool) (more : List ℕ) → x.more ≡ more → p.kind ≡ k → (met ≡ true → ComesAfter a q) → p.lo ≤ value_of p chosen → (IsAdmissible p chosen → IsSomeAnd a (IsNoBetterThan p met chosen)) → IsBeaten k p a (met_behind a met chosen Hit) q
  hit_by k None met [] e kind after reached worse = absurd (worse (subst (IsAdmissible p) (same_as_chosen e) good))
  hit_by k (Some best) met [] e kind after reached worse =
      hit_itself k best met kind (same_as_chosen e) after (worse (subst (IsAdmissible p) (same_as_chosen e) good))
  hit_by Changeless a met (j ∷ r) e kind after reached worse = absurd (hit_and_more j r kind e reached)
  hit_by Lean None met (j ∷ r) e kind after reached worse = absurd (worse (chosen_admissible kind reached))
  hit_by Lean (Some best) met (j ∷ r) e kind after reached worse =
      lean_and_more best met (met || bytes_eq chosen best) j r kind e (worse (chosen_admissible kind reached))

  -- whatever the reason, the answer beats the selection
  pub closed_beaten : (a : Option (List ℕ)) (met : Bool) (reason : Reason) → (met ≡ true → ComesAfter a q) → Closes p a met chosen t reason → IsBeaten p.kind p a (met_behind a met chosen reason) q
  closed_beaten a met Short after h = absurd (not_short h)
  closed_beaten a met Over after h = absurd (not_over h.0 h.1)
  closed_beaten a met Heavy after h = absurd (not_heavy h)
  closed_beaten a met NoRoom after h = absurd (has_room h.0 h.2)
  closed_beaten None met Worse after h = absurd h.2
  closed_beaten (Some best) met Worse after h =
      subst (λ (z : Kind). IsBeaten z p (Some best) met q) (sym h.0) (wastes_more best met h.1 after (subst (λ (z : Kind). IsAbove met (cost_of p chosen +ℤ pos (value_of p chosen - p.lo)) (score_by z p best).first) h.0 h.2))
  closed_beaten None met Heavier after h = absurd h.1
  closed_beaten (Some best) met Heavier after h = subst (λ (z : Kind). IsBeaten z p (Some best) met q) (sym h.0) (is_heavier best met h.1)
  closed_beaten None met Far after h = absurd h.3
  closed_beaten (Some best) met Far after h = subst (λ (z : Kind). IsBeaten z p (Some best) met q) (sym h.0) (is_far_off best met h.1 h.2 h.3)
  closed_beaten a met Hit after h = hit_by p.kind a met x.more refl refl after h.0 h.1

-- The tokens of a walk are allowed for its best, and for each answer of a lower score that isn't met yet.
use Rattle.std.specs.Prelude.{◌≡◌, ℕ, ◌+◌, ◌-◌, ◌*◌, ◌<◌, ◌≤◌, ◌⊎◌, ◌&&◌, ◌||◌, Bool, true, false, List, [], ◌∷◌, ◌++◌, length, ℤ, pos, ◌+ℤ◌, ◌≤ℤ◌, int_lt, int_le, All, Option, Some, None, IsSomeAnd, bytes_eq, if◌then◌else◌, nat_lt, nat_le}
use Rattle.std.specs.List.{list_all}
use Rattle.std.specs.Ordering.{int_eq}
use Rattle.std.proofs.Common.{arith, refl, sym, ap, subst, inl, inr, ◌∙◌}
use Rattle.std.proofs.lemmas.Bool.{cases_lt, and_parts, or_cases, or_parts}
use Rattle.std.proofs.lemmas.Bool.Decides.{Decides-int_eq}
use Rattle.std.proofs.lemmas.Int.{ints}
use Rattle.std.proofs.Math.Nat.{mul-le-mul_left, mul-le-mul_right}
use Rattle.std.proofs.lemmas.List.Elements.{All-cons, All-nil}
use Rattle.fund_base.proofs.Lists.{same_bytes, and_second, int_le_true}
use Rattle.pick_problem.specs.declared.item.Item.{Item}
use Rattle.pick_problem.specs.declared.item.Kind.{Kind}
use Rattle.pick_problem.specs.declared.item.Kind.TheVariants.{Changeless, Lean}
use Rattle.pick_problem.specs.declared.score.Score.{Score}
use Rattle.pick_problem.specs.declared.token.Reason.TheVariants.{Worse, Heavier, Far, Hit}
use Rattle.pick_problem.specs.Pool.{IsItem, item_at}
use Rattle.pick_problem.specs.Problem.{PlainProblem, IsProblem, Rising, value_of, weight_of, cost_of}
use Rattle.pick_problem.specs.Admissible.{Fits, NeedsEach, IsAdmissible}
use Rattle.pick_problem.specs.Score.{IsBelow, score_by, score_of}
use Rattle.pick_problem.specs.Later.{later_value, least_weight, NoNegative}
use Rattle.pick_problem.specs.Steps.{Closes, IsAbove, IsNoBetterThan, needed}
use Rattle.pick_problem.specs.Walk.{Way, Ready, Rule, IsShort, IsOver, IsHeavy, IsWorse, IsHit, IsFar, GoesOn, upward, shift, cut_or_shift, is_over, no_negative, is_worse, worse_way, is_far, score_below, better, rule, way_of, best_of}
use Rattle.pick_problem.proofs.Deciding.{if_cases, lt_yes, lt_no, le_yes, le_no, zlt_yes, zlt_no, cases_z, other_test}
use Rattle.pick_problem.proofs.BestLaws.{below_irreflexive, below_transitive, same_below}
use Rattle.pick_problem.proofs.SumLaws.{item_is}
use Rattle.pick_problem.proofs.RisingLaws.{needed-le, value-falls, Rising-push}
use Rattle.pick_problem.proofs.TwinLaws.{IsAtMost, below_at_most}
use Rattle.pick_problem.proofs.TreeSteps.{open_at}
use Rattle.pick_problem.proofs.FollowLaws.{place_left, Follows, value_with, weight_with, shift_follows, cut_or_shift_follows, closes_with, short_follows, over_hi_follows, heavy_follows, on_follows}

needed_enough : (n v : ℕ) → 0 < v → n ≤ needed n v * v
needed_enough n v some = omega arith

needed_some : (n v : ℕ) → 0 < n → 0 < v → 0 < needed n v
needed_some n v some_n some_v =
    elim (cases_lt 0 (needed n v)) [
      | inl l ↦ l
      | inr g ↦ absurd (omega (arith, mul-le-mul_right v g, needed_enough n v some_v))
    ]

needed_falls : (n v v' : ℕ) → 0 < v' → v' ≤ v → needed n v ≤ needed n v'
needed_falls n v v' some less = needed-le n v (needed n v') (omega arith) (omega (arith, needed_enough n v' some, mul-le-mul_left (needed n v') less))

less_one : (k n v : ℕ) → 0 < k → n + v ≤ k * v → n ≤ (k - 1) * v
less_one k n v some h =
    let e : k ≡ k - 1 + 1 = omega arith in
    let h' : n + v ≤ (k - 1 + 1) * v = subst (λ (z : ℕ). n + v ≤ z * v) e h in
    omega arith

-- one more item is needed without one of at least that value
needed_more : (n v v' : ℕ) → 0 < v' → v' ≤ v → needed n v + 1 ≤ needed (n + v) v'
needed_more n v v' some less =
    let k = needed (n + v) v' in
    let some_k : 0 < k = needed_some (n + v) v' (omega arith) some in
    let enough : n + v ≤ k * v = omega (arith, needed_enough (n + v) v' some, mul-le-mul_left k less) in
    let most : needed n v ≤ k - 1 = needed-le n v (k - 1) (omega arith) (less_one k n v some_k enough) in
    omega (arith, most, some_k)

score_yes : (x y : Score) → score_below x y ≡ true → IsBelow x y
score_yes x y e =
    elim (or_cases (int_lt x.first y.first) (int_eq x.first y.first && nat_lt x.second y.second) e) [
      | inl l ↦ inl (zlt_yes x.first y.first l)
      | inr k ↦
          let both = and_parts (int_eq x.first y.first) (nat_lt x.second y.second) k in
          inr ((Decides-int_eq x.first y.first).0 both.0, lt_yes x.second y.second both.1)
    ]

score_no : (x y : Score) → score_below x y ≡ false → IsAtMost y x
score_no x y e =
    let parts = or_parts (int_lt x.first y.first) (int_eq x.first y.first && nat_lt x.second y.second) e in
    elim (cases_z y.first x.first) [
      | inl l ↦ inl (inl l)
      | inr k ↦
          elim k [
            | inl same ↦
                let second : y.second ≤ x.second = lt_no x.second y.second (and_second (int_eq x.first y.first) (nat_lt x.second y.second) parts.1 ((Decides-int_eq x.first y.first).1 (sym same))) in
                elim (cases_lt y.second x.second) [
                  | inl l ↦ inl (inr (same, l))
                  | inr g ↦ inr (same, omega arith)
                ]
            | inr l ↦ absurd (omega (arith, ints, l, zlt_no x.first y.first parts.0))
          ]
    ]

no_negative_is : (p : PlainProblem) → no_negative p ≡ true → NoNegative p
no_negative_is p e = each p.items e
  where
    each : (xs : List Item) → list_all (λ x. int_le (pos 0) x.cost) xs ≡ true → All (λ x. pos 0 ≤ℤ x.cost) xs
    each [] h = All-nil (λ (x : Item). pos 0 ≤ℤ x.cost)
    each (x ∷ xs) h =
        let both = and_parts (int_le (pos 0) x.cost) (list_all (λ (z : Item). int_le (pos 0) z.cost) xs) h in
        All-cons (λ (z : Item). pos 0 ≤ℤ z.cost) x xs (int_le_true (pos 0) x.cost both.0) (each xs both.1)

-- the answers for which the steps of a walk with this best were allowed, each with whether it is met
abbrev pub Backs : PlainProblem → Option (List ℕ) → Option (List ℕ) → Bool → Type 0
Backs p None c m = m ≡ false
Backs p (Some b) None m = ⊥
Backs p (Some b) (Some d) m = ((d ≡ b) × (m ≡ true)) ⊎ ((m ≡ false) × IsAdmissible p d × IsBelow (score_of p d) (score_of p b))

-- from what backs the new best: what backs the old one, for which the steps of the way are allowed
pub record Turned (p : PlainProblem) (best : Option (List ℕ)) (stack : List ℕ) (t : ℕ) (c : Option (List ℕ)) (m' : Bool) (w : Way) : Type 0 where
  pub met : Bool
  pub backs : Backs p best c met
  pub follows : Follows p c (open_at (upward (t ∷ stack)) (t + 1) met) w m'

above_from : (p : PlainProblem) (b d : List ℕ) (m : Bool) (x : ℤ) → p.kind ≡ Changeless → (score_of p b).first ≤ℤ x → Backs p (Some b) (Some d) m → IsAbove m x (score_of p d).first
above_from p b d m x kind le backs =
    elim backs [
      | inl e ↦
          let same : (score_of p d).first ≡ (score_of p b).first = ap (λ (r : List ℕ). (score_of p r).first) e.0 in
          elim (cases_z (score_of p b).first x) [
            | inl l ↦ inl (omega (arith, ints, l, same))
            | inr k ↦
                elim k [
                  | inl same_x ↦ inr (omega (arith, ints, same_x, same), e.1)
                  | inr g ↦ absurd (omega (arith, ints, g, le))
                ]
          ]
      | inr e ↦
          let below : IsBelow (score_by Changeless p d) (score_by Changeless p b) = subst (λ (z : Kind). IsBelow (score_by z p d) (score_by z p b)) kind e.2 in
          let le' : (score_by Changeless p b).first ≤ℤ x = subst (λ (z : Kind). (score_by z p b).first ≤ℤ x) kind le in
          let above : IsAbove m x (score_by Changeless p d).first =
          elim below [ inl l ↦ inl (omega (arith, ints, l, le')) | inr k ↦ absurd (omega (arith, k.1)) ] in
          subst (λ (z : Kind). IsAbove m x (score_by z p d).first) (sym kind) above
    ]

lighter_from_backs : (p : PlainProblem) (b d : List ℕ) (m : Bool) → p.kind ≡ Lean → Backs p (Some b) (Some d) m → weight_of p d ≤ weight_of p b
lighter_from_backs p b d m kind backs =
    elim backs [
      | inl e ↦ let same : weight_of p d ≡ weight_of p b = ap (weight_of p) e.0 in omega (arith, same)
      | inr e ↦
          let below : IsBelow (score_by Lean p d) (score_by Lean p b) = subst (λ (z : Kind). IsBelow (score_by z p d) (score_by z p b)) kind e.2 in
          elim below [ inl l ↦ omega (arith, ints, l) | inr k ↦ omega (arith, ints, k.0) ]
    ]

lighter_than : (p : PlainProblem) (b : List ℕ) (c : Option (List ℕ)) (m : Bool) (n : ℕ) → p.kind ≡ Lean → Backs p (Some b) c m → weight_of p b < n → IsSomeAnd c (λ d. weight_of p d < n)
lighter_than p b None m n kind backs h = absurd backs
lighter_than p b (Some d) m n kind backs h = omega (arith, lighter_from_backs p b d m kind backs, h)

worse_closes : (p : PlainProblem) (b : List ℕ) (c : Option (List ℕ)) (m : Bool) (q : List ℕ) (t : ℕ) → p.kind ≡ Changeless → NoNegative p → (score_by Changeless p b).first ≤ℤ (cost_of p q +ℤ pos (value_of p q - p.lo)) → Backs p (Some b) c m → Closes p c m q t Worse
worse_closes p b None m q t kind none le backs = absurd backs
worse_closes p b (Some d) m q t kind none le backs =
    let x = cost_of p q +ℤ pos (value_of p q - p.lo) in
    (kind, none, above_from p b d m x kind (subst (λ (z : Kind). (score_by z p b).first ≤ℤ x) (sym kind) le) backs)

each_rising : (P : ℕ → Type 0) (n b : ℕ) (q : List ℕ) → Rising n b q → ((j : ℕ) → j < n → P j) → All P q
each_rising P n b [] h f = All-nil P
each_rising P n b (j ∷ q) h f = All-cons P j q (f j h.1) (each_rising P n (j + 1) q h.2 f)

pushed_some : (xs : List ℕ) (t : ℕ) → 0 < length (xs ++ t ∷ [])
pushed_some [] t = omega arith
pushed_some (x ∷ xs) t = omega arith

at_most_below : (x y z : Score) → IsAtMost x y → IsBelow y z → IsBelow x z
at_most_below x y z h k = elim h [ inl l ↦ below_transitive x y z l k | inr s ↦ same_below x y z s k ]

module _ (p : PlainProblem) (is : IsProblem p) (stack : List ℕ) (t : ℕ) (ready : Ready p stack t) where
  rises_with : Rising (length p.items) 0 (upward (t ∷ stack))
  rises_with = Rising-push (length p.items) 0 t (upward stack) (omega arith) ready.next ready.rises

  -- without any one of its places a hit is below lo, since the last place has the least value
  needs_each : NeedsEach p (upward (t ∷ stack))
  needs_each = each_rising (λ (j : ℕ). value_of p (upward (t ∷ stack)) - (item_at p.items j).value < p.lo) (t + 1) 0 (upward (t ∷ stack)) (Rising-push (t + 1) 0 t (upward stack) (omega arith) (omega arith) ready.rises) (λ j below.
      omega (arith, value-falls p is j t (omega arith) ready.next, value_with p stack t, ready.low))

  not_over : (k : Kind) → is_over k p (upward (t ∷ stack)) ≡ false → Fits k p (upward (t ∷ stack))
  not_over Changeless e = (lt_no p.hi (value_of p (upward (t ∷ stack))) e, needs_each)
  not_over Lean e = tt

  -- a hit is admissible
  pub hit : is_over p.kind p (upward (t ∷ stack)) ≡ false → weight_of p (upward (t ∷ stack)) ≤ p.most_weight → p.lo ≤ value_of p (upward (t ∷ stack)) → IsAdmissible p (upward (t ∷ stack))
  hit under light reached =
      record { some = pushed_some (upward stack) t; rising = rises_with; reaches = reached; light = light; fits = not_over p.kind under }

  shifts : (c : Option (List ℕ)) (m : Bool) → Follows p c (open_at (upward stack) (t + 1) m) (shift p stack t) m
  shifts c m = shift_follows p c m stack t ready.next ready.low ready.light ready.rises

  -- the hit is the answer, or is no better than it
  hit_for : (d : List ℕ) (m m' : Bool) → p.lo ≤ value_of p (upward (t ∷ stack)) → IsNoBetterThan p m (upward (t ∷ stack)) d → (m || bytes_eq (upward (t ∷ stack)) d) ≡ m' → Follows p (Some d) (open_at (upward (t ∷ stack)) (t + 1) m) (way_of p stack t IsHit) m'
  hit_for d m m' reached worse met = closes_with p (Some d) m m' stack t Hit (shift p stack t) (reached, λ adm. worse) met (shifts (Some d) m')

  other_score : (d : List ℕ) → IsBelow (score_of p d) (score_of p (upward (t ∷ stack))) → upward (t ∷ stack) ≡ d → ⊥
  other_score d l e = below_irreflexive (score_of p d) (subst (λ (r : List ℕ). IsBelow (score_of p d) (score_of p r)) e l)

  -- the hit becomes the best
  taken : (best : Option (List ℕ)) (c : Option (List ℕ)) (m' : Bool) → IsAdmissible p (upward (t ∷ stack)) → ((d : List ℕ) → IsAdmissible p d → IsAtMost (score_of p d) (score_of p (upward (t ∷ stack))) → Backs p best (Some d) false) → p.lo ≤ value_of p (upward (t ∷ stack)) → Backs p (Some (upward (t ∷ stack))) c m' → Turned p best stack t c m' (way_of p stack t IsHit)
  taken best None m' adm old reached backs = absurd backs
  taken best (Some d) m' adm old reached backs =
      elim backs [
        | inl e ↦
            record {
              met = false;
              backs = old d (subst (IsAdmissible p) (sym e.0) adm) (subst (λ (r : List ℕ). IsAtMost (score_of p r) (score_of p (upward (t ∷ stack)))) (sym e.0) (inr (refl, refl)));
              follows = hit_for d false m' reached (inl (sym e.0)) (same_bytes (upward (t ∷ stack)) d (sym e.0) ∙ sym e.1);
            }
        | inr e ↦
            record {
              met = false;
              backs = old d e.1 (inl e.2);
              follows = hit_for d false m' reached (inr (inl e.2)) (other_test (upward (t ∷ stack)) d (other_score d e.2) ∙ sym e.0);
            }
      ]

  -- the best stays
  stays : (b : List ℕ) (c : Option (List ℕ)) (m' : Bool) → IsAtMost (score_of p b) (score_of p (upward (t ∷ stack))) → p.lo ≤ value_of p (upward (t ∷ stack)) → Backs p (Some b) c m' → Turned p (Some b) stack t c m' (way_of p stack t IsHit)
  stays b None m' most reached backs = absurd backs
  stays b (Some d) m' most reached backs =
      elim backs [
        | inl e ↦
            let most_d : IsAtMost (score_of p d) (score_of p (upward (t ∷ stack))) = subst (λ (r : List ℕ). IsAtMost (score_of p r) (score_of p (upward (t ∷ stack)))) (sym e.0) most in
            record {
              met = true;
              backs = inl (e.0, refl);
              follows = hit_for d true m' reached (elim most_d [ inl l ↦ inr (inl l) | inr s ↦ inr (inr (s, refl)) ]) (sym e.1);
            }
        | inr e ↦
            let below : IsBelow (score_of p d) (score_of p (upward (t ∷ stack))) = below_at_most (score_of p d) (score_of p b) (score_of p (upward (t ∷ stack))) e.2 most in
            record {
              met = false;
              backs = inr (refl, e.1, e.2);
              follows = hit_for d false m' reached (inr (inl below)) (other_test (upward (t ∷ stack)) d (other_score d below) ∙ sym e.0);
            }
      ]

  hit_turned : (best : Option (List ℕ)) (c : Option (List ℕ)) (m' : Bool) → IsAdmissible p (upward (t ∷ stack)) → p.lo ≤ value_of p (upward (t ∷ stack)) → Backs p (better p best (upward (t ∷ stack))) c m' → Turned p best stack t c m' (way_of p stack t IsHit)
  hit_turned None c m' adm reached backs = taken None c m' adm (λ d a l. refl) reached backs
  hit_turned (Some b) c m' adm reached backs =
      if_cases (λ (v : Option (List ℕ)). Backs p v c m' → Turned p (Some b) stack t c m' (way_of p stack t IsHit)) (score_below (score_of p (upward (t ∷ stack))) (score_of p b)) (Some (upward (t ∷ stack))) (Some b)
      (λ e. taken (Some b) c m' adm (λ d a l. inr (refl, a, at_most_below (score_of p d) (score_of p (upward (t ∷ stack))) (score_of p b) l (score_yes (score_of p (upward (t ∷ stack))) (score_of p b) e))) reached)
      (λ e. stays b c m' (score_no (score_of p (upward (t ∷ stack))) (score_of p b) e) reached)
      backs

  -- the other rules keep the best
  same_best : (best : Option (List ℕ)) (c : Option (List ℕ)) (m : Bool) (w : Way) → Backs p best c m → Follows p c (open_at (upward (t ∷ stack)) (t + 1) m) w m → Turned p best stack t c m w
  same_best best c m w backs follows = record { met = m; backs = backs; follows = follows }

  far_without : (b : ℕ) → t + 1 < length p.items → (item_at p.items t).weight ≤ least_weight p (t + 1) → b < weight_of p (upward (t ∷ stack)) → b < weight_of p (upward stack) + needed (p.lo - value_of p (upward stack)) (item_at p.items (t + 1)).value * least_weight p (t + 1)
  far_without b below least h =
      let item : IsItem (item_at p.items (t + 1)) = item_is p (t + 1) is below in
      let some : 0 < needed (p.lo - value_of p (upward stack)) (item_at p.items (t + 1)).value = needed_some (p.lo - value_of p (upward stack)) (item_at p.items (t + 1)).value (omega (arith, ready.low)) (omega (arith, item.value)) in
      let one : 1 * least_weight p (t + 1) ≤ needed (p.lo - value_of p (upward stack)) (item_at p.items (t + 1)).value * least_weight p (t + 1) = mul-le-mul_right (least_weight p (t + 1)) some in
      omega (arith, h, least, one, weight_with p stack t)

  worse_follows : (k : Kind) (best : Option (List ℕ)) (c : Option (List ℕ)) (m : Bool) → p.kind ≡ k → is_worse k p best (upward (t ∷ stack)) ≡ true → Backs p best c m → Follows p c (open_at (upward (t ∷ stack)) (t + 1) m) (worse_way k p stack t) m
  worse_follows k None c m kind e backs = absurd (cc)
  worse_follows Changeless (Some b) c m kind e backs =
      let q = upward (t ∷ stack) in
      let both = and_parts (no_negative p) (int_le (score_by Changeless p b).first (cost_of p q +ℤ pos (value_of p q - p.lo))) e in
      closes_with p c m m stack t Worse (shift p stack t) (worse_closes p b c m q (t + 1) kind (no_negative_is p both.0) (int_le_true (score_by Changeless p b).first (cost_of p q +ℤ pos (value_of p q - p.lo)) both.1) backs) refl (shifts c m)
  worse_follows Lean (Some b) c m kind e backs =
      let q = upward (t ∷ stack) in
      let heavier : weight_of p b < weight_of p q = lt_yes (weight_of p b) (weight_of p q) e in
      closes_with p c m m stack t Heavier (cut_or_shift p stack t Far) (kind, lighter_than p b c m (weight_of p q) kind backs heavier) refl
      (cut_or_shift_follows p c m stack t Far ready refl (λ below least.
      (kind, ready.low, below, lighter_than p b c m (weight_of p (upward stack) + needed (p.lo - value_of p (upward stack)) (item_at p.items (t + 1)).value * least_weight p (t + 1)) kind backs (far_without (weight_of p b) below least heavier))))

  far_follows : (k : Kind) (best : Option (List ℕ)) (c : Option (List ℕ)) (m : Bool) → p.kind ≡ k → value_of p (upward (t ∷ stack)) < p.lo → t + 1 < length p.items → is_far k p best (upward (t ∷ stack)) t ≡ true → Backs p best c m → Follows p c (open_at (upward (t ∷ stack)) (t + 1) m) (way_of p stack t IsFar) m
  far_follows Changeless best c m kind low below e backs = absurd (cc)
  far_follows Lean None c m kind low below e backs = absurd (cc)
  far_follows Lean (Some b) c m kind low below e backs =
      let q = upward (t ∷ stack) in
      let least = least_weight p (t + 1) in
      let v = (item_at p.items t).value in
      let v' = (item_at p.items (t + 1)).value in
      let item : IsItem (item_at p.items (t + 1)) = item_is p (t + 1) is below in
      let falls : v' ≤ v = value-falls p is t (t + 1) (omega arith) below in
      let far : weight_of p b < weight_of p q + needed (p.lo - value_of p q) v * least = lt_yes (weight_of p b) (weight_of p q + needed (p.lo - value_of p q) v * least) e in
      let here : needed (p.lo - value_of p q) v * least ≤ needed (p.lo - value_of p q) v' * least = mul-le-mul_right least (needed_falls (p.lo - value_of p q) v v' (omega (arith, item.value)) falls) in
      let gap : p.lo - value_of p q + v ≡ p.lo - value_of p (upward stack) = omega (arith, low, value_with p stack t) in
      let more : needed (p.lo - value_of p q) v + 1 ≤ needed (p.lo - value_of p (upward stack)) v' =
      subst (λ (n : ℕ). needed (p.lo - value_of p q) v + 1 ≤ needed n v') gap (needed_more (p.lo - value_of p q) v v' (omega (arith, item.value)) falls) in
      let there : (needed (p.lo - value_of p q) v + 1) * least ≤ needed (p.lo - value_of p (upward stack)) v' * least = mul-le-mul_right least more in
      closes_with p c m m stack t Far (cut_or_shift p stack t Far) (kind, low, below, lighter_than p b c m (weight_of p q + needed (p.lo - value_of p q) v' * least) kind backs (omega (arith, far, here))) refl
      (cut_or_shift_follows p c m stack t Far ready refl (λ below' light.
      (kind, ready.low, below', lighter_than p b c m (weight_of p (upward stack) + needed (p.lo - value_of p (upward stack)) v' * least) kind backs (omega (arith, far, there, light, weight_with p stack t)))))

  -- the rules from the last on
  abbrev far_rule : Option (List ℕ) → Rule
  far_rule best = if is_far p.kind p best (upward (t ∷ stack)) t then IsFar else GoesOn

  abbrev hit_rule : Option (List ℕ) → Rule
  hit_rule best = if nat_le p.lo (value_of p (upward (t ∷ stack))) then IsHit else far_rule best

  abbrev worse_rule : Option (List ℕ) → Rule
  worse_rule best = if is_worse p.kind p best (upward (t ∷ stack)) then IsWorse else hit_rule best

  abbrev heavy_rule : Option (List ℕ) → Rule
  heavy_rule best = if nat_lt p.most_weight (weight_of p (upward (t ∷ stack))) then IsHeavy else worse_rule best

  abbrev over_rule : Option (List ℕ) → Rule
  over_rule best = if is_over p.kind p (upward (t ∷ stack)) then IsOver else heavy_rule best

  abbrev Does : Option (List ℕ) → Option (List ℕ) → Bool → Rule → Type 0
  Does best c m' r = Backs p (best_of p best (upward (t ∷ stack)) r) c m' → Turned p best stack t c m' (way_of p stack t r)

  -- whichever rule is the first that applies
  pub ruled : (best : Option (List ℕ)) (c : Option (List ℕ)) (m' : Bool) → Does best c m' (rule p best (upward (t ∷ stack)) t)
  ruled best c m' =
      let q = upward (t ∷ stack) in
      if_cases (Does best c m') (nat_lt (value_of p q + later_value p (t + 1)) p.lo) IsShort (over_rule best)
      (λ e backs. same_best best c m' (way_of p stack t IsShort) backs (short_follows p c m' stack t ready (lt_yes (value_of p q + later_value p (t + 1)) p.lo e)))
      (λ enough. if_cases (Does best c m') (is_over p.kind p q) IsOver (heavy_rule best)
      (λ e backs. same_best best c m' (way_of p stack t IsOver) backs (over_hi_follows p c m' stack t ready e))
      (λ under. if_cases (Does best c m') (nat_lt p.most_weight (weight_of p q)) IsHeavy (worse_rule best)
      (λ e backs. same_best best c m' (way_of p stack t IsHeavy) backs (heavy_follows p c m' stack t ready (lt_yes p.most_weight (weight_of p q) e)))
      (λ light. if_cases (Does best c m') (is_worse p.kind p best q) IsWorse (hit_rule best)
      (λ e backs. same_best best c m' (way_of p stack t IsWorse) backs (worse_follows p.kind best c m' refl e backs))
      (λ better_so. if_cases (Does best c m') (nat_le p.lo (value_of p q)) IsHit (far_rule best)
      (λ e backs. hit_turned best c m' (hit under (lt_no p.most_weight (weight_of p q) light) (le_yes p.lo (value_of p q) e)) (le_yes p.lo (value_of p q) e) backs)
      (λ low. if_cases (Does best c m') (is_far p.kind p best q t) IsFar GoesOn
      (λ e backs. same_best best c m' (way_of p stack t IsFar) backs (far_follows p.kind best c m' refl (le_no p.lo (value_of p q) low) (place_left p t q (lt_no (value_of p q + later_value p (t + 1)) p.lo enough) (le_no p.lo (value_of p q) low)) e backs))
      (λ e backs. same_best best c m' (way_of p stack t GoesOn) backs (on_follows p c m' stack t ready (lt_no (value_of p q + later_value p (t + 1)) p.lo enough) (le_no p.lo (value_of p q) low) (lt_no p.most_weight (weight_of p q) light))))))))

  -- where a hit is the rule, it is admissible
  pub hit_is_admissible : (best : Option (List ℕ)) → rule p best (upward (t ∷ stack)) t ≡ IsHit → IsAdmissible p (upward (t ∷ stack))
  hit_is_admissible best =
      let q = upward (t ∷ stack) in
      if_cases (λ (r : Rule). r ≡ IsHit → IsAdmissible p (upward (t ∷ stack))) (nat_lt (value_of p q + later_value p (t + 1)) p.lo) IsShort (over_rule best) (λ e x. absurd (cc))
      (λ enough. if_cases (λ (r : Rule). r ≡ IsHit → IsAdmissible p (upward (t ∷ stack))) (is_over p.kind p q) IsOver (heavy_rule best) (λ e x. absurd (cc))
      (λ under. if_cases (λ (r : Rule). r ≡ IsHit → IsAdmissible p (upward (t ∷ stack))) (nat_lt p.most_weight (weight_of p q)) IsHeavy (worse_rule best) (λ e x. absurd (cc))
      (λ light. if_cases (λ (r : Rule). r ≡ IsHit → IsAdmissible p (upward (t ∷ stack))) (is_worse p.kind p best q) IsWorse (hit_rule best) (λ e x. absurd (cc))
      (λ better_so. if_cases (λ (r : Rule). r ≡ IsHit → IsAdmissible p (upward (t ∷ stack))) (nat_le p.lo (value_of p q)) IsHit (far_rule best)
      (λ e x. hit under (lt_no p.most_weight (weight_of p q) light) (le_yes p.lo (value_of p q) e))
      (λ low. if_cases (λ (r : Rule). r ≡ IsHit → IsAdmissible p (upward (t ∷ stack))) (is_far p.kind p best q t) IsFar GoesOn (λ e x. absurd (cc)) (λ e x. absurd (cc)))))))

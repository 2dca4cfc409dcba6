-- The tokens of a walk are allowed for its best, and for each answer that wastes less and isn't met yet.
use Rattle.std.specs.Prelude.{◌≡◌, ℕ, ◌+◌, ◌<◌, ◌≤◌, ◌⊎◌, ◌||◌, Bool, true, false, List, [], ◌∷◌, length, ℤ, ◌<ℤ◌, ◌≤ℤ◌, int_lt, Option, Some, None, bytes_eq, if◌then◌else◌, nat_lt, nat_le}
use Rattle.std.proofs.Common.{arith, refl, sym, ap, subst, inl, inr, ◌∙◌, length-append}
use Rattle.std.proofs.lemmas.Int.{ints}
use Rattle.fund_base.proofs.Lists.{same_bytes, int_le_true}
use Rattle.pick_problem.specs.Problem.{PlainProblem, value_of, weight_of}
use Rattle.pick_problem.specs.Later.{later_value}
use Rattle.pick_problem.specs.Steps.{IsAbove}
use Rattle.pick_problem.specs.Walk.{upward}
use Rattle.pick_problem.proofs.Deciding.{if_cases, lt_yes, lt_no, le_yes, le_no, zlt_yes, zlt_no, cases_z, other_test}
use Rattle.pick_problem.proofs.RisingLaws.{Rising-push}
use Rattle.wide_check.specs.declared.token.WideReason.TheVariants.{Over, Heavy, Wasteful}
use Rattle.wide_check.specs.declared.token.WideToken.TheVariants.{Mark}
use Rattle.wide_check.specs.Wide.{IsWide, waste_of}
use Rattle.wide_check.specs.WideSteps.{Closes, IsDue, IsNoBetterThan, least_waste}
use Rattle.wide_check.proofs.WideTreeSteps.{open_at}
use Rattle.wide_search.specs.WideWalk.{Way, Ready, Rule, IsShort, IsOver, IsHeavy, IsWasteful, IsHit, GoesOn, going, is_wasteful, better, rule, way_of, best_of}
use Rattle.wide_search.proofs.FollowLaws.{Follows, going_follows, nothing_due, short_follows, shuts_with, writes_follows}

-- the answers for which the steps of a walk with this best were allowed, each with whether it is met
abbrev pub Backs : PlainProblem → Option (List ℕ) → Option (List ℕ) → Bool → Type 0
Backs p None c m = m ≡ false
Backs p (Some b) None m = ⊥
Backs p (Some b) (Some d) m = ((d ≡ b) × (m ≡ true)) ⊎ ((m ≡ false) × (waste_of p d <ℤ waste_of p b))

-- from what backs the new best: what backs the old one, for which the steps of the way are allowed
pub record Turned (p : PlainProblem) (best : Option (List ℕ)) (stack : List ℕ) (t : ℕ) (c : Option (List ℕ)) (m' : Bool) (w : Way) : Type 0 where
  pub met : Bool
  pub backs : Backs p best c met
  pub follows : Follows p c (open_at (upward (t ∷ stack)) (t + 1) true met) w m'

above_from : (p : PlainProblem) (b d : List ℕ) (m : Bool) (x : ℤ) → waste_of p b ≤ℤ x → Backs p (Some b) (Some d) m → IsAbove m x (waste_of p d)
above_from p b d m x le backs =
    elim backs [
      | inl e ↦
          let same : waste_of p d ≡ waste_of p b = ap (waste_of p) e.0 in
          elim (cases_z (waste_of p b) x) [
            | inl l ↦ inl (omega (arith, ints, l, same))
            | inr k ↦
                elim k [
                  | inl same_x ↦ inr (omega (arith, ints, same_x, same), e.1)
                  | inr g ↦ absurd (omega (arith, ints, g, le))
                ]
          ]
      | inr e ↦ inl (omega (arith, ints, e.1, le))
    ]

wasteful_closes : (p : PlainProblem) (b : List ℕ) (c : Option (List ℕ)) (m : Bool) (q : List ℕ) (t : ℕ) → waste_of p b ≤ℤ least_waste p q t → Backs p (Some b) c m → Closes p c m q t Wasteful
wasteful_closes p b None m q t le backs = absurd backs
wasteful_closes p b (Some d) m q t le backs = above_from p b d m (least_waste p q t) le backs

module _ (p : PlainProblem) (stack : List ℕ) (t : ℕ) (ready : Ready p stack t) where
  -- a list that reaches lo, and is neither over nor heavy, is a selection
  wide : value_of p (upward (t ∷ stack)) ≤ p.hi → weight_of p (upward (t ∷ stack)) ≤ p.most_weight → p.lo ≤ value_of p (upward (t ∷ stack)) → IsWide p (upward (t ∷ stack))
  wide under light reached =
      record {
        some = omega (arith, length-append (upward stack) (t ∷ []));
        rising = Rising-push (length p.items) 0 t (upward stack) (omega arith) ready.next ready.rises;
        reaches = reached;
        under = under;
        light = light;
      }

  -- B at a list that is the answer, or no better than it
  hit_for : (d : List ℕ) (m m' : Bool) → IsWide p (upward (t ∷ stack)) → IsNoBetterThan p m (upward (t ∷ stack)) d → (m || bytes_eq (upward (t ∷ stack)) d) ≡ m' → Follows p (Some d) (open_at (upward (t ∷ stack)) (t + 1) true m) (way_of p stack t IsHit) m'
  hit_for d m m' good worse met =
      let on : Follows p (Some d) (open_at (upward (t ∷ stack)) (t + 1) false m') (going p stack t) m' =
      going_follows p (Some d) m' false stack t ready (nothing_due p (upward (t ∷ stack))) good.under good.light in
      writes_follows p (Some d) (open_at (upward (t ∷ stack)) (t + 1) true m) Mark (going p stack t) m' (refl, record { suits = (refl, good); stands = worse })
      (subst (λ (b : Bool). Follows p (Some d) (open_at (upward (t ∷ stack)) (t + 1) false b) (going p stack t) m') (sym met) on)

  other_waste : (d : List ℕ) → waste_of p d <ℤ waste_of p (upward (t ∷ stack)) → upward (t ∷ stack) ≡ d → ⊥
  other_waste d l e = let same : waste_of p (upward (t ∷ stack)) ≡ waste_of p d = ap (waste_of p) e in omega (arith, ints, l, same)

  -- B at a list that wastes more than an answer that isn't met
  worse_for : (d : List ℕ) (m' : Bool) → IsWide p (upward (t ∷ stack)) → waste_of p d <ℤ waste_of p (upward (t ∷ stack)) → m' ≡ false → Follows p (Some d) (open_at (upward (t ∷ stack)) (t + 1) true false) (way_of p stack t IsHit) m'
  worse_for d m' good l e = hit_for d false m' good (inr (inl l)) (other_test (upward (t ∷ stack)) d (other_waste d l) ∙ sym e)

  -- the hit becomes the best
  taken : (best : Option (List ℕ)) (c : Option (List ℕ)) (m' : Bool) → IsWide p (upward (t ∷ stack)) → ((d : List ℕ) → waste_of p d ≤ℤ waste_of p (upward (t ∷ stack)) → Backs p best (Some d) false) → Backs p (Some (upward (t ∷ stack))) c m' → Turned p best stack t c m' (way_of p stack t IsHit)
  taken best None m' good old backs = absurd backs
  taken best (Some d) m' good old backs =
      elim backs [
        | inl e ↦
            let same : waste_of p d ≡ waste_of p (upward (t ∷ stack)) = ap (waste_of p) e.0 in
            record {
              met = false;
              backs = old d (omega (arith, ints, same));
              follows = hit_for d false m' good (inl (sym e.0)) (same_bytes (upward (t ∷ stack)) d (sym e.0) ∙ sym e.1);
            }
        | inr e ↦ record { met = false; backs = old d (omega (arith, ints, e.1)); follows = worse_for d m' good e.1 e.0 }
      ]

  -- the best stays
  stays : (b : List ℕ) (c : Option (List ℕ)) (m' : Bool) → IsWide p (upward (t ∷ stack)) → waste_of p b ≤ℤ waste_of p (upward (t ∷ stack)) → Backs p (Some b) c m' → Turned p (Some b) stack t c m' (way_of p stack t IsHit)
  stays b None m' good most backs = absurd backs
  stays b (Some d) m' good most backs =
      elim backs [
        | inl e ↦
            record {
              met = true;
              backs = inl (e.0, refl);
              follows = hit_for d true m' good (inr (above_from p b d true (waste_of p (upward (t ∷ stack))) most (inl (e.0, refl)))) (sym e.1);
            }
        | inr e ↦
            let less : waste_of p d <ℤ waste_of p (upward (t ∷ stack)) = omega (arith, ints, e.1, most) in
            record { met = false; backs = inr (refl, e.1); follows = worse_for d m' good less e.0 }
      ]

  hit_turned : (best : Option (List ℕ)) (c : Option (List ℕ)) (m' : Bool) → IsWide p (upward (t ∷ stack)) → Backs p (better p best (upward (t ∷ stack))) c m' → Turned p best stack t c m' (way_of p stack t IsHit)
  hit_turned None c m' good backs = taken None c m' good (λ d l. refl) backs
  hit_turned (Some b) c m' good backs =
      let q : List ℕ = upward (t ∷ stack) in
      if_cases (λ (v : Option (List ℕ)). Backs p v c m' → Turned p (Some b) stack t c m' (way_of p stack t IsHit)) (int_lt (waste_of p q) (waste_of p b)) (Some q) (Some b)
      (λ e. taken (Some b) c m' good (λ d l. inr (refl, omega (arith, ints, l, zlt_yes (waste_of p q) (waste_of p b) e))))
      (λ e. stays b c m' good (zlt_no (waste_of p q) (waste_of p b) e))
      backs

  -- the other rules keep the best
  same_best : (best : Option (List ℕ)) (c : Option (List ℕ)) (m : Bool) (w : Way) → Backs p best c m → Follows p c (open_at (upward (t ∷ stack)) (t + 1) true m) w m → Turned p best stack t c m w
  same_best best c m w backs follows = record { met = m; backs = backs; follows = follows }

  wasteful_follows : (best : Option (List ℕ)) (c : Option (List ℕ)) (m : Bool) → is_wasteful p best (upward (t ∷ stack)) (t + 1) ≡ true → Backs p best c m → Follows p c (open_at (upward (t ∷ stack)) (t + 1) true m) (way_of p stack t IsWasteful) m
  wasteful_follows None c m e backs = absurd (cc)
  wasteful_follows (Some b) c m e backs =
      let q : List ℕ = upward (t ∷ stack) in
      let closes : Closes p c m q (t + 1) Wasteful = wasteful_closes p b c m q (t + 1) (int_le_true (waste_of p b) (least_waste p q (t + 1)) e) backs in
      shuts_with p c m true stack t Wasteful ready record { suits = tt; stands = closes }

  over_follows : (c : Option (List ℕ)) (m : Bool) → p.hi < value_of p (upward (t ∷ stack)) → Follows p c (open_at (upward (t ∷ stack)) (t + 1) true m) (way_of p stack t IsOver) m
  over_follows c m h =
      let over : ¬ IsDue p true (upward (t ∷ stack)) = λ d. let good : IsWide p (upward (t ∷ stack)) = d.1 in omega (arith, h, good.under) in
      shuts_with p c m true stack t Over ready record { suits = over; stands = h }

  heavy_follows : (c : Option (List ℕ)) (m : Bool) → p.most_weight < weight_of p (upward (t ∷ stack)) → Follows p c (open_at (upward (t ∷ stack)) (t + 1) true m) (way_of p stack t IsHeavy) m
  heavy_follows c m h =
      let heavy : ¬ IsDue p true (upward (t ∷ stack)) = λ d. let good : IsWide p (upward (t ∷ stack)) = d.1 in omega (arith, h, good.light) in
      shuts_with p c m true stack t Heavy ready record { suits = heavy; stands = h }

  on_follows : (c : Option (List ℕ)) (m : Bool) → value_of p (upward (t ∷ stack)) < p.lo → value_of p (upward (t ∷ stack)) ≤ p.hi → weight_of p (upward (t ∷ stack)) ≤ p.most_weight → Follows p c (open_at (upward (t ∷ stack)) (t + 1) true m) (way_of p stack t GoesOn) m
  on_follows c m low under light =
      let below : ¬ IsDue p true (upward (t ∷ stack)) = λ d. let good : IsWide p (upward (t ∷ stack)) = d.1 in omega (arith, low, good.reaches) in
      going_follows p c m true stack t ready below under light

  -- the rules from the last on
  abbrev hit_rule : Rule
  hit_rule = if nat_le p.lo (value_of p (upward (t ∷ stack))) then IsHit else GoesOn

  abbrev wasteful_rule : Option (List ℕ) → Rule
  wasteful_rule best = if is_wasteful p best (upward (t ∷ stack)) (t + 1) then IsWasteful else hit_rule

  abbrev heavy_rule : Option (List ℕ) → Rule
  heavy_rule best = if nat_lt p.most_weight (weight_of p (upward (t ∷ stack))) then IsHeavy else wasteful_rule best

  abbrev over_rule : Option (List ℕ) → Rule
  over_rule best = if nat_lt p.hi (value_of p (upward (t ∷ stack))) then IsOver else heavy_rule best

  abbrev Does : Option (List ℕ) → Option (List ℕ) → Bool → Rule → Type 0
  Does best c m' r = Backs p (best_of p best (upward (t ∷ stack)) r) c m' → Turned p best stack t c m' (way_of p stack t r)

  -- whichever rule is the first that applies
  pub ruled : (best : Option (List ℕ)) (c : Option (List ℕ)) (m' : Bool) → Does best c m' (rule p best (upward (t ∷ stack)) t)
  ruled best c m' =
      let q : List ℕ = upward (t ∷ stack) in
      if_cases (Does best c m') (nat_lt (value_of p q + later_value p (t + 1)) p.lo) IsShort (over_rule best)
      (λ e backs. same_best best c m' (way_of p stack t IsShort) backs (short_follows p c m' stack t ready (lt_yes (value_of p q + later_value p (t + 1)) p.lo e)))
      (λ enough. if_cases (Does best c m') (nat_lt p.hi (value_of p q)) IsOver (heavy_rule best)
      (λ e backs. same_best best c m' (way_of p stack t IsOver) backs (over_follows c m' (lt_yes p.hi (value_of p q) e)))
      (λ under. if_cases (Does best c m') (nat_lt p.most_weight (weight_of p q)) IsHeavy (wasteful_rule best)
      (λ e backs. same_best best c m' (way_of p stack t IsHeavy) backs (heavy_follows c m' (lt_yes p.most_weight (weight_of p q) e)))
      (λ light. if_cases (Does best c m') (is_wasteful p best q (t + 1)) IsWasteful hit_rule
      (λ e backs. same_best best c m' (way_of p stack t IsWasteful) backs (wasteful_follows best c m' e backs))
      (λ saves. if_cases (Does best c m') (nat_le p.lo (value_of p q)) IsHit GoesOn
      (λ e backs. hit_turned best c m' (wide (lt_no p.hi (value_of p q) under) (lt_no p.most_weight (weight_of p q) light) (le_yes p.lo (value_of p q) e)) backs)
      (λ e backs. same_best best c m' (way_of p stack t GoesOn) backs (on_follows c m' (le_no p.lo (value_of p q) e) (lt_no p.hi (value_of p q) under) (lt_no p.most_weight (weight_of p q) light)))))))

  -- where a hit is the rule, it is a selection
  pub hit_is_wide : (best : Option (List ℕ)) → rule p best (upward (t ∷ stack)) t ≡ IsHit → IsWide p (upward (t ∷ stack))
  hit_is_wide best =
      let q : List ℕ = upward (t ∷ stack) in
      if_cases (λ (r : Rule). r ≡ IsHit → IsWide p (upward (t ∷ stack))) (nat_lt (value_of p q + later_value p (t + 1)) p.lo) IsShort (over_rule best) (λ e x. absurd (cc))
      (λ enough. if_cases (λ (r : Rule). r ≡ IsHit → IsWide p (upward (t ∷ stack))) (nat_lt p.hi (value_of p q)) IsOver (heavy_rule best) (λ e x. absurd (cc))
      (λ under. if_cases (λ (r : Rule). r ≡ IsHit → IsWide p (upward (t ∷ stack))) (nat_lt p.most_weight (weight_of p q)) IsHeavy (wasteful_rule best) (λ e x. absurd (cc))
      (λ light. if_cases (λ (r : Rule). r ≡ IsHit → IsWide p (upward (t ∷ stack))) (is_wasteful p best q (t + 1)) IsWasteful hit_rule (λ e x. absurd (cc))
      (λ saves. if_cases (λ (r : Rule). r ≡ IsHit → IsWide p (upward (t ∷ stack))) (nat_le p.lo (value_of p q)) IsHit GoesOn
      (λ e x. wide (lt_no p.hi (value_of p q) under) (lt_no p.most_weight (weight_of p q) light) (le_yes p.lo (value_of p q) e))
      (λ e x. absurd (cc))))))

-- A branch that is closed has only lists that the answer beats.
use Rattle.std.specs.Prelude.{◌≡◌, ℕ, ◌+◌, ◌<◌, Bool, true, false, List, [], ◌∷◌, ◌++◌, length, ◌+ℤ◌, ◌≤ℤ◌, Option, Some, None}
use Rattle.std.proofs.Common.{arith, refl, ap, subst, inl, inr, ◌∙◌}
use Rattle.std.proofs.lemmas.Int.{ints}
use Rattle.std.proofs.lemmas.List.{append-nil}
use Rattle.pick_problem.specs.Later.{later_value}
use Rattle.pick_problem.specs.Problem.{PlainProblem, Rising, value_of, weight_of, cost_of}
use Rattle.pick_problem.specs.Steps.{IsAbove}
use Rattle.pick_problem.proofs.Deciding.{cases_z}
use Rattle.pick_problem.proofs.RisingLaws.{Rising-value}
use Rattle.pick_problem.proofs.SumLaws.{value-append, weight-append, cost-append}
use Rattle.wide_check.specs.declared.token.WideReason.{WideReason}
use Rattle.wide_check.specs.declared.token.WideReason.TheVariants.{Short, Over, Heavy, Wasteful, Ended}
use Rattle.wide_check.specs.declared.token.WideToken.TheVariants.{Close}
use Rattle.wide_check.specs.Wide.{IsWide, is_met_before, waste_of}
use Rattle.wide_check.specs.WideSoFar.{ComesAfter, IsBeaten}
use Rattle.wide_check.specs.WideSteps.{Closes, IsDue, Suits, least_waste, savings}
use Rattle.wide_check.proofs.SavingLaws.{Rising-saves}
use Rattle.wide_check.proofs.WideOpenLaws.{Extends}

none_behind : (n : ℕ) (more : List ℕ) → Rising n n more → more ≡ []
none_behind n [] h = refl
none_behind n (j ∷ more) h = absurd (omega (arith, h.0, h.1))

entered_cases : (entered : Bool) (P : Type 0) → (entered ≡ true → P) → (entered ≡ false → P) → P
entered_cases true P f g = f refl
entered_cases false P f g = g refl

module _ (p : PlainProblem) (entered : Bool) (chosen : List ℕ) (t : ℕ) (q : List ℕ) (x : Extends (length p.items) entered chosen t q) (good : IsWide p q) where
  value_is : value_of p q ≡ value_of p chosen + value_of p x.more
  value_is = ap (value_of p) x.is ∙ value-append p chosen x.more

  weight_is : weight_of p q ≡ weight_of p chosen + weight_of p x.more
  weight_is = ap (weight_of p) x.is ∙ weight-append p chosen x.more

  cost_is : cost_of p q ≡ cost_of p chosen +ℤ cost_of p x.more
  cost_is = ap (cost_of p) x.is ∙ cost-append p chosen x.more

  not_short : value_of p chosen + later_value p t < p.lo → ⊥
  not_short h = omega (arith, value_is, good.reaches, Rising-value p t x.more x.rising)

  not_over : p.hi < value_of p chosen → ⊥
  not_over h = omega (arith, value_is, good.under)

  not_heavy : p.most_weight < weight_of p chosen → ⊥
  not_heavy h = omega (arith, weight_is, good.light)

  -- at the last place nothing is below the node but what was just entered
  not_ended : (¬ IsDue p entered chosen) → t ≡ length p.items → ⊥
  not_ended nothing_due e =
      let rises : Rising (length p.items) (length p.items) x.more = subst (λ (k : ℕ). Rising (length p.items) k x.more) e x.rising in
      let none : x.more ≡ [] = none_behind (length p.items) x.more rises in
      let same : q ≡ chosen = x.is ∙ (ap (λ (m : List ℕ). chosen ++ m) none ∙ append-nil chosen) in
      entered_cases entered ⊥
      (λ was. nothing_due (was, subst (IsWide p) same good))
      (λ not. let some : 0 < length x.more = x.some not in omega (arith, some, ap (λ (m : List ℕ). length m) none))

  -- whatever is added wastes no less than the node's least
  wastes : least_waste p chosen t ≤ℤ waste_of p q
  wastes =
      let saved : savings p t ≤ℤ cost_of p x.more = Rising-saves p t x.more x.rising in
      omega (arith, ints, saved, value_is, cost_is, good.reaches)

  wastes_more : (best : List ℕ) (met : Bool) → (met ≡ true → is_met_before best q ≡ true) → IsAbove met (least_waste p chosen t) (waste_of p best) → IsBeaten p (Some best) met q
  wastes_more best met later above =
      elim above [
        | inl l ↦ inl (omega (arith, ints, l, wastes))
        | inr e ↦
            elim (cases_z (waste_of p best) (waste_of p q)) [
              | inl l ↦ inl l
              | inr k ↦
                  elim k [
                    | inl same ↦ inr (e.1, same, inr (later e.1))
                    | inr g ↦ absurd (omega (arith, ints, e.0, wastes, g))
                  ]
            ]
      ]

  -- whatever the reason, the answer beats the list
  pub closed_beaten : (a : Option (List ℕ)) (met : Bool) (reason : WideReason) → (met ≡ true → ComesAfter a q) → Suits p entered chosen (Close reason) → Closes p a met chosen t reason → IsBeaten p a met q
  closed_beaten a met Short later suits h = absurd (not_short h)
  closed_beaten a met Over later suits h = absurd (not_over h)
  closed_beaten a met Heavy later suits h = absurd (not_heavy h)
  closed_beaten None met Wasteful later suits h = absurd h
  closed_beaten (Some best) met Wasteful later suits h = wastes_more best met later h
  closed_beaten a met Ended later suits h = absurd (not_ended suits h)

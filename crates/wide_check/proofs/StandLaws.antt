-- What is allowed at a node and what isn't there, by what is known of it.
use Rattle.std.specs.Prelude.{◌≡◌, ℕ, ◌<◌, ◌≤◌, ◌||◌, Bool, true, false, List, length, Option, Some, None, IsSomeAnd}
use Rattle.std.proofs.Common.{arith, refl}
use Rattle.pick_problem.specs.Problem.{PlainProblem}
use Rattle.pick_problem.specs.Steps.{met_at}
use Rattle.wide_check.specs.declared.token.WideReason.{WideReason}
use Rattle.wide_check.specs.declared.token.WideToken.TheVariants.{Enter, Pass, Mark, Close}
use Rattle.wide_check.specs.Reads.{is_answer}
use Rattle.wide_check.specs.WideSteps.{Closes, IsAllowedAt, IsDue, IsNoBetterThan, StandsAt, Suits}

or_false : (b : Bool) → b ≡ (b || false)
or_false true = refl
or_false false = refl

pub met_is : (a : Option (List ℕ)) (met : Bool) (q : List ℕ) → met_at a met q ≡ (met || is_answer a q)
met_is None met q = or_false met
met_is (Some best) met q = refl

module _ (p : PlainProblem) (a : Option (List ℕ)) (entered met : Bool) (chosen : List ℕ) (t : ℕ) where
  pub enter_allowed : t < length p.items → (¬ IsDue p entered chosen) → IsAllowedAt p a entered met chosen t Enter
  enter_allowed below nothing_due = record { suits = nothing_due; stands = below }

  pub enter_last : length p.items ≤ t → ¬ IsAllowedAt p a entered met chosen t Enter
  enter_last last = λ m. omega (arith, last, m.stands)

  pub enter_due : IsDue p entered chosen → ¬ IsAllowedAt p a entered met chosen t Enter
  enter_due due = λ m. m.suits due

  pub pass_allowed : StandsAt p a met chosen t Pass → (¬ IsDue p entered chosen) → IsAllowedAt p a entered met chosen t Pass
  pass_allowed stands nothing_due = record { suits = nothing_due; stands = stands }

  pub pass_not : (¬ StandsAt p a met chosen t Pass) → ¬ IsAllowedAt p a entered met chosen t Pass
  pass_not other = λ m. other m.stands

  pub pass_due : IsDue p entered chosen → ¬ IsAllowedAt p a entered met chosen t Pass
  pass_due due = λ m. m.suits due

  pub mark_allowed : IsDue p entered chosen → IsSomeAnd a (λ best. IsNoBetterThan p met chosen best) →
      IsAllowedAt p a entered met chosen t Mark
  mark_allowed due no_better = record { suits = due; stands = no_better }

  pub mark_not_due : (¬ IsDue p entered chosen) → ¬ IsAllowedAt p a entered met chosen t Mark
  mark_not_due nothing_due = λ m. nothing_due m.suits

  pub mark_better : (¬ IsSomeAnd a (λ best. IsNoBetterThan p met chosen best)) → ¬ IsAllowedAt p a entered met chosen t Mark
  mark_better better = λ m. better m.stands

  pub close_allowed : (reason : WideReason) → Suits p entered chosen (Close reason) → Closes p a met chosen t reason →
      IsAllowedAt p a entered met chosen t (Close reason)
  close_allowed reason suits closes = record { suits = suits; stands = closes }

  pub close_no_suit : (reason : WideReason) → (¬ Suits p entered chosen (Close reason)) →
      ¬ IsAllowedAt p a entered met chosen t (Close reason)
  close_no_suit reason other = λ m. other m.suits

  pub close_not : (reason : WideReason) → (¬ Closes p a met chosen t reason) →
      ¬ IsAllowedAt p a entered met chosen t (Close reason)
  close_not reason other = λ m. other m.stands

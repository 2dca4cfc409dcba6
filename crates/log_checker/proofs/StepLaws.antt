-- What a step does to whether the answer is met, and which tokens are false.
use Rattle.std.specs.Prelude.{◌≡◌, ◌≢◌, ℕ, ◌||◌, Bool, true, false, List, Option, Some, None}
use Rattle.std.proofs.Common.{refl}
use Rattle.pick_problem.specs.declared.token.Reason.{Reason}
use Rattle.pick_problem.specs.declared.token.Reason.TheVariants.{Short, Over, Heavy, NoRoom, Worse, Heavier, Far, Hit}
use Rattle.pick_problem.specs.declared.token.Token.TheVariants.{Close}
use Rattle.pick_problem.specs.Problem.{PlainProblem}
use Rattle.pick_problem.specs.Steps.{State, Closes, met_at, met_behind}
use Rattle.log_checker.specs.Feeding.{IsFalse}
use Rattle.log_checker.specs.Reads.{is_answer}

or_false : (b : Bool) → b ≡ (b || false)
or_false true = refl
or_false false = refl

pub met_is : (a : Option (List ℕ)) (met : Bool) (q : List ℕ) → met_at a met q ≡ (met || is_answer a q)
met_is None met q = or_false met
met_is (Some best) met q = refl

-- only a hit meets the answer
pub met_stays : (a : Option (List ℕ)) (met : Bool) (q : List ℕ) (reason : Reason) → reason ≢ Hit →
    met_behind a met q reason ≡ met
met_stays a met q Short other = refl
met_stays a met q Over other = refl
met_stays a met q Heavy other = refl
met_stays a met q NoRoom other = refl
met_stays a met q Worse other = refl
met_stays a met q Heavier other = refl
met_stays a met q Far other = refl
met_stays a met q Hit other = absurd (other refl)

pub false_reason : (p : PlainProblem) (a : Option (List ℕ)) (s : State) (reason : Reason) → reason ≢ Hit →
    (¬ Closes p a s.met s.chosen s.next reason) → IsFalse p a s (Close reason)
false_reason p a s Short other no_close = no_close
false_reason p a s Over other no_close = no_close
false_reason p a s Heavy other no_close = no_close
false_reason p a s NoRoom other no_close = no_close
false_reason p a s Worse other no_close = no_close
false_reason p a s Heavier other no_close = no_close
false_reason p a s Far other no_close = no_close
false_reason p a s Hit other no_close = absurd (other refl)

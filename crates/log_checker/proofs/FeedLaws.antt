-- What a letter does to a checker.
use Rattle.std.specs.Prelude.{◌≡◌, ℕ, Bool, true, false, List, [], ◌∷◌, Option, Some, None, IsSome, IsSomeAnd, Result, Ok, Err}
use Rattle.std.proofs.Common.{refl, sym, ap, subst, ◌∙◌}
use Rattle.log_checker.specs.declared.fault.LogFault.{LogFault}
use Rattle.log_checker.specs.declared.fault.LogFault.TheVariants.{UnknownToken, ReasonFalse, TooLong, Open, AnswerNotMet, BetterMet, AnswerNotAdmissible, Memory}
use Rattle.log_checker.specs.declared.stepping.Wrong.{Wrong}
use Rattle.log_checker.specs.declared.stepping.Wrong.TheVariants.{Unknown, Long, False, Better}
use Rattle.log_checker.specs.Feeding.{PlainChecker, IsChecker, IsFalse, IsMet, IsOfLetters, IsRefused, RefusesToken, counted, fed, stepped}
use Rattle.log_checker.specs.Reads.{IsWrong, Steps, fault_at}
use Rattle.pick_problem.specs.declared.token.Token.{Token}
use Rattle.pick_problem.specs.Problem.{PlainProblem}
use Rattle.pick_problem.specs.Admissible.{IsFit}
use Rattle.pick_problem.specs.Best.{IsBest}
use Rattle.pick_problem.specs.ClosingTree.{IsAnswered}
use Rattle.pick_problem.specs.Letters.{IsTaken, token_read}
use Rattle.pick_problem.specs.Tokens.{token_of}
use Rattle.pick_problem.specs.Steps.{State, IsAllowed, after}
use Rattle.pick_problem.proofs.LetterLaws.{read_is}
use Rattle.pick_problem.proofs.SoundLaws.{closed_best, step_keeps}

-- an allowed step keeps what each checker keeps
pub step_keeps_checker : (c : PlainChecker) (token : Token) → IsChecker c → IsAllowed c.problem c.answer c.state token →
    IsChecker (stepped c token)
step_keeps_checker c token is allowed =
    record { problem = is.problem; fit = is.fit; so_far = step_keeps c.problem is.problem c.answer c.state token allowed is.so_far; count = is.count; kept = is.kept }

pub false_token : (c : PlainChecker) (token : Token) → c.state.closed ≡ false →
    IsWrong c.problem c.answer c.state token False → RefusesToken c token (ReasonFalse c.fed)
false_token c token open_ wrong b e = (refl, open_, subst (λ (o : Option Token). IsSomeAnd o (λ k. IsFalse c.problem c.answer c.state k)) (sym e) wrong)

pub better_token : (c : PlainChecker) (token : Token) → c.state.closed ≡ false →
    IsWrong c.problem c.answer c.state token Better → RefusesToken c token (BetterMet c.fed)
better_token c token open_ wrong b e = (refl, open_, e ∙ ap (λ (k : Token). Some k) wrong.0, wrong.1, wrong.2)

-- what is wrong with a token at an open node is its fault there
pub wrong_token : (c : PlainChecker) (token : Token) (w : Wrong) → c.state.closed ≡ false →
    IsWrong c.problem c.answer c.state token w → RefusesToken c token (fault_at w c.fed)
wrong_token c token Unknown open_ wrong = absurd wrong
wrong_token c token Long open_ wrong = absurd wrong
wrong_token c token False open_ wrong = false_token c token open_ wrong
wrong_token c token Better open_ wrong = better_token c token open_ wrong

pub long_token : (c : PlainChecker) (token : Token) → c.state.closed ≡ true → RefusesToken c token (TooLong c.fed)
long_token c token shut b e = (refl, shut, subst (λ (o : Option Token). IsSome o) (sym e) refl)

abbrev pub at_state : PlainChecker → State → PlainChecker
at_state c s = record { problem = c.problem; answer = c.answer; state = s; fed = c.fed; fault = c.fault }

-- a token at an open node keeps it, whether it is allowed or wrong
pub step_leaves : {T : Type 0} (c : PlainChecker) (token : Token) (s : State) (result : Result T Wrong) → IsChecker c →
    c.state.closed ≡ false → Steps c.problem c.answer c.state token s result → IsChecker (at_state c s)
step_leaves c token s (Ok x) is open_ h = subst (λ (z : State). IsChecker (at_state c z)) (sym h.1) (step_keeps_checker c token is (open_, h.0))
step_leaves c token s (Err wrong) is open_ h = subst (λ (z : State). IsChecker (at_state c z)) (sym h.1) is

-- ---- one letter

pub unknown_letter : (c : PlainChecker) (b : ℕ) → token_of b ≡ None →
    IsRefused c.problem c.answer c.state c.fed b (UnknownToken c.fed)
unknown_letter c b e = (refl, e)

pub refused_letters : (p : PlainProblem) (a : Option (List ℕ)) (s : State) (place b : ℕ) (f : LogFault) →
    IsRefused p a s place b f → IsOfLetters f
refused_letters p a s place b (UnknownToken q) h = tt
refused_letters p a s place b (ReasonFalse q) h = tt
refused_letters p a s place b (TooLong q) h = tt
refused_letters p a s place b (BetterMet q) h = tt
refused_letters p a s place b Open h = h
refused_letters p a s place b AnswerNotMet h = h
refused_letters p a s place b AnswerNotAdmissible h = h
refused_letters p a s place b Memory h = h

pub letter_taken : (p : PlainProblem) (a : Option (List ℕ)) (s : State) (b : ℕ) (token : Token) →
    token_of b ≡ Some token → IsAllowed p a s token → IsTaken p a s b
letter_taken p a s b token e h = subst (λ (o : Option Token). IsSomeAnd o (λ k. IsAllowed p a s k)) (sym e) h

pub one_letter : (c : PlainChecker) (b n : ℕ) (token : Token) → token_of b ≡ Some token → n ≡ counted c.fed 1 →
    record { problem = c.problem; answer = c.answer; state = after c.problem c.answer c.state token; fed = n; fault = c.fault } ≡ fed c (b ∷ [])
one_letter c b n token e count =
    ap (λ (k : Token). record { problem = c.problem; answer = c.answer; state = after c.problem c.answer c.state k; fed = n; fault = c.fault }) (sym (read_is b token e))
    ∙ ap (λ (m : ℕ). record { problem = c.problem; answer = c.answer; state = after c.problem c.answer c.state (token_read b); fed = m; fault = c.fault }) count

-- ---- the end

pub answered_of : (p : PlainProblem) (a : Option (List ℕ)) (met : Bool) → IsFit p a → IsMet a met → IsAnswered p a met
answered_of p None met fit h = tt
answered_of p (Some best) met fit h = (fit, h)

-- where the tree is closed and the answer was met, it is the best
pub ends_best : (c : PlainChecker) → IsChecker c → c.state.closed ≡ true → IsMet c.answer c.state.met →
    IsBest c.problem c.answer
ends_best c is shut met = closed_best c.problem is.problem c.answer c.state shut is.so_far (answered_of c.problem c.answer c.state.met is.fit met)

-- What a letter does to a checker.
use Rattle.std.specs.Prelude.{◌≡◌, ℕ, Bool, true, false, List, [], ◌∷◌, Option, Some, None, IsSome, IsSomeAnd, Result, Ok, Err, IfErr, OnOk}
use Rattle.std.proofs.Common.{refl, sym, ap, subst, ◌∙◌}
use Rattle.wide_check.specs.declared.fault.WideFault.{WideFault}
use Rattle.wide_check.specs.declared.fault.WideFault.TheVariants.{UnknownToken, ReasonFalse, TooLong, Open, AnswerNotMet, BetterMet, AnswerNotAdmissible, Memory}
use Rattle.wide_check.specs.declared.stepping.Wrong.{Wrong}
use Rattle.wide_check.specs.declared.stepping.Wrong.TheVariants.{Unknown, Long, False, Better}
use Rattle.wide_check.specs.Feeding.{PlainWideChecker, IsWideChecker, IsFalse, IsMet, IsOfLetters, IsRefused, RefusesToken, counted, fed, stepped}
use Rattle.wide_check.specs.Reads.{IsWrong, Steps, fault_at}
use Rattle.wide_check.specs.declared.token.WideToken.{WideToken}
use Rattle.pick_problem.specs.Problem.{PlainProblem}
use Rattle.wide_check.specs.Wide.{IsWideFit}
use Rattle.wide_check.specs.Wide.{IsWideBest}
use Rattle.wide_check.specs.WideTree.{IsAnswered}
use Rattle.wide_check.specs.WideLetters.{IsTaken, token_read}
use Rattle.wide_check.specs.WideTokens.{token_of}
use Rattle.wide_check.specs.WideSteps.{WideState, IsAllowed, after}
use Rattle.wide_check.proofs.WideLetterLaws.{read_is}
use Rattle.wide_check.proofs.WideSoundLaws.{closed_best, step_keeps}

-- an allowed step keeps what each checker keeps
pub step_keeps_checker : (c : PlainWideChecker) (token : WideToken) → IsWideChecker c → IsAllowed c.problem c.answer c.state token →
    IsWideChecker (stepped c token)
step_keeps_checker c token is allowed =
    record { problem = is.problem; fit = is.fit; so_far = step_keeps c.problem is.problem c.answer c.state token allowed is.so_far; count = is.count; kept = is.kept }

pub false_token : (c : PlainWideChecker) (token : WideToken) → c.state.closed ≡ false →
    IsWrong c.problem c.answer c.state token False → RefusesToken c token (ReasonFalse c.fed)
false_token c token open_ wrong b e = (refl, open_, subst (λ (o : Option WideToken). IsSomeAnd o (λ k. IsFalse c.problem c.answer c.state k)) (sym e) wrong)

pub better_token : (c : PlainWideChecker) (token : WideToken) → c.state.closed ≡ false →
    IsWrong c.problem c.answer c.state token Better → RefusesToken c token (BetterMet c.fed)
better_token c token open_ wrong b e = (refl, open_, e ∙ ap (λ (k : WideToken). Some k) wrong.0, wrong.1)

-- what is wrong with a token at an open node is its fault there
pub wrong_token : (c : PlainWideChecker) (token : WideToken) (w : Wrong) → c.state.closed ≡ false →
    IsWrong c.problem c.answer c.state token w → RefusesToken c token (fault_at w c.fed)
wrong_token c token Unknown open_ wrong = absurd wrong
wrong_token c token Long open_ wrong = absurd wrong
wrong_token c token False open_ wrong = false_token c token open_ wrong
wrong_token c token Better open_ wrong = better_token c token open_ wrong

pub long_token : (c : PlainWideChecker) (token : WideToken) → c.state.closed ≡ true → RefusesToken c token (TooLong c.fed)
long_token c token shut b e = (refl, shut, subst (λ (o : Option WideToken). IsSome o) (sym e) refl)

abbrev pub at_state : PlainWideChecker → WideState → PlainWideChecker
at_state c s = record { problem = c.problem; answer = c.answer; state = s; fed = c.fed; fault = c.fault }

-- a token at an open node keeps it, whether it is allowed or wrong
pub step_leaves : {T : Type 0} (c : PlainWideChecker) (token : WideToken) (s : WideState) (result : Result T Wrong) → IsWideChecker c →
    c.state.closed ≡ false → Steps c.problem c.answer c.state token s result → IsWideChecker (at_state c s)
step_leaves c token s (Ok x) is open_ h = subst (λ (z : WideState). IsWideChecker (at_state c z)) (sym h.1) (step_keeps_checker c token is (open_, h.0))
step_leaves c token s (Err wrong) is open_ h = subst (λ (z : WideState). IsWideChecker (at_state c z)) (sym h.1) is

-- what a step of a token makes of a checker
pub take_ok : {T : Type 0} (c : PlainWideChecker) (token : WideToken) (s : WideState) (result : Result T Wrong) →
    c.state.closed ≡ false → Steps c.problem c.answer c.state token s result →
    OnOk result (IsAllowed c.problem c.answer c.state token × (at_state c s ≡ stepped c token))
take_ok c token s (Ok x) open_ h = ((open_, h.0), ap (λ (z : WideState). at_state c z) h.1)
take_ok c token s (Err wrong) open_ h = tt

pub take_refused : {T : Type 0} (c : PlainWideChecker) (token : WideToken) (s : WideState) (result : Result T Wrong) →
    c.state.closed ≡ false → Steps c.problem c.answer c.state token s result →
    IfErr result (λ w. RefusesToken c token (fault_at w c.fed) × (at_state c s ≡ c))
take_refused c token s (Ok x) open_ h = tt
take_refused c token s (Err wrong) open_ h = (wrong_token c token wrong open_ h.0, ap (λ (z : WideState). at_state c z) h.1)

-- ---- one letter

pub unknown_letter : (c : PlainWideChecker) (b : ℕ) → token_of b ≡ None →
    IsRefused c.problem c.answer c.state c.fed b (UnknownToken c.fed)
unknown_letter c b e = (refl, e)

pub refused_letters : (p : PlainProblem) (a : Option (List ℕ)) (s : WideState) (place b : ℕ) (f : WideFault) →
    IsRefused p a s place b f → IsOfLetters f
refused_letters p a s place b (UnknownToken q) h = tt
refused_letters p a s place b (ReasonFalse q) h = tt
refused_letters p a s place b (TooLong q) h = tt
refused_letters p a s place b (BetterMet q) h = tt
refused_letters p a s place b Open h = h
refused_letters p a s place b AnswerNotMet h = h
refused_letters p a s place b AnswerNotAdmissible h = h
refused_letters p a s place b Memory h = h

pub letter_taken : (p : PlainProblem) (a : Option (List ℕ)) (s : WideState) (b : ℕ) (token : WideToken) →
    token_of b ≡ Some token → IsAllowed p a s token → IsTaken p a s b
letter_taken p a s b token e h = subst (λ (o : Option WideToken). IsSomeAnd o (λ k. IsAllowed p a s k)) (sym e) h

pub one_letter : (c : PlainWideChecker) (b n : ℕ) (token : WideToken) → token_of b ≡ Some token → n ≡ counted c.fed 1 →
    record { problem = c.problem; answer = c.answer; state = after c.problem c.answer c.state token; fed = n; fault = c.fault } ≡ fed c (b ∷ [])
one_letter c b n token e count =
    ap (λ (k : WideToken). record { problem = c.problem; answer = c.answer; state = after c.problem c.answer c.state k; fed = n; fault = c.fault }) (sym (read_is b token e))
    ∙ ap (λ (m : ℕ). record { problem = c.problem; answer = c.answer; state = after c.problem c.answer c.state (token_read b); fed = m; fault = c.fault }) count

-- ---- the end

pub answered_of : (p : PlainProblem) (a : Option (List ℕ)) (met : Bool) → IsWideFit p a → IsMet a met → IsAnswered p a met
answered_of p None met fit h = tt
answered_of p (Some best) met fit h = (fit, h)

-- where the tree is closed and the answer was met, it is the best
pub ends_best : (c : PlainWideChecker) → IsWideChecker c → c.state.closed ≡ true → IsMet c.answer c.state.met →
    IsWideBest c.problem c.answer
ends_best c is shut met = closed_best c.problem c.answer c.state shut is.so_far (answered_of c.problem c.answer c.state.met is.fit met)

-- What a checker is, as plain data, and what it makes of letters.
--
-- The guarantee: where a checker takes all letters and ends well, they are a log that is accepted with its answer, in
-- whatever pieces they came; and every such log is taken so. It follows the letters alone and knows no search.
use Rattle.std.specs.Prelude.{◌≡◌, ℕ, ◌+◌, ◌<◌, ◌≤◌, ◌++◌, Bool, true, false, List, ◌∷◌, length, min, Option, Some, None, IsSome, IsSomeAnd}
use Rattle.std.specs.Option.{ForSome}
use Rattle.log_checker.specs.declared.fault.LogFault.{LogFault}
use Rattle.log_checker.specs.declared.fault.LogFault.TheVariants.{UnknownToken, ReasonFalse, TooLong, Open, AnswerNotMet, BetterMet, AnswerNotAdmissible, Memory}
use Rattle.pick_problem.specs.declared.token.Reason.TheVariants.{Hit}
use Rattle.pick_problem.specs.declared.token.Token.{Token}
use Rattle.pick_problem.specs.declared.token.Token.TheVariants.{Enter, Pass, Close}
use Rattle.pick_problem.specs.Problem.{PlainProblem, IsProblem, value_of}
use Rattle.pick_problem.specs.Admissible.{IsAdmissible, IsFit}
use Rattle.pick_problem.specs.Tokens.{token_of}
use Rattle.pick_problem.specs.Steps.{State, root, after, IsAllowedAt, IsNoBetterThan}
use Rattle.pick_problem.specs.SoFar.{SoFar}
use Rattle.pick_problem.specs.Letters.{AreTaken, led}

-- a problem, the answer that is claimed for it, where the reading of the tree stands, how many letters were fed, and
-- the fault that was found
pub record PlainChecker : Type 0 where
  pub problem : PlainProblem
  pub answer : Option (List ℕ)
  pub state : State
  pub fed : ℕ
  pub fault : Option LogFault

-- a checker that is fed nothing yet
abbrev pub begun : PlainProblem → Option (List ℕ) → PlainChecker
begun p a = record { problem = p; answer = a; state = root; fed = 0; fault = None }

-- so many letters more; a count stands still at its type's end
abbrev pub counted : ℕ → ℕ → ℕ
counted fed n = min (fed + n) 18_446_744_073_709_551_615

-- each letter is taken from where the checker stands
abbrev pub Takes : PlainChecker → List ℕ → Type 0
Takes c letters = AreTaken c.problem c.answer c.state letters

-- where the steps of letters lead a checker
abbrev pub fed : PlainChecker → List ℕ → PlainChecker
fed c letters = record { problem = c.problem; answer = c.answer; state = led c.problem c.answer c.state letters; fed = counted c.fed (length letters); fault = c.fault }

-- a checker that found a fault after these letters
abbrev pub stopped : PlainChecker → List ℕ → LogFault → PlainChecker
stopped c front fault = record { problem = c.problem; answer = c.answer; state = led c.problem c.answer c.state front; fed = counted c.fed (length front); fault = Some fault }

-- an A stands below lo, or any other token where it isn't allowed
abbrev pub IsFalse : PlainProblem → Option (List ℕ) → State → Token → Type 0
IsFalse p a s Enter = ¬ IsAllowedAt p a s.met s.chosen s.next Enter
IsFalse p a s Pass = ¬ IsAllowedAt p a s.met s.chosen s.next Pass
IsFalse p a s (Close Hit) = value_of p s.chosen < p.lo
IsFalse p a s (Close reason) = ¬ IsAllowedAt p a s.met s.chosen s.next (Close reason)

-- the byte at a place has this fault
abbrev pub IsRefused : PlainProblem → Option (List ℕ) → State → ℕ → ℕ → LogFault → Type 0
-- it is the letter of no token
IsRefused p a s place b (UnknownToken q) = (q ≡ place) × (token_of b ≡ None)
-- the tree is open, and the token is false at its node
IsRefused p a s place b (ReasonFalse q) = (q ≡ place) × (s.closed ≡ false) × IsSomeAnd (token_of b) (λ token. IsFalse p a s token)
-- the tree is closed
IsRefused p a s place b (TooLong q) = (q ≡ place) × (s.closed ≡ true) × IsSome (token_of b)
-- the tree is open, and A stands at an admissible selection that the answer doesn't beat
IsRefused p a s place b (BetterMet q) = (q ≡ place) × (s.closed ≡ false) × (token_of b ≡ Some (Close Hit)) × IsAdmissible p s.chosen × (¬ IsSomeAnd a (λ best. IsNoBetterThan p s.met s.chosen best))
IsRefused p a s place b Open = ⊥
IsRefused p a s place b AnswerNotMet = ⊥
IsRefused p a s place b AnswerNotAdmissible = ⊥
IsRefused p a s place b Memory = ⊥

-- a checker that found a fault where it stands
abbrev pub faulted : PlainChecker → LogFault → PlainChecker
faulted c fault = record { problem = c.problem; answer = c.answer; state = c.state; fed = c.fed; fault = Some fault }

-- the step of one token
abbrev pub stepped : PlainChecker → Token → PlainChecker
stepped c token = record { problem = c.problem; answer = c.answer; state = after c.problem c.answer c.state token; fed = c.fed; fault = c.fault }

-- the letter of a token has this fault next
abbrev pub RefusesToken : PlainChecker → Token → LogFault → Type 0
RefusesToken c token fault = (b : ℕ) → token_of b ≡ Some token → IsRefused c.problem c.answer c.state c.fed b fault

-- the first of the letters that isn't taken has this fault
pub record IsFirstFault (c : PlainChecker) (letters : List ℕ) (fault : LogFault) : Type 0 where
  pub front : List ℕ
  pub letter : ℕ
  pub rest : List ℕ
  pub split : letters ≡ front ++ letter ∷ rest
  pub taken : Takes c front
  pub refused : IsRefused c.problem c.answer (led c.problem c.answer c.state front) (counted c.fed (length front)) letter fault

-- an answer, if there is one, was met
abbrev pub IsMet : Option (List ℕ) → Bool → Type 0
IsMet None met = Unit {0}
IsMet (Some best) met = met ≡ true

-- no fault was found, the tree is closed, and the answer was met
abbrev pub EndsWell : PlainChecker → Type 0
EndsWell c = (c.fault ≡ None) × (c.state.closed ≡ true) × IsMet c.answer c.state.met

-- a fault that letters may have
abbrev pub IsOfLetters : LogFault → Type 0
IsOfLetters (UnknownToken q) = Unit {0}
IsOfLetters (ReasonFalse q) = Unit {0}
IsOfLetters (TooLong q) = Unit {0}
IsOfLetters (BetterMet q) = Unit {0}
IsOfLetters Open = ⊥
IsOfLetters AnswerNotMet = ⊥
IsOfLetters AnswerNotAdmissible = ⊥
IsOfLetters Memory = ⊥

-- what each checker keeps
pub record IsChecker (c : PlainChecker) : Type 0 where
  pub problem : IsProblem c.problem
  pub fit : IsFit c.problem c.answer
  pub so_far : SoFar c.problem c.answer c.state
  pub count : c.fed ≤ 18_446_744_073_709_551_615
  pub kept : ForSome c.fault IsOfLetters

-- What a checker is, as plain data, and what it makes of letters.
--
-- The guarantee: where a checker takes all letters and ends well, they are a log that is accepted with its answer, in
-- whatever pieces they came; and every such log is taken so. It follows the letters alone and knows no search.
use Rattle.std.specs.Prelude.{◌≡◌, ◌≢◌, ℕ, ◌+◌, ◌≤◌, ◌++◌, Bool, true, false, List, ◌∷◌, length, min, Option, Some, None, IsSome, IsSomeAnd}
use Rattle.std.specs.Option.{ForSome}
use Rattle.wide_check.specs.declared.fault.WideFault.{WideFault}
use Rattle.wide_check.specs.declared.fault.WideFault.TheVariants.{UnknownToken, ReasonFalse, TooLong, Open, AnswerNotMet, BetterMet, AnswerNotAdmissible, Memory}
use Rattle.wide_check.specs.declared.token.WideToken.{WideToken}
use Rattle.wide_check.specs.declared.token.WideToken.TheVariants.{Mark}
use Rattle.pick_problem.specs.Problem.{PlainProblem}
use Rattle.wide_check.specs.Wide.{IsWideFit, IsWideProblem}
use Rattle.wide_check.specs.WideTokens.{token_of}
use Rattle.wide_check.specs.WideSteps.{WideState, root, after, IsAllowedAt}
use Rattle.wide_check.specs.WideSoFar.{SoFar}
use Rattle.wide_check.specs.WideLetters.{AreTaken, led}

-- a problem, the answer that is claimed for it, where the reading of the tree stands, how many letters were fed, and
-- the fault that was found
pub record PlainWideChecker : Type 0 where
  pub problem : PlainProblem
  pub answer : Option (List ℕ)
  pub state : WideState
  pub fed : ℕ
  pub fault : Option WideFault

-- a checker that is fed nothing yet
abbrev pub begun : PlainProblem → Option (List ℕ) → PlainWideChecker
begun p a = record { problem = p; answer = a; state = root; fed = 0; fault = None }

-- so many letters more; a count stands still at its type's end
abbrev pub counted : ℕ → ℕ → ℕ
counted fed n = min (fed + n) 18_446_744_073_709_551_615

-- each letter is taken from where the checker stands
abbrev pub Takes : PlainWideChecker → List ℕ → Type 0
Takes c letters = AreTaken c.problem c.answer c.state letters

-- where the steps of letters lead a checker
abbrev pub fed : PlainWideChecker → List ℕ → PlainWideChecker
fed c letters = record { problem = c.problem; answer = c.answer; state = led c.problem c.answer c.state letters; fed = counted c.fed (length letters); fault = c.fault }

-- a checker that found a fault after these letters
abbrev pub stopped : PlainWideChecker → List ℕ → WideFault → PlainWideChecker
stopped c front fault = record { problem = c.problem; answer = c.answer; state = led c.problem c.answer c.state front; fed = counted c.fed (length front); fault = Some fault }

-- any token but B where it isn't allowed, so where a B is missing too
abbrev pub IsFalse : PlainProblem → Option (List ℕ) → WideState → WideToken → Type 0
IsFalse p a s token = (token ≢ Mark) × (¬ IsAllowedAt p a s.entered s.met s.chosen s.next token)

-- the byte at a place has this fault
abbrev pub IsRefused : PlainProblem → Option (List ℕ) → WideState → ℕ → ℕ → WideFault → Type 0
-- it is the letter of no token
IsRefused p a s place b (UnknownToken q) = (q ≡ place) × (token_of b ≡ None)
-- the tree is open, and the token is false at its node
IsRefused p a s place b (ReasonFalse q) = (q ≡ place) × (s.closed ≡ false) × IsSomeAnd (token_of b) (λ token. IsFalse p a s token)
-- the tree is closed
IsRefused p a s place b (TooLong q) = (q ≡ place) × (s.closed ≡ true) × IsSome (token_of b)
-- the tree is open, and B breaks its rule
IsRefused p a s place b (BetterMet q) = (q ≡ place) × (s.closed ≡ false) × (token_of b ≡ Some Mark) × (¬ IsAllowedAt p a s.entered s.met s.chosen s.next Mark)
IsRefused p a s place b Open = ⊥
IsRefused p a s place b AnswerNotMet = ⊥
IsRefused p a s place b AnswerNotAdmissible = ⊥
IsRefused p a s place b Memory = ⊥

-- a checker that found a fault where it stands
abbrev pub faulted : PlainWideChecker → WideFault → PlainWideChecker
faulted c fault = record { problem = c.problem; answer = c.answer; state = c.state; fed = c.fed; fault = Some fault }

-- the step of one token
abbrev pub stepped : PlainWideChecker → WideToken → PlainWideChecker
stepped c token = record { problem = c.problem; answer = c.answer; state = after c.problem c.answer c.state token; fed = c.fed; fault = c.fault }

-- the letter of a token has this fault next
abbrev pub RefusesToken : PlainWideChecker → WideToken → WideFault → Type 0
RefusesToken c token fault = (b : ℕ) → token_of b ≡ Some token → IsRefused c.problem c.answer c.state c.fed b fault

-- the first of the letters that isn't taken has this fault
pub record IsFirstFault (c : PlainWideChecker) (letters : List ℕ) (fault : WideFault) : Type 0 where
  pub front : List ℕ
  pub letter : ℕ
  pub rest : List ℕ
  pub split : letters ≡ front ++ letter ∷ rest
  pub taken : Takes c front
  pub refused : IsRefused c.problem c.answer (led c.problem c.answer c.state front) (counted c.fed (length front)) letter fault

-- an answer, if there is one, was met
abbrev pub IsMet : Option (List ℕ) → Bool → Type 0
IsMet None met = Unit {0}
IsMet (Some best) met = met ≡ true

-- no fault was found, the tree is closed, and the answer was met
abbrev pub EndsWell : PlainWideChecker → Type 0
EndsWell c = (c.fault ≡ None) × (c.state.closed ≡ true) × IsMet c.answer c.state.met

-- a fault that letters may have
abbrev pub IsOfLetters : WideFault → Type 0
IsOfLetters (UnknownToken q) = Unit {0}
IsOfLetters (ReasonFalse q) = Unit {0}
IsOfLetters (TooLong q) = Unit {0}
IsOfLetters (BetterMet q) = Unit {0}
IsOfLetters Open = ⊥
IsOfLetters AnswerNotMet = ⊥
IsOfLetters AnswerNotAdmissible = ⊥
IsOfLetters Memory = ⊥

-- what each checker keeps
pub record IsWideChecker (c : PlainWideChecker) : Type 0 where
  pub problem : IsWideProblem c.problem
  pub fit : IsWideFit c.problem c.answer
  pub so_far : SoFar c.problem c.answer c.state
  pub count : c.fed ≤ 18_446_744_073_709_551_615
  pub kept : ForSome c.fault IsOfLetters

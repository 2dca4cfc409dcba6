-- The letters of a closing log. What is read may be any bytes.
use Rattle.std.specs.Prelude.{◌≡◌, ℕ, ◌++◌, List, [], ◌∷◌, map, unwrap_or, Option, IsSomeAnd}
use Rattle.wide_check.specs.declared.token.WideReason.TheVariants.{Short}
use Rattle.wide_check.specs.declared.token.WideToken.{WideToken}
use Rattle.wide_check.specs.declared.token.WideToken.TheVariants.{Close}
use Rattle.pick_problem.specs.Problem.{PlainProblem}
use Rattle.wide_check.specs.WideTokens.{letter_of, token_of}
use Rattle.wide_check.specs.WideSteps.{WideState, after, after_all, IsAllowed}
use Rattle.wide_check.specs.WideTree.{IsWideAccepted}

abbrev pub letters_of : List WideToken → List ℕ
letters_of tokens = map letter_of tokens

-- what a byte is read as: the token whose letter it is, or S where it is the letter of none
abbrev pub token_read : ℕ → WideToken
token_read b = unwrap_or (token_of b) (Close Short)

abbrev pub read : List ℕ → List WideToken
read letters = map token_read letters

-- a byte is the letter of a token whose step is allowed
abbrev pub IsTaken : PlainProblem → Option (List ℕ) → WideState → ℕ → Type 0
IsTaken p a s letter = IsSomeAnd (token_of letter) (λ token. IsAllowed p a s token)

-- the same of each byte, from where the ones before it lead
abbrev pub AreTaken : PlainProblem → Option (List ℕ) → WideState → List ℕ → Type 0
AreTaken p a s [] = Unit {0}
AreTaken p a s (b ∷ bs) = IsTaken p a s b × AreTaken p a (after p a s (token_read b)) bs

-- where the steps of bytes lead
abbrev pub led : PlainProblem → Option (List ℕ) → WideState → List ℕ → WideState
led p a s letters = after_all p a s (read letters)

-- the first byte that isn't taken: it stands after a front that is
pub record StopsAt (p : PlainProblem) (a : Option (List ℕ)) (s : WideState) (letters : List ℕ) : Type 0 where
  pub front : List ℕ
  pub letter : ℕ
  pub rest : List ℕ
  pub split : letters ≡ front ++ letter ∷ rest
  pub taken : AreTaken p a s front
  pub refused : ¬ IsTaken p a (led p a s front) letter

-- bytes are the letters of a log that is accepted
abbrev pub IsWideAcceptedText : PlainProblem → Option (List ℕ) → List ℕ → Type 0
IsWideAcceptedText p a letters = (tokens : List WideToken) × (letters ≡ letters_of tokens) × IsWideAccepted p a tokens

-- A whole section of a log: its letters, with the answer that they are to prove. And the same in pieces.
use Rattle.std.specs.Prelude.{◌≡◌, ℕ, ◌⊎◌, true, false, List, [], ◌∷◌, Option}
use Rattle.wide_check.specs.declared.fault.WideFault.{WideFault}
use Rattle.wide_check.specs.declared.fault.WideFault.TheVariants.{UnknownToken, ReasonFalse, TooLong, Open, AnswerNotMet, BetterMet, AnswerNotAdmissible, Memory}
use Rattle.wide_check.specs.Feeding.{PlainWideChecker, EndsWell, IsFirstFault, IsMet, Takes, begun, fed}
use Rattle.pick_problem.specs.Problem.{PlainProblem}
use Rattle.wide_check.specs.Wide.{IsWideFit}

-- the fault of an end, where no letter had one
abbrev pub EndsIn : PlainWideChecker → WideFault → Type 0
EndsIn c Open = c.state.closed ≡ false
EndsIn c AnswerNotMet = (c.state.closed ≡ true) × (¬ IsMet c.answer c.state.met)
EndsIn c (UnknownToken q) = ⊥
EndsIn c (ReasonFalse q) = ⊥
EndsIn c (TooLong q) = ⊥
EndsIn c (BetterMet q) = ⊥
EndsIn c AnswerNotAdmissible = ⊥
EndsIn c Memory = ⊥

-- the fault of letters with which a log ends: that of the first that isn't taken, or of the end
abbrev pub LettersHave : PlainWideChecker → List ℕ → WideFault → Type 0
LettersHave c letters fault = IsFirstFault c letters fault ⊎ (Takes c letters × EndsIn (fed c letters) fault)

-- the first fault of a section: of its answer, of its letters, or of its end
abbrev pub SectionHas : PlainProblem → Option (List ℕ) → List ℕ → WideFault → Type 0
SectionHas p a letters fault = ((fault ≡ AnswerNotAdmissible) × (¬ IsWideFit p a)) ⊎ (IsWideFit p a × LettersHave (begun p a) letters fault)

-- ---- pieces

-- each piece is taken from where the ones before it lead, and then all ends well
abbrev pub PiecesEndWell : PlainWideChecker → List (List ℕ) → Type 0
PiecesEndWell c [] = EndsWell c
PiecesEndWell c (piece ∷ pieces) = Takes c piece × PiecesEndWell (fed c piece) pieces

-- the first fault of pieces: of one that stands after pieces that are taken, or of the end
abbrev pub PiecesHave : PlainWideChecker → List (List ℕ) → WideFault → Type 0
PiecesHave c [] fault = EndsIn c fault
PiecesHave c (piece ∷ pieces) fault = IsFirstFault c piece fault ⊎ (Takes c piece × PiecesHave (fed c piece) pieces fault)

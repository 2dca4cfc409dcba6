-- What is the matter with what is kept of a run, or with a log: the first fault.
use Rattle.std.specs.Prelude.{ℕ, ◌≡◌, ◌⊎◌, ◌↔◌, List, [], ◌∷◌, ◌++◌, length, Option, IsSomeAnd, Result, Err, IfErr, IfOk}
use Rattle.closing_log.specs.Log.{PlainLog, PlainSection}
use Rattle.log_checker.specs.Feeding.{PlainChecker, begun}
use Rattle.log_checker.specs.Sections.{SectionHas}
use Rattle.log_checker.specs.declared.fault.LogFault.{LogFault}
use Rattle.log_checker.specs.declared.fault.LogFault.TheVariants as fault
use Rattle.pick_problem.specs.Admissible.{IsFit}
use Rattle.pick_problem.specs.Problem.{PlainProblem}
use Rattle.search_keep.specs.SavedText as text
use Rattle.search_run.specs.Kept.{Along, At, IsAcceptedAt, IsDueAt, IsFitAt, IsOpenAt, IsPositionFor, PlainSaved, comes_to, first_search, kept_walk}
use Rattle.search_run.specs.Step.{PlainStep}
use Rattle.search_run.specs.declared.fault.RestoreRefused.{RestoreRefused}
use Rattle.search_run.specs.declared.fault.RestoreRefused.TheVariants as refused
use Rattle.search_run.specs.declared.fault.VerifyFault.{VerifyFault}
use Rattle.search_run.specs.declared.fault.VerifyFault.TheVariants as verified

-- ---- saved positions

-- what a saved position says of its search, without its job and its parts
abbrev pub saved_in : text.PlainSaved → PlainSaved
saved_in s = record { tries = s.tries; row = s.row; stage = s.stage; chosen = s.chosen; next = s.next; best = s.best }

-- ---- the first fault

-- All sections before the one at this index are so to where the run comes, and that one isn't.
pub record IsFirstNot (P : At → PlainSection → Type 0) (seed : List ℕ) (at : At) (sections : List PlainSection) (i : ℕ) : Type 0 where
  pub front : List PlainSection
  pub section : PlainSection
  pub rest : List PlainSection
  pub parts : sections ≡ front ++ section ∷ rest
  pub index : length front ≡ i
  pub before : Along P seed at front
  pub fails : ¬ P (comes_to seed at front) section

-- ---- what is kept

-- there is an open section, and it is that of the search to which the run comes, which the saved row and stage name too
abbrev pub IsOpenRight : List ℕ → List PlainStep → PlainSaved → PlainLog → Type 0
IsOpenRight seed steps saved log = IsSomeAnd log.tail (IsOpenAt (comes_to seed (first_search seed steps) log.closed) saved)

-- The section at this index is wrong: it is the first closed one that isn't that of the search to which the run comes; or
-- the closed ones are right, the index is their number, and the open one is wrong or isn't there.
abbrev pub IsSectionWrong : List ℕ → List PlainStep → PlainSaved → PlainLog → ℕ → Type 0
IsSectionWrong seed steps saved log i =
    IsFirstNot IsDueAt seed (first_search seed steps) log.closed i
    ⊎ (Along IsDueAt seed (first_search seed steps) log.closed × (i ≡ length log.closed) × (¬ IsOpenRight seed steps saved log))

-- no section is wrong
pub record AreSectionsRight (seed : List ℕ) (steps : List PlainStep) (saved : PlainSaved) (log : PlainLog) : Type 0 where
  pub closed : Along IsDueAt seed (first_search seed steps) log.closed
  pub tail : IsOpenRight seed steps saved log

-- a walk of the open search may stand at the saved position
abbrev pub IsPlaceRight : List ℕ → List PlainStep → PlainSaved → PlainLog → Type 0
IsPlaceRight seed steps saved log = IsPositionFor (comes_to seed (first_search seed steps) log.closed).left (kept_walk saved)

-- Why what is kept isn't gone on from, in this order: a section is wrong; no section is, and no walk may stand at the
-- saved position; or neither, and a closed answer, the first one, isn't admissible where the run comes.
abbrev pub IsRefusedFor : List ℕ → List PlainStep → PlainSaved → PlainLog → RestoreRefused → Type 0
IsRefusedFor seed steps saved log (refused.Section i) = IsSectionWrong seed steps saved log i
IsRefusedFor seed steps saved log refused.IllFormed = AreSectionsRight seed steps saved log × (¬ IsPlaceRight seed steps saved log)
IsRefusedFor seed steps saved log (refused.Answer i) =
    AreSectionsRight seed steps saved log × IsPlaceRight seed steps saved log × IsFirstNot IsFitAt seed (first_search seed steps) log.closed i
IsRefusedFor seed steps saved log refused.Memory = Unit {0}

-- ---- a log

-- a section has this fault as the log of the search to which the run comes
abbrev pub HasFaultFor : List PlainStep → Option (List ℕ) → List ℕ → LogFault → Type 0
HasFaultFor [] a letters f = ⊥
HasFaultFor (x ∷ rest) a letters f = SectionHas x.problem a letters f

abbrev pub HasFaultAt : At → PlainSection → LogFault → Type 0
HasFaultAt at s f = HasFaultFor at.left s.answer s.letters f

-- All sections before the one at this index are accepted with their answers, and that one has this fault.
pub record IsFirstRefused (seed : List ℕ) (at : At) (sections : List PlainSection) (i : ℕ) (f : LogFault) : Type 0 where
  pub front : List PlainSection
  pub section : PlainSection
  pub rest : List PlainSection
  pub parts : sections ≡ front ++ section ∷ rest
  pub index : length front ≡ i
  pub before : Along IsAcceptedAt seed at front
  pub fault : HasFaultAt (comes_to seed at front) section f

-- why a log isn't accepted
abbrev pub IsRefusedLog : List ℕ → List PlainStep → List PlainSection → VerifyFault → Type 0
IsRefusedLog seed steps sections (verified.Log i f) = IsFirstRefused seed (first_search seed steps) sections i f
IsRefusedLog seed steps sections verified.Memory = Unit {0}

-- a fault of a section as the log of a search, or out of memory
abbrev pub HasOrMemory : PlainProblem → Option (List ℕ) → List ℕ → LogFault → Type 0
HasOrMemory p a letters f = (f ≡ fault.Memory) ⊎ SectionHas p a letters f

-- What making a checker for an answer comes to: one that is fed nothing; or the answer isn't admissible, which is told
-- whatever memory there is; or out of memory.
pub record IsBegun (p : PlainProblem) (a : Option (List ℕ)) (made : Result PlainChecker LogFault) : Type 0 where
  pub ok : IfOk made (λ c. c ≡ begun p a)
  pub unfit : made ≡ Err fault.AnswerNotAdmissible ↔ ¬ IsFit p a
  pub only : IfErr made (λ f. (f ≡ fault.AnswerNotAdmissible) ⊎ (f ≡ fault.Memory))

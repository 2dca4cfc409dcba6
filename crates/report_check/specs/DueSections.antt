-- Which sections a log is to have beside a report, and in which section it first hasn't.
use Rattle.std.specs.Prelude.{ℕ, ◌≡◌, ◌⊎◌, List, [], ◌∷◌, ◌++◌, length, Contains}
use Rattle.std.specs.List.{AllZip}
use Rattle.closing_log.specs.Log.{PlainSection}
use Rattle.closing_log.specs.declared.log.Stage.{Stage}
use Rattle.closing_log.specs.declared.mark.Mark.{Mark}
use Rattle.closing_log.specs.declared.mark.Mark.TheVariants.{Exhausted, Partial, Drawn, Given}
use Rattle.fund_report.specs.declared.report.Report.{Report}
use Rattle.fund_report.specs.declared.report.Report.TheVariants.{Funded, NoSelection, Unfinished}
use Rattle.search_run.specs.Answer.{AreWhole, IsColumn}
use Rattle.search_run.specs.Kept.{Names}
use Rattle.search_run.specs.Searched.{searches}
use Rattle.search_run.specs.Step.{PlainStep}

-- a section has the row, the stage and the digest of a search
abbrev pub IsNamedAs : PlainStep → PlainSection → Type 0
IsNamedAs x s = Names x s.row s.stage s.digest

-- ---- what is due

-- one of the steps is of this row and this stage
abbrev pub HasStepAt : List PlainStep → ℕ → Stage → Type 0
HasStepAt steps row stage = (x : PlainStep) × Contains steps x × (x.row ≡ row) × (x.stage ≡ stage)

-- the steps up to and with the first column that has a step of this row and this stage
pub record IsUpTo (steps : List PlainStep) (row : ℕ) (stage : Stage) (upto : List PlainStep) : Type 0 where
  pub front : List PlainStep
  pub column : List PlainStep
  pub rest : List PlainStep
  pub parts : steps ≡ front ++ (column ++ rest)
  pub whole : AreWhole front
  pub before : HasStepAt front row stage → ⊥
  pub one : IsColumn column
  pub has : HasStepAt column row stage
  pub upto_is : upto ≡ front ++ column

-- the searches of these steps, or none where there is no such column
abbrev pub AreUpTo : List PlainStep → ℕ → Stage → List PlainStep → Type 0
AreUpTo steps row stage due =
    ((upto : List PlainStep) × IsUpTo steps row stage upto × (due ≡ searches upto))
    ⊎ ((HasStepAt steps row stage → ⊥) × (due ≡ []))

-- all searches but the last, where there is one
abbrev pub AreAllButLast : List PlainStep → List PlainStep → Type 0
AreAllButLast steps due = (x : PlainStep) × (searches steps ≡ due ++ x ∷ [])

-- ---- sections that are right

-- a section for each, in their order, and no other
abbrev pub AreFor : List PlainStep → List PlainSection → Type 0
AreFor due sections = AllZip IsNamedAs due sections

-- a section for each of the first of them, in their order, and no other
pub record AreForFirst (due : List PlainStep) (sections : List PlainSection) : Type 0 where
  pub front : List PlainStep
  pub rest : List PlainStep
  pub parts : due ≡ front ++ rest
  pub each : AreFor front sections

-- Beside a payment that was found: the searches up to and with the column of the named stage in the named row. Beside one
-- for want of tries: the first of all searches, and not all. Beside one of the presets alone: none.
abbrev pub AreRightBy : Mark → List PlainStep → ℕ → Stage → List PlainSection → Type 0
AreRightBy Exhausted steps row stage sections = (due : List PlainStep) × AreUpTo steps row stage due × AreFor due sections
AreRightBy Drawn steps row stage sections = (due : List PlainStep) × AreUpTo steps row stage due × AreFor due sections
AreRightBy Partial steps row stage sections = (due : List PlainStep) × AreAllButLast steps due × AreForFirst due sections
AreRightBy Given steps row stage sections = sections ≡ []

-- and where there is no payment: all searches
abbrev pub AreRight : List PlainStep → Report → List PlainSection → Type 0
AreRight steps (Funded f) sections = AreRightBy f.mark steps f.row f.stage sections
AreRight steps (NoSelection tries) sections = AreFor (searches steps) sections
AreRight steps (Unfinished tries row stage) sections = Unit {0}

-- ---- the first that is wrong

-- the first one of these is another than the search due there, or one that is due is missing, or none is due any more
abbrev pub PartsHere : List PlainStep → List PlainSection → Type 0
PartsHere [] [] = ⊥
PartsHere [] (s ∷ ss) = Unit {0}
PartsHere (x ∷ xs) [] = Unit {0}
PartsHere (x ∷ xs) (s ∷ ss) = IsNamedAs x s → ⊥

-- the same where none can be missing
abbrev pub LeavesHere : List PlainStep → List PlainSection → Type 0
LeavesHere xs [] = ⊥
LeavesHere [] (s ∷ ss) = Unit {0}
LeavesHere (x ∷ xs) (s ∷ ss) = IsNamedAs x s → ⊥

-- the sections before this index are those that are due there, and what is left isn't
pub record IsFirstWrong (Wrong : List PlainStep → List PlainSection → Type 0) (due : List PlainStep) (sections : List PlainSection) (i : ℕ) : Type 0 where
  pub due_front : List PlainStep
  pub due_rest : List PlainStep
  pub due_parts : due ≡ due_front ++ due_rest
  pub front : List PlainSection
  pub rest : List PlainSection
  pub parts : sections ≡ front ++ rest
  pub before : AreFor due_front front
  pub index : length front ≡ i
  pub wrong : Wrong due_rest rest

-- By what is due. Where a result is taken for want of tries none is missing; and without any search there is none that may
-- be left open, which is told as the first section.
abbrev pub IsWrongBy : Mark → List PlainStep → ℕ → Stage → List PlainSection → ℕ → Type 0
IsWrongBy Exhausted steps row stage sections i = (due : List PlainStep) × AreUpTo steps row stage due × IsFirstWrong PartsHere due sections i
IsWrongBy Drawn steps row stage sections i = (due : List PlainStep) × AreUpTo steps row stage due × IsFirstWrong PartsHere due sections i
IsWrongBy Partial steps row stage sections i =
    ((searches steps ≡ []) × (i ≡ 0))
    ⊎ ((due : List PlainStep) × AreAllButLast steps due × IsFirstWrong LeavesHere due sections i)
IsWrongBy Given steps row stage sections i = IsFirstWrong PartsHere [] sections i

abbrev pub IsSectionWrong : List PlainStep → Report → List PlainSection → ℕ → Type 0
IsSectionWrong steps (Funded f) sections i = IsWrongBy f.mark steps f.row f.stage sections i
IsSectionWrong steps (NoSelection tries) sections i = IsFirstWrong PartsHere (searches steps) sections i
IsSectionWrong steps (Unfinished tries row stage) sections i = ⊥

-- Sections beside searches, one after another.
use Rattle.std.specs.Prelude.{◌≡◌, Bool, true, false, List, [], ◌∷◌, ◌++◌, Option, Some, None}
use Rattle.closing_log.specs.Log.{PlainSection}
use Rattle.search_run.specs.Searched.{searches}
use Rattle.search_run.specs.Step.{PlainStep, is_drawn}
use Rattle.report_check.specs.DueSections.{AreFor, IsNamedAs}

-- the first of the sections isn't that of a search, or there is none
abbrev pub IsOther : PlainStep → List PlainSection → Type 0
IsOther x [] = Unit {0}
IsOther x (s ∷ ss) = IsNamedAs x s → ⊥

-- what is left behind a draw, which has no section, and behind a search, which has one
abbrev pub IsPast : Bool → PlainStep → List PlainSection → List PlainSection → Type 0
IsPast true x sections rest = rest ≡ sections
IsPast false x sections rest = (s : PlainSection) × (sections ≡ s ∷ rest) × IsNamedAs x s

-- what is left of sections behind the first, which is that of a search; or that isn't so
abbrev pub IsRestAfter : PlainStep → List PlainSection → Option (List PlainSection) → Type 0
IsRestAfter x sections (Some rest) = (s : PlainSection) × (sections ≡ s ∷ rest) × IsNamedAs x s
IsRestAfter x sections None = IsOther x sections

-- a step is passed with its section, or it is a search that has none there
abbrev pub Passes : PlainStep → List PlainSection → Option (List PlainSection) → Type 0
Passes x sections (Some rest) = IsPast (is_drawn x.stage) x sections rest
Passes x sections None = (is_drawn x.stage ≡ false) × IsOther x sections

-- a search that is left has no section there
abbrev pub Stops : List PlainStep → List PlainSection → Type 0
Stops [] sections = Unit {0}
Stops (x ∷ xs) sections = IsOther x sections

-- the sections before the rest are those of the first searches, and the next search, if there is one, has none there
pub record HasFitting (steps : List PlainStep) (sections rest : List PlainSection) : Type 0 where
  pub due_front : List PlainStep
  pub due_rest : List PlainStep
  pub due_parts : searches steps ≡ due_front ++ due_rest
  pub front : List PlainSection
  pub parts : sections ≡ front ++ rest
  pub before : AreFor due_front front
  pub stops : Stops due_rest rest

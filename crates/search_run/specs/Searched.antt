-- The log of searches, in words of the searches one by one. This knows no walk and no tries.
use Rattle.std.specs.Prelude.{not, List, filter}
use Rattle.std.specs.List.{AllZip}
use Rattle.closing_log.specs.Log.{PlainSection}
use Rattle.pick_problem.specs.Best.{IsBest}
use Rattle.pick_problem.specs.Letters.{IsAcceptedText}
use Rattle.search_run.specs.Kept.{Names}
use Rattle.search_run.specs.Step.{PlainStep, is_drawn}

-- the searches of some steps, which are all but the draws
abbrev pub searches : List PlainStep → List PlainStep
searches steps = filter (λ (x : PlainStep). not (is_drawn x.stage)) steps

-- A section of a search has its row, its stage and the digest of its problem. Its answer is the best of the problem, or
-- none where there is none, and its letters are accepted with that answer.
pub record IsSectionOf (x : PlainStep) (s : PlainSection) : Type 0 where
  pub names : Names x s.row s.stage s.digest
  pub best : IsBest x.problem s.answer
  pub accepted : IsAcceptedText x.problem s.answer s.letters

-- there is one section for each search of these steps, in their order
abbrev pub AreSectionsOf : List PlainStep → List PlainSection → Type 0
AreSectionsOf steps sections = AllZip IsSectionOf (searches steps) sections

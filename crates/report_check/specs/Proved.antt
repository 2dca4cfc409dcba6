-- What sections prove: whether their letters are accepted, and how many tries they tell of.
use Rattle.std.specs.Prelude.{ℕ, ◌≡◌, ◌==◌, List, ◌∷◌, ◌++◌, length, filter, sum_by, codes}
use Rattle.std.specs.Fmt.{decimal}
use Rattle.std.specs.List.{AllZip}
use Rattle.closing_log.specs.Log.{PlainLog, PlainSection}
use Rattle.closing_log.specs.LogText.{IsLogText, stage_word}
use Rattle.closing_log.specs.MarkWord.{mark_word}
use Rattle.closing_log.specs.declared.mark.Mark.{Mark}
use Rattle.closing_log.specs.declared.mark.Mark.TheVariants.{Exhausted, Partial, Drawn, Given}
use Rattle.fund_report.specs.ReportText.{line}
use Rattle.fund_report.specs.declared.report.Report.{Report}
use Rattle.fund_report.specs.declared.report.Report.TheVariants.{Funded, NoSelection, Unfinished}
use Rattle.log_checker.specs.Sections.{SectionHas}
use Rattle.log_checker.specs.declared.fault.LogFault.{LogFault}
use Rattle.pick_problem.specs.Letters.{IsAcceptedText}
use Rattle.search_run.specs.Searched.{searches}
use Rattle.search_run.specs.Step.{PlainStep}
use Rattle.std.specs.Prelude.{true}

-- ---- the text of the log

-- the bytes are the text of a log that comes to its end
abbrev pub IsEndedText : List ℕ → PlainLog → Type 0
IsEndedText bytes log = IsLogText bytes log × (log.ended ≡ true)

-- ---- letters

-- the letters of a section are accepted with its answer, for the problem of this search
abbrev pub IsProvedFor : PlainStep → PlainSection → Type 0
IsProvedFor x s = IsAcceptedText x.problem s.answer s.letters

-- so are those of each section, for the first of the searches
pub record AreProved (steps : List PlainStep) (sections : List PlainSection) : Type 0 where
  pub front : List PlainStep
  pub rest : List PlainStep
  pub parts : searches steps ≡ front ++ rest
  pub each : AllZip IsProvedFor front sections

-- the section at this index is the first that isn't accepted, and this is its first fault
pub record IsFirstRefused (steps : List PlainStep) (sections : List PlainSection) (i : ℕ) (fault : LogFault) : Type 0 where
  pub due_front : List PlainStep
  pub search : PlainStep
  pub due_rest : List PlainStep
  pub due_parts : searches steps ≡ due_front ++ search ∷ due_rest
  pub front : List PlainSection
  pub section : PlainSection
  pub rest : List PlainSection
  pub parts : sections ≡ front ++ section ∷ rest
  pub before : AllZip IsProvedFor due_front front
  pub index : length front ≡ i
  pub refused : SectionHas search.problem section.answer section.letters fault

-- ---- tries

-- how many tries the letters tell of: each try writes the letter I
abbrev pub tries_in : List PlainSection → ℕ
tries_in sections = sum_by (λ (s : PlainSection). length (filter (λ (b : ℕ). b == 73) s.letters)) sections

abbrev pub HasTriesBy : Mark → ℕ → List PlainSection → Type 0
HasTriesBy Exhausted tries sections = tries ≡ tries_in sections
HasTriesBy Partial tries sections = Unit {0}
HasTriesBy Drawn tries sections = tries ≡ tries_in sections
HasTriesBy Given tries sections = tries ≡ tries_in sections

-- The report tells of as many tries as the log. Where a search was left open the log hasn't all, and nothing is asked.
abbrev pub HasTries : Report → List PlainSection → Type 0
HasTries (Funded f) sections = HasTriesBy f.mark f.tries sections
HasTries (NoSelection tries) sections = tries ≡ tries_in sections
HasTries (Unfinished tries row stage) sections = Unit {0}

-- the lines of a report above that of its tries
abbrev pub above_tries : Report → List ℕ
above_tries (Funded f) = line (codes "funded ") (mark_word f.mark) ++ (line (codes "row ") (decimal f.row) ++ line (codes "stage ") (stage_word f.stage))
above_tries (NoSelection tries) = codes "none\n"
above_tries (Unfinished tries row stage) = codes "unfinished\n"

-- where the line of the tries begins
abbrev pub tries_place : Report → ℕ
tries_place r = length (above_tries r)

-- the tries that a report tells of
abbrev pub tries_of : Report → ℕ
tries_of (Funded f) = f.tries
tries_of (NoSelection tries) = tries
tries_of (Unfinished tries row stage) = tries

-- the line of the tries stands behind the lines above it
pub record HasTriesLine (bytes : List ℕ) (r : Report) : Type 0 where
  pub rest : List ℕ
  pub parts : bytes ≡ above_tries r ++ (line (codes "tries ") (decimal (tries_of r)) ++ rest)

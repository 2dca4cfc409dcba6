-- Sections that are checked one after another.
use Rattle.std.specs.Prelude.{◌≡◌, Bool, true, false, List, ◌∷◌}
use Rattle.closing_log.specs.Log.{PlainSection}
use Rattle.log_checker.specs.declared.fault.LogFault.{LogFault}
use Rattle.search_run.specs.Judged.{HasOrMemory}
use Rattle.search_run.specs.Step.{PlainStep, is_drawn}
use Rattle.report_check.specs.Proved.{IsProvedFor}

-- what is left behind a draw, which has no section, and behind a search, whose section is accepted
abbrev pub IsCheckedBy : Bool → PlainStep → List PlainSection → List PlainSection → Type 0
IsCheckedBy true x sections rest = rest ≡ sections
IsCheckedBy false x sections rest = (s : PlainSection) × (sections ≡ s ∷ rest) × IsProvedFor x s

abbrev pub Checks : PlainStep → List PlainSection → List PlainSection → Type 0
Checks x sections rest = IsCheckedBy (is_drawn x.stage) x sections rest

-- the first section isn't accepted for this search, or there was not enough memory
pub record Refuses (x : PlainStep) (sections : List PlainSection) (fault : LogFault) : Type 0 where
  pub searched : is_drawn x.stage ≡ false
  pub section : PlainSection
  pub rest : List PlainSection
  pub parts : sections ≡ section ∷ rest
  pub has : HasOrMemory x.problem section.answer section.letters fault

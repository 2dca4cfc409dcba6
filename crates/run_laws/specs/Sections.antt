-- Whose search a section of a log is.
use Rattle.closing_log.specs.Log.{PlainSection}
use Rattle.search_run.specs.Kept.{Names}
use Rattle.search_run.specs.Step.{PlainStep}

-- the section has the row, the stage and the digest of this search
abbrev pub IsNamed : PlainStep → PlainSection → Type 0
IsNamed x s = Names x s.row s.stage s.digest

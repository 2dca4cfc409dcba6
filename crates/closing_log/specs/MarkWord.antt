-- The words of marks.
use Rattle.std.specs.Prelude.{ℕ, List, codes}
use Rattle.closing_log.specs.declared.mark.Mark.{Mark}
use Rattle.closing_log.specs.declared.mark.Mark.TheVariants.{Exhausted, Partial, Drawn, Given}

-- the word of a mark
abbrev pub mark_word : Mark → List ℕ
mark_word Exhausted = codes "exhausted"
mark_word Partial = codes "partial"
mark_word Drawn = codes "drawn"
mark_word Given = codes "given"

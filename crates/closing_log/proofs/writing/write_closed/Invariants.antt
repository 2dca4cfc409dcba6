use Rattle.std.proofs.Common.{take}
use Rattle.std.specs.List.{flat_map}
use Rattle.fund_base.specs.Writer.{Feeds}
use Rattle.closing_log.specs.LogText.{section_text}
use Rattle.closing_log.proofs.writing.write_closed.Given as goal

abbrev pub invariant-loop-section : goal.invariant-loop-section
invariant-loop-section g l = Feeds g.W.Writer.holds l.fn.out l.out (flat_map section_text (take l.section-index l.sections))

use Rattle.std.proofs.Common.{take}
use Rattle.std.specs.List.{flat_map}
use Rattle.fund_base.specs.Writer.{Feeds}
use Rattle.wide_plan.specs.LogText.{section_text}
use Rattle.wide_plan.proofs.log_text.write_rows.Given as goal

abbrev pub invariant-loop-section : goal.invariant-loop-section
invariant-loop-section g l = Feeds g.W.Writer.holds l.fn.out l.out (flat_map section_text (take l.section-index l.sections))

use Rattle.std.proofs.Common.{take}
use Rattle.std.specs.List.{flat_map}
use Rattle.fund_base.specs.Writer.{Feeds}
use Rattle.fund_report.specs.ReportText.{in_line}
use Rattle.fund_report.proofs.writing.write_coins.Given as goal

abbrev pub invariant-loop-line : goal.invariant-loop-line
invariant-loop-line g l = Feeds g.W.Writer.holds l.fn.out l.out (flat_map in_line (take l.line-index l.lines))

use Rattle.report_check.proofs.FittingLaws.{left_iff, never_true}
use Rattle.report_check.proofs.NamingLaws.{lines_halt, lines_next, lines_over}
use Rattle.report_check.proofs.names.are_lines.Goals as goal

pub returns-in_default : goal.returns-in_default
returns-in_default c =
    never_true (lines_halt c.args.lines.now c.args.coins.now c.matching.rest.now c.matching.line-index c.line-item.result c.matching-test.true c.line-item.is c.matching.invariant c.in_default.ensures)

pub matching-preserved : goal.matching-preserved
matching-preserved c =
    lines_next c.args.lines.now c.args.coins.now c.matching.rest.now c.in-Some.next.now c.matching.line-index c.line-item.result c.matching-test.true c.line-item.is c.matching.invariant c.in-Some.ensures

pub returns : goal.returns
returns c =
    left_iff _ c.is_empty.result c.is_empty.ensures (lines_over c.args.lines.now c.args.coins.now c.matching.rest.now c.matching.line-index c.matching-test.false c.matching.invariant)

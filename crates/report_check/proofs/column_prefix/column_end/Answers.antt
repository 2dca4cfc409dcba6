use Rattle.std.proofs.Common.{sym, ◌∙◌}
use Rattle.report_check.proofs.UpToLaws.{seek_at, seek_more, seek_none}
use Rattle.report_check.proofs.column_prefix.column_end.Goals as goal

pub returns-then-ends-clause-some : goal.returns-then-ends-clause-some
returns-then-ends-clause-some c =
    seek_at c.args.steps.now c.args.row c.args.stage c.seeking.i c.index-steps-i.result c.seeking.there c.is_at-here.result c.either-now.result
    c.seeking-test.true c.index-steps-i.is c.seeking.invariant c.is_at-here.ensures c.either-now.ensures (sym c.ends.ensures ∙ c.if-ends.true)

pub seeking-preserved : goal.seeking-preserved
seeking-preserved c =
    seek_more c.args.steps.now c.args.row c.args.stage c.seeking.i c.index-steps-i.result c.seeking.there c.is_at-here.result c.either-now.result c.goes_on-there.result
    c.seeking-test.true c.index-steps-i.is c.seeking.invariant c.is_at-here.ensures c.either-now.ensures (sym c.ends.ensures ∙ c.if-ends.false) c.goes_on-there.ensures

pub returns-clause-none : goal.returns-clause-none
returns-clause-none c = λ e. seek_none c.args.steps.now c.args.row c.args.stage c.seeking.i c.seeking.there c.requires c.seeking-test.false c.seeking.invariant

use Rattle.std.proofs.Common.{ap, refl}
use Rattle.fund_report.specs.PlainFunded.{PlainFunded}
use Rattle.report_check.proofs.FittingLaws.{never_true}
use Rattle.report_check.proofs.ToldLaws.{column_backed_in, column_named_in, column_never}
use Rattle.report_check.proofs.answered.column_answered.Goals as goal

pub returns-in_default : goal.returns-in_default
returns-in_default c =
    let row = ap (λ (x : PlainFunded). x.row) c.f.view_is in
    let stage = ap (λ (x : PlainFunded). x.stage) c.f.view_is in
    never_true (column_never c.args.funding.now c.args.f.now c.args.report.now c.args.steps.now c.f.inside.row c.f.inside.stage c.requires.right.0 c.args.sections.now c.requires.steps c.requires.fine c.requires.report row stage c.requires.found c.requires.right.1 c.requires.right.2 c.requires.proved (c.in_default.ensures.none refl))

pub names_answer-requires-clause-backed : goal.names_answer-requires-clause-backed
names_answer-requires-clause-backed c =
    let row = ap (λ (x : PlainFunded). x.row) c.f.view_is in
    let stage = ap (λ (x : PlainFunded). x.stage) c.f.view_is in
    column_backed_in c.args.funding.now c.args.f.now c.args.steps.now _ c.f.inside.row c.f.inside.stage c.in-Some.end c.requires.right.0 c.args.sections.now c.requires.steps c.requires.fine refl row stage c.in-Some.ensures.some c.requires.right.1 c.requires.right.2 c.requires.proved

pub returns : goal.returns
returns c =
    let row = ap (λ (x : PlainFunded). x.row) c.f.view_is in
    let stage = ap (λ (x : PlainFunded). x.stage) c.f.view_is in
    let backed = column_backed_in c.args.funding.now c.args.f.now c.args.steps.now _ c.f.inside.row c.f.inside.stage c.in-Some.end c.requires.right.0 c.args.sections.now c.requires.steps c.requires.fine refl row stage c.in-Some.ensures.some c.requires.right.1 c.requires.right.2 c.requires.proved in
    column_named_in c.args.funding.now c.args.f.now c.args.report.now c.args.steps.now _ c.f.inside.row c.f.inside.stage c.in-Some.end c.args.sections.now c.in_ok-is.is' c.requires.steps refl c.requires.report row stage c.requires.found c.in-Some.ensures.some backed c.in_ok-is.ensures

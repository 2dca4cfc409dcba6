use Rattle.std.specs.Prelude.{◌≡◌}
use Rattle.std.proofs.Common.{ap, sym, subst, ◌∙◌}
use Rattle.closing_log.specs.declared.mark.Mark.TheVariants as mark
use Rattle.fund_report.specs.PlainFunded.{PlainFunded}
use Rattle.search_run.specs.Answer.{AreWhole}
use Rattle.report_check.proofs.FewLaws.{all_whole}
use Rattle.report_check.proofs.FittingLaws.{never_true, some_left}
use Rattle.report_check.proofs.ToldLaws.{answered_funded, answered_none, given_never, iff_ok, none_backed}
use Rattle.report_check.proofs.answered.is_answered.Goals as goal

pub whole_answered-requires-clause-backed : goal.whole_answered-requires-clause-backed
whole_answered-requires-clause-backed c =
    none_backed c.args.funding.now c.in-NoSelection.tries c.args.report.now c.args.steps.now c.args.sections.now c.requires.steps c.requires.fine c.in-NoSelection.is c.requires.right c.requires.proved

pub column_answered-requires-clause-whole : goal.column_answered-requires-clause-whole
column_answered-requires-clause-whole c = subst AreWhole (sym c.requires.steps) (all_whole c.args.funding.now)

pub column_answered-requires-in-Drawn-clause-whole : goal.column_answered-requires-in-Drawn-clause-whole
column_answered-requires-in-Drawn-clause-whole c = subst AreWhole (sym c.requires.steps) (all_whole c.args.funding.now)

pub returns-in-NoSelection : goal.returns-in-NoSelection
returns-in-NoSelection c =
    iff_ok c.whole_answered.result (answered_none c.args.funding.now c.in-NoSelection.tries c.args.report.now c.args.sections.now c.in-NoSelection.is) c.whole_answered.ensures

pub returns-then-is_empty : goal.returns-then-is_empty
returns-then-is_empty c =
    let given : c.in-Funded.f.mark ≡ mark.Given = sym (ap (λ (x : PlainFunded). x.mark) c.f.view_is) ∙ c.in-Given.is in
    iff_ok c.whole_answered-then-is_empty.result (answered_funded c.args.funding.now c.in-Funded.f c.args.report.now c.args.sections.now c.in-Funded.is (λ partial. let both = sym given ∙ partial in cc)) c.whole_answered-then-is_empty.ensures

pub returns-else-is_empty : goal.returns-else-is_empty
returns-else-is_empty c =
    let given : c.in-Funded.f.mark ≡ mark.Given = sym (ap (λ (x : PlainFunded). x.mark) c.f.view_is) ∙ c.in-Given.is in
    let asked = answered_funded c.args.funding.now c.in-Funded.f c.args.report.now c.args.sections.now c.in-Funded.is (λ partial. let both = sym given ∙ partial in cc) in
    never_true (λ answered. given_never c.args.funding.now c.in-Funded.f c.args.report.now c.args.steps.now c.args.sections.now c.requires.steps c.in-Funded.is given (some_left _ c.is_empty.result c.is_empty.ensures c.if-is_empty.false) (asked.1 answered))

pub returns-in-Exhausted : goal.returns-in-Exhausted
returns-in-Exhausted c =
    let found : c.in-Funded.f.mark ≡ mark.Exhausted = sym (ap (λ (x : PlainFunded). x.mark) c.f.view_is) ∙ c.in-Exhausted.is in
    iff_ok c.column_answered.result (answered_funded c.args.funding.now c.in-Funded.f c.args.report.now c.args.sections.now c.in-Funded.is (λ partial. let both = sym found ∙ partial in cc)) c.column_answered.ensures

pub returns-in-Drawn : goal.returns-in-Drawn
returns-in-Drawn c =
    let found : c.in-Funded.f.mark ≡ mark.Drawn = sym (ap (λ (x : PlainFunded). x.mark) c.f.view_is) ∙ c.in-Drawn.is in
    iff_ok c.column_answered-in-Drawn.result (answered_funded c.args.funding.now c.in-Funded.f c.args.report.now c.args.sections.now c.in-Funded.is (λ partial. let both = sym found ∙ partial in cc)) c.column_answered-in-Drawn.ensures

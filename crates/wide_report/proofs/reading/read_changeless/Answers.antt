use Rattle.std.proofs.Common.{◌∙◌, ap, sym}
use Rattle.closing_log.specs.declared.log.Stage.TheVariants.{Wide}
use Rattle.fund_report.specs.declared.report.Report.TheVariants as kinds
use Rattle.wide_report.specs.Reading.{as_stage}
use Rattle.wide_report.proofs.WideLaws.{same_funded}
use Rattle.wide_report.proofs.reading.read_changeless.Goals as goal

pub returns-in-Ok-Funded-clause-only : goal.returns-in-Ok-Funded-clause-only
returns-in-Ok-Funded-clause-only c = λ f is.
    let same = c.in-Ok-Funded.ensures.only (kinds.Funded f) is in
    let it = c.in-Ok-Funded.field-0-is in
    c.as_wide.ensures ∙ ap (as_stage Wide) (same_funded c.in-Ok-Funded.report f (sym it ∙ same))

pub returns-in-Ok-NoSelection-clause-only : goal.returns-in-Ok-NoSelection-clause-only
returns-in-Ok-NoSelection-clause-only c = λ f is.
    let same = c.in-Ok-NoSelection.ensures.only (kinds.Funded f) is in
    let it = c.in-Ok-NoSelection.field-0-is in
    absurd cc

pub returns-in-Ok-Unfinished-clause-only : goal.returns-in-Ok-Unfinished-clause-only
returns-in-Ok-Unfinished-clause-only c = λ f is.
    let same = c.in-Ok-Unfinished.ensures.only (kinds.Funded f) is in
    let it = c.in-Ok-Unfinished.field-0-is in
    absurd cc

pub returns-in-Err-Form-clause-only : goal.returns-in-Err-Form-clause-only
returns-in-Err-Form-clause-only c = λ f is.
    let memory = c.in-Err-Form.ensures.only (kinds.Funded f) is in
    let form = c.in-Err-Form.field-0-is in
    absurd cc

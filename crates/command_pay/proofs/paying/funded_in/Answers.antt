use Rattle.fund_report.specs.declared.report.Report.TheVariants as kinds
use Rattle.command_pay.proofs.paying.funded_in.Goals as goal

pub unreachable-requires : goal.unreachable-requires
unreachable-requires c =
    let same = c.in-Ok-NoSelection.ensures.only (kinds.Funded c.requires.0) c.requires.1 in
    let other = c.in-Ok-NoSelection.field-0-is in
    cc

pub unreachable-requires-in-Ok-Unfinished : goal.unreachable-requires-in-Ok-Unfinished
unreachable-requires-in-Ok-Unfinished c =
    let same = c.in-Ok-Unfinished.ensures.only (kinds.Funded c.requires.0) c.requires.1 in
    let other = c.in-Ok-Unfinished.field-0-is in
    cc

pub unreachable-requires-in-Err-Form : goal.unreachable-requires-in-Err-Form
unreachable-requires-in-Err-Form c =
    let memory = c.in-Err-Form.ensures.only (kinds.Funded c.requires.0) c.requires.1 in
    let form = c.in-Err-Form.field-0-is in
    cc

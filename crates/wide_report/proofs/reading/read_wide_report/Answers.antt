use Rattle.std.proofs.Common.{◌∙◌}
use Rattle.wide_report.proofs.WideLaws.{found_by, none_wide, only_by}
use Rattle.wide_report.proofs.reading.read_wide_report.Goals as goal

pub returns-in_ok-text-in-Ok-clause-found : goal.returns-in_ok-text-in-Ok-clause-found
returns-in_ok-text-in-Ok-clause-found c =
    found_by c.args.bytes.now c.in-Ok.rest.now c.deref.result.now c.in-Ok.mark c.in-Ok.row c.read_changeless.result c.in-Ok.ensures (c.deref.ensures.value ∙ c.in_ok-text-in-Ok.ensures) c.read_changeless.ensures.found

pub returns-in_ok-text-in-Ok-clause-only : goal.returns-in_ok-text-in-Ok-clause-only
returns-in_ok-text-in-Ok-clause-only c =
    only_by c.args.bytes.now c.in-Ok.rest.now c.deref.result.now c.in-Ok.mark c.in-Ok.row c.read_changeless.result c.in-Ok.ensures (c.deref.ensures.value ∙ c.in_ok-text-in-Ok.ensures) c.read_changeless.ensures.only

pub returns-in-Err-clause-only : goal.returns-in-Err-clause-only
returns-in-Err-clause-only c = λ f i. absurd (none_wide c.args.bytes.now _ f c.in-Err.ensures i)

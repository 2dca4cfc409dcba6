use Rattle.std.proofs.Common.{◌≡◌, true}
use Rattle.command_desk.proofs.TextLaws.{name_is_text, some_name}
use Rattle.fund_outside.specs.JobName.{is_job_name}
use Rattle.command_desk.proofs.line.name_of.Goals as goal

pub returns-in-Ok : goal.returns-in-Ok
returns-in-Ok c =
    let named : is_job_name c.args.word.now ≡ true = cc in
    some_name c.args.word.now c.in-Ok.name.now named c.in-Ok.ensures.cases.0

pub returns-in-Err : goal.returns-in-Err
returns-in-Err c =
    let named : is_job_name c.args.word.now ≡ true = cc in
    absurd (c.in-Err.ensures.cases.0 (name_is_text c.args.word.now named))

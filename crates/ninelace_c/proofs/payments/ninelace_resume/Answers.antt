use Rattle.std.proofs.Common.{[], Some}
use Rattle.fund_calls.proofs.DoneLaws.{resumed_on}
use Rattle.fund_calls.specs.Commands.{resume_command}
use Rattle.fund_calls.specs.Given.{PlainGiven}
use Rattle.fund_calls.specs.Results.{IsResumed}
use Rattle.ninelace_c.specs.Told.{Parts}
use Rattle.ninelace_c.proofs.Telling.{gives_done, tells_on}
use Rattle.ninelace_c.proofs.payments.ninelace_resume.Goals as goal

pub returns-clause-tells : goal.returns-clause-tells
returns-clause-tells c =
    let g : PlainGiven = record { wallet = c.args.wallet.now; blocks = c.args.blocks.now; request = c.args.request.now; report = []; log = []; tx = [] } in
    tells_on (Some resume_command) g c.args.job.now c.resume_bytes.result c.tell.result c.args.into.now c.tell.new.into c.tell.new.sizes c.resume_bytes.ensures.answers c.resume_bytes.ensures.refused c.tell.ensures

pub returns-clause-done : goal.returns-clause-done
returns-clause-done c =
    let g : PlainGiven = record { wallet = c.args.wallet.now; blocks = c.args.blocks.now; request = c.args.request.now; report = []; log = []; tx = [] } in
    gives_done (λ (p : Parts). IsResumed g c.args.job.now p.printed p.log) (Some resume_command) g (Some c.args.job.now) c.tell.result c.args.into.now c.tell.new.into c.tell.new.sizes (λ p. resumed_on g c.args.job.now p.printed p.log p.job) (returns-clause-tells c)

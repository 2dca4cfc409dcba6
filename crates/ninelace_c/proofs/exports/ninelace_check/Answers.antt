use Rattle.std.proofs.Common.{[], None, Some}
use Rattle.fund_calls.proofs.DoneLaws.{accepted}
use Rattle.fund_calls.specs.Commands.{check_command}
use Rattle.fund_calls.specs.Given.{PlainGiven}
use Rattle.fund_calls.specs.Results.{IsAccepted}
use Rattle.ninelace_c.specs.Told.{Parts}
use Rattle.ninelace_c.proofs.Telling.{gives_done, tells_alone}
use Rattle.ninelace_c.proofs.exports.ninelace_check.Goals as goal

pub returns-clause-tells : goal.returns-clause-tells
returns-clause-tells c =
    let g : PlainGiven = record { wallet = c.args.wallet.now; blocks = c.args.blocks.now; request = c.args.request.now; report = c.args.report.now; log = c.args.log.now; tx = [] } in
    tells_alone (Some check_command) g c.check_bytes.result c.tell.result c.args.into.now c.tell.new.into c.tell.new.sizes c.check_bytes.ensures.answers c.check_bytes.ensures.refused c.tell.ensures

pub returns-clause-done : goal.returns-clause-done
returns-clause-done c =
    let g : PlainGiven = record { wallet = c.args.wallet.now; blocks = c.args.blocks.now; request = c.args.request.now; report = c.args.report.now; log = c.args.log.now; tx = [] } in
    gives_done (λ (p : Parts). IsAccepted g p.printed) (Some check_command) g None c.tell.result c.args.into.now c.tell.new.into c.tell.new.sizes (λ p. accepted g p.printed p.log p.job) (returns-clause-tells c)

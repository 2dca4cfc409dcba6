use Rattle.std.proofs.Common.{[], None, Some}
use Rattle.fund_calls.proofs.DoneLaws.{settled}
use Rattle.fund_calls.specs.Commands.{settle_command}
use Rattle.fund_calls.specs.Given.{PlainGiven}
use Rattle.fund_calls.specs.Results.{IsSettlement}
use Rattle.ninelace_c.specs.Told.{Parts}
use Rattle.ninelace_c.proofs.Telling.{gives_done, tells_alone}
use Rattle.ninelace_c.proofs.exports.ninelace_settle.Goals as goal

pub returns-clause-tells : goal.returns-clause-tells
returns-clause-tells c =
    let g : PlainGiven = record { wallet = c.args.wallet.now; blocks = []; request = c.args.request.now; report = c.args.report.now; log = []; tx = c.args.tx.now } in
    tells_alone (Some settle_command) g c.settle_bytes.result c.tell.result c.args.into.now c.tell.new.into c.tell.new.sizes c.settle_bytes.ensures.answers c.settle_bytes.ensures.refused c.tell.ensures

pub returns-clause-done : goal.returns-clause-done
returns-clause-done c =
    let g : PlainGiven = record { wallet = c.args.wallet.now; blocks = []; request = c.args.request.now; report = c.args.report.now; log = []; tx = c.args.tx.now } in
    gives_done (λ (p : Parts). IsSettlement g p.printed) (Some settle_command) g None c.tell.result c.args.into.now c.tell.new.into c.tell.new.sizes (λ p. settled g p.printed p.log p.job) (returns-clause-tells c)

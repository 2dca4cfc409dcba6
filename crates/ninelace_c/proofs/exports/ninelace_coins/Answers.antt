use Rattle.std.proofs.Common.{[], None, Some}
use Rattle.fund_calls.proofs.DoneLaws.{listed}
use Rattle.fund_calls.specs.Commands.{coins_command}
use Rattle.fund_calls.specs.Given.{PlainGiven}
use Rattle.fund_calls.specs.Results.{IsListing}
use Rattle.ninelace_c.specs.Told.{Parts}
use Rattle.ninelace_c.proofs.Telling.{gives_done, tells_alone}
use Rattle.ninelace_c.proofs.exports.ninelace_coins.Goals as goal

pub returns-clause-tells : goal.returns-clause-tells
returns-clause-tells c =
    let g : PlainGiven = record { wallet = c.args.wallet.now; blocks = c.args.blocks.now; request = []; report = []; log = []; tx = [] } in
    tells_alone (Some coins_command) g c.coins_bytes.result c.tell.result c.args.into.now c.tell.new.into c.tell.new.sizes c.coins_bytes.ensures.answers c.coins_bytes.ensures.refused c.tell.ensures

pub returns-clause-done : goal.returns-clause-done
returns-clause-done c =
    let g : PlainGiven = record { wallet = c.args.wallet.now; blocks = c.args.blocks.now; request = []; report = []; log = []; tx = [] } in
    gives_done (λ (p : Parts). IsListing g p.printed) (Some coins_command) g None c.tell.result c.args.into.now c.tell.new.into c.tell.new.sizes (λ p. listed g p.printed p.log p.job) (returns-clause-tells c)

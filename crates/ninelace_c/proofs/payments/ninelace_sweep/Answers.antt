use Rattle.std.proofs.Common.{[], None, Some}
use Rattle.fund_calls.proofs.DoneLaws.{swept}
use Rattle.fund_calls.specs.Commands.{sweep_command}
use Rattle.fund_calls.specs.Given.{PlainGiven}
use Rattle.fund_calls.specs.Results.{IsSweep}
use Rattle.ninelace_c.specs.Told.{Parts}
use Rattle.ninelace_c.proofs.Telling.{gives_done, tells_alone}
use Rattle.ninelace_c.proofs.payments.ninelace_sweep.Goals as goal

pub returns-clause-tells : goal.returns-clause-tells
returns-clause-tells c =
    let g : PlainGiven = record { wallet = c.args.wallet.now; blocks = c.args.blocks.now; request = c.args.request.now; report = []; log = []; tx = [] } in
    tells_alone (Some sweep_command) g c.sweep_bytes.result c.tell.result c.args.into.now c.tell.new.into c.tell.new.sizes c.sweep_bytes.ensures.answers c.sweep_bytes.ensures.refused c.tell.ensures

pub returns-clause-done : goal.returns-clause-done
returns-clause-done c =
    let g : PlainGiven = record { wallet = c.args.wallet.now; blocks = c.args.blocks.now; request = c.args.request.now; report = []; log = []; tx = [] } in
    gives_done (λ (p : Parts). IsSweep g p.printed) (Some sweep_command) g None c.tell.result c.args.into.now c.tell.new.into c.tell.new.sizes (λ p. swept g p.printed p.log p.job) (returns-clause-tells c)

use Rattle.std.proofs.Common.{[], None, Some}
use Rattle.fund_calls.proofs.DoneLaws.{funded, none, unfinished}
use Rattle.fund_calls.specs.Commands.{fund_command}
use Rattle.fund_calls.specs.Given.{PlainGiven}
use Rattle.fund_calls.specs.Results.{IsNoPayment, IsOpenPayment, IsPayment}
use Rattle.ninelace_c.specs.Told.{Parts}
use Rattle.ninelace_c.proofs.Telling.{gives_done, gives_none, gives_open, tells_alone}
use Rattle.ninelace_c.proofs.payments.ninelace_fund.Goals as goal

pub returns-clause-tells : goal.returns-clause-tells
returns-clause-tells c =
    let g : PlainGiven = record { wallet = c.args.wallet.now; blocks = c.args.blocks.now; request = c.args.request.now; report = []; log = []; tx = [] } in
    tells_alone (Some fund_command) g c.fund_bytes.result c.tell.result c.args.into.now c.tell.new.into c.tell.new.sizes c.fund_bytes.ensures.answers c.fund_bytes.ensures.refused c.tell.ensures

pub returns-clause-done : goal.returns-clause-done
returns-clause-done c =
    let g : PlainGiven = record { wallet = c.args.wallet.now; blocks = c.args.blocks.now; request = c.args.request.now; report = []; log = []; tx = [] } in
    gives_done (λ (p : Parts). IsPayment g p.printed p.log) (Some fund_command) g None c.tell.result c.args.into.now c.tell.new.into c.tell.new.sizes (λ p. funded g p.printed p.log p.job) (returns-clause-tells c)

pub returns-clause-none : goal.returns-clause-none
returns-clause-none c =
    let g : PlainGiven = record { wallet = c.args.wallet.now; blocks = c.args.blocks.now; request = c.args.request.now; report = []; log = []; tx = [] } in
    gives_none (λ (p : Parts). IsNoPayment g p.printed p.log) (Some fund_command) g None c.tell.result c.args.into.now c.tell.new.into c.tell.new.sizes (λ p. none g p.printed p.log p.job) (returns-clause-tells c)

pub returns-clause-unfinished : goal.returns-clause-unfinished
returns-clause-unfinished c =
    let g : PlainGiven = record { wallet = c.args.wallet.now; blocks = c.args.blocks.now; request = c.args.request.now; report = []; log = []; tx = [] } in
    gives_open (λ (p : Parts). IsOpenPayment g p.printed p.job) (Some fund_command) g None c.tell.result c.args.into.now c.tell.new.into c.tell.new.sizes (λ p. unfinished g p.printed p.log p.job) (returns-clause-tells c)

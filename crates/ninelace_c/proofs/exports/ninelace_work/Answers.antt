use Rattle.std.proofs.Common.{None}
use Rattle.fund_calls.proofs.DoneLaws.{worked}
use Rattle.fund_calls.specs.Commands.{work_command}
use Rattle.fund_calls.specs.Given.{PlainGiven, no_files}
use Rattle.fund_calls.specs.Results.{IsWorked}
use Rattle.ninelace_c.specs.Told.{Parts}
use Rattle.ninelace_c.proofs.Telling.{gives_done, tells_alone}
use Rattle.ninelace_c.proofs.exports.ninelace_work.Goals as goal

pub returns-clause-tells : goal.returns-clause-tells
returns-clause-tells c =
    let g : PlainGiven = no_files in
    tells_alone (work_command c.args.number c.args.count) g c.work_bytes.result c.tell.result c.args.into.now c.tell.new.into c.tell.new.sizes c.work_bytes.ensures.answers c.work_bytes.ensures.refused c.tell.ensures

pub returns-clause-done : goal.returns-clause-done
returns-clause-done c =
    let g : PlainGiven = no_files in
    gives_done (λ (p : Parts). IsWorked c.args.number c.args.count p.printed) (work_command c.args.number c.args.count) g None c.tell.result c.args.into.now c.tell.new.into c.tell.new.sizes (λ p. worked c.args.number c.args.count p.printed p.log p.job) (returns-clause-tells c)

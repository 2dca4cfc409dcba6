use Rattle.std.specs.Prelude.{option_copied}
use Rattle.std.proofs.Common.{subst, sym}
use Rattle.report_check.specs.PaidRefused.{IsCoinRefusal}
use Rattle.report_check.proofs.FindingLaws.{take_halt, take_next, take_over}
use Rattle.report_check.proofs.coins.taken.Goals as goal

pub returns-in-Err-clause-foreign : goal.returns-in-Err-clause-foreign
returns-in-Err-clause-foreign c =
    let foreign = c.in-Err.ensures.foreign in
    subst (IsCoinRefusal c.args.presets.now c.args.rest.now (option_copied c.args.row) c.args.inputs.now) (sym foreign.0)
    (take_halt c.args.presets.now c.args.rest.now (option_copied c.args.row) c.args.inputs.now c.taking.input-index c.input-item.result c.taking.coins.items c.taking-test.true c.input-item.is c.taking.invariant foreign.1)

pub taking-preserved : goal.taking-preserved
taking-preserved c =
    take_next c.args.presets.now c.args.rest.now (option_copied c.args.row) c.args.inputs.now c.taking.input-index c.input-item.result c.taking.coins.items c.add.new.coins.items c.in-Ok.coin.now
    c.taking-test.true c.input-item.is c.taking.invariant c.in-Ok.ensures.found c.in_default.ensures

pub returns-clause-found : goal.returns-clause-found
returns-clause-found c = take_over c.args.presets.now c.args.rest.now (option_copied c.args.row) c.args.inputs.now c.taking.input-index c.taking.coins.items c.taking-test.false c.taking.invariant

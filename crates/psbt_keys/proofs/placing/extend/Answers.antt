use Rattle.psbt_keys.specs.Pairs.{type_of}
use Rattle.psbt_keys.proofs.ExtendLaws.{conflict_at, extended_next, extended_none}
use Rattle.psbt_keys.proofs.placing.extend.Goals as goal

pub adding-init : goal.adding-init
adding-init c = λ alone. extended_none c.args.pairs.now.items alone

pub adding-preserved : goal.adding-preserved
adding-preserved c = λ alone.
    extended_next c.args.due.now c.args.pairs.now.items c.adding.pairs.items c.put.new.pairs.items c.index-due-number.result c.adding.number c.adding-test.true c.index-due-number.is (c.adding.invariant alone) c.in-Ok.ensures

pub returns-in-Err : goal.returns-in-Err
returns-in-Err c = λ alone distinct other.
    let q = c.index-due-number.result in
    let w = c.in-Err.ensures other in
    (c.adding.number, type_of q, w.0, conflict_at c.args.due.now c.args.pairs.now.items c.adding.pairs.items q c.adding.number c.adding-test.true c.index-due-number.is distinct (c.adding.invariant alone) w.1)

use Rattle.std.proofs.Common.{Bor, ap, inl, inr}
use Rattle.search_run.specs.Found.{PlainFound}
use Rattle.search_run.proofs.found.choose.Goals as goal
use Rattle.search_run.proofs.found.choose.Goals.{then-beats, else-beats}
use Rattle.search_run.proofs.ChoiceLaws.{taken_at_end, taken_by, taken_init}

pub loop-f-preserved : goal.loop-f-preserved
loop-f-preserved c =
    taken_by c.args.found.now c.loop-f.f-index c.loop-f.best.now c.f-item.result c.loop-f-test.true c.f-item.is c.loop-f.invariant c.beats.result c.if-beats.best.now c.beats.ensures
    (elim c.if-beats.branch [ then-beats w ↦ inl (w.if-beats.true, ap (λ (r : Bor PlainFound). r.now) w.best-is) | else-beats w ↦ inr (w.if-beats.false, ap (λ (r : Bor PlainFound). r.now) w.best-is) ])

pub loop-f-init : goal.loop-f-init
loop-f-init c = taken_init c.args.found.now c.in_ok-best.best.now (c.in_ok-best.ensures {u = tt}).value

pub returns : goal.returns
returns c = taken_at_end c.args.found.now c.loop-f.f-index c.loop-f.best.now c.loop-f-test.false c.loop-f.invariant

use Rattle.std.proofs.Common.{arith, ap, length}
use Rattle.pick_problem.specs.declared.item.Item.{Item}
use Rattle.pick_problem.proofs.RisingLaws.{Rising-wider}
use Rattle.walk_engine.proofs.position.stands.Goals as goal

pub value-requires : goal.value-requires
value-requires c = Rising-wider c.args.next _ 0 c.args.chosen.now (omega (
  arith,
  c.if-next-count.false,
  ap
      (length {A = Item}) c.items-count.ensures.items,
)) c.requires

pub weight-requires : goal.weight-requires
weight-requires c = Rising-wider c.args.next _ 0 c.args.chosen.now (omega (
  arith,
  c.if-next-count.false,
  ap
      (length {A = Item}) c.items-count.ensures.items,
)) c.requires

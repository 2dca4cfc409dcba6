use Rattle.std.proofs.Common.{arith, ap, length}
use Rattle.pick_problem.proofs.SumLaws.{places_few}
use Rattle.wide_search.proofs.best.improve.Goals as goal

pub replace-requires : goal.replace-requires
replace-requires c =
    omega (
      arith,
      ap length c.as_slice.ensures.value,
      places_few c.args.t c.args.stack.now.places.items
          c.requires.stack.rising,
      c.requires.best.room,
      c.requires.below,
    )

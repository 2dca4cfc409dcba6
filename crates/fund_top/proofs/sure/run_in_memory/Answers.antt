use Rattle.std.proofs.Common.{refl}
use Rattle.fund_shelf.specs.SureShelf.{view_of as shelf_view}
use Rattle.fund_shelf.specs.SureSink.{view_of as sink_view}
use Rattle.fund_outside.specs.SureKeeper.{view_of as keeper_view}
use Rattle.fund_top.specs.Words.{command_of}
use Rattle.fund_top.proofs.SureLaws.{runs_in_memory}
use Rattle.fund_top.proofs.sure.run_in_memory.Goals as goal

pub returns : goal.returns
returns c =
    runs_in_memory (command_of c.args.words.now.items) (shelf_view c.args.shelf.now) (shelf_view c.run.new.shelf) (sink_view c.args.out.now) (sink_view c.run.new.out) (keeper_view c.args.keeper.now) (keeper_view c.run.new.keeper) c.run.result
    (record { reads = λ name. refl; writes = λ name. refl }) (record { reads = λ name. refl; writes = λ name. refl }) refl refl refl refl c.run.ensures.usage c.run.ensures.ends c.run.ensures.uninterrupted c.run.ensures.complete

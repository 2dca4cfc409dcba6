use Rattle.tx_codec.proofs.LentSteps.{points_lent}
use Rattle.tx_codec.proofs.lent.points_from.Goals as goal

pub returns : goal.returns
returns c = λ t body. points_lent t c.args.cursor c.count_of-left.new.cursor c.count_of-left.result body c.count_of-left.ensures

use Rattle.tx_codec.proofs.LentSteps.{scripts_lent}
use Rattle.tx_codec.proofs.lent.scripts_from.Goals as goal

pub returns : goal.returns
returns c = λ t body. scripts_lent t c.args.cursor c.pass_some_inputs.new.cursor c.count_of-left.new.cursor c.pass_some_inputs.result c.count_of-left.result body c.pass_some_inputs.ensures.gives c.pass_some_inputs.ensures.never_short c.count_of-left.ensures

use Rattle.std.proofs.lemmas.Bool.Decides.{same_from_decides}
use Rattle.fee_bump.specs.Faults.{has_signal}
use Rattle.fee_bump.proofs.GoesSteps.{signal_back, signal_told}
use Rattle.fee_bump.proofs.replaced.has_signal.Goals as goal

pub returns : goal.returns
returns c = same_from_decides c.signals.result (has_signal c.args.tx.now) c.signals.ensures (signal_told c.args.tx.now, signal_back c.args.tx.now)
